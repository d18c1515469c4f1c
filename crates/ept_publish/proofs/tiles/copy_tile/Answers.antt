use Rattle.std.proofs.Common.{◌≡◌, ◌∙◌, ℕ, List, subst, rules, Option, Some, None}
use Rattle.std.specs.Prelude.{Err}
use Rattle.ept_base.specs.Files.{Puts, StepsBy, Tells}
use Rattle.ept_publish.specs.Errors.{of_put}
use Rattle.ept_publish.specs.declared.error.PublishError.TheVariants.{TileDamaged}
use Rattle.ept_publish.proofs.Copying.{copied}
use Rattle.ept_publish.proofs.Naming.{put-after, same-but}
use Rattle.ept_publish.proofs.Refusing.{one-refusal, store-no-tile}
use Rattle.ept_publish.proofs.tiles.copy_tile.Goals as goal

pub returns-in_err-bytes-clause-any_moment : goal.returns-in_err-bytes-clause-any_moment
returns-in_err-bytes-clause-any_moment g c =
    same-but g.T.Store.files g.T.Store.may_leave g.T.Store.moment g.T.Store.image_since _ c.args.store.now c.saved_bytes.new.store c.saved_bytes.ensures.any_moment

pub returns-in_err-bytes-clause-damaged : goal.returns-in_err-bytes-clause-damaged
returns-in_err-bytes-clause-damaged g c = λ other told.
    let is : c.from_residual.result ≡ Err c.in_err-bytes.field-0.0 = search rules in
    c.saved_bytes.ensures.damaged other (one-refusal c.saved_bytes.result c.from_residual.result c.in_err-bytes.field-0.0 (TileDamaged other) c.in_err-bytes.was is told)

pub returns-in_err-put_tile-clause-any_moment : goal.returns-in_err-put_tile-clause-any_moment
returns-in_err-put_tile-clause-any_moment g c =
    put-after g.T.Store.files g.T.Store.may_leave g.T.Store.moment g.T.Store.image_since _ c.args.store.now c.saved_bytes.new.store c.put_tile.new.store c.saved_bytes.ensures.any_moment c.put_tile.ensures.any_moment

pub returns-in_err-put_tile-clause-damaged : goal.returns-in_err-put_tile-clause-damaged
returns-in_err-put_tile-clause-damaged g c = λ other told.
    let is : c.from_residual-in_err-put_tile.result ≡ Err (of_put c.in_err-put_tile.field-0.0) = search rules in
    absurd (store-no-tile c.put_tile.result c.from_residual-in_err-put_tile.result c.in_err-put_tile.field-0.0 c.in_err-put_tile.was is other told)

pub returns-clause-any_moment : goal.returns-clause-any_moment
returns-clause-any_moment g c =
    put-after g.T.Store.files g.T.Store.may_leave g.T.Store.moment g.T.Store.image_since _ c.args.store.now c.saved_bytes.new.store c.put_tile.new.store c.saved_bytes.ensures.any_moment c.put_tile.ensures.any_moment

pub returns-clause-ok : goal.returns-clause-ok
returns-clause-ok g c = λ points.
    copied c.args.saved.now.current c.args.key.now points c.in_ok-bytes.bytes.items c.deref.result.now c.deref.ensures.value (g.T.Store.files c.args.store.now) (g.T.Store.files c.saved_bytes.new.store) (g.T.Store.files c.put_tile.new.store) (c.in_ok-bytes.ensures.tile points) c.saved_bytes.ensures.any_moment.reads c.in_ok-put_tile.ensures.ok
