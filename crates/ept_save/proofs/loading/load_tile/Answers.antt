use Rattle.std.proofs.Common.{rules}
use Rattle.std.specs.Prelude.{◌≡◌, Ok, Err}
use Rattle.ept_save.proofs.LoadedLines.{refusal-comes, sound-only, handed-on}
use Rattle.ept_save.proofs.Standing.{same-stands}
use Rattle.ept_save.proofs.loading.load_tile.Goals as goal

pub returns-clause-refusal_comes : goal.returns-clause-refusal_comes
returns-clause-refusal_comes g c = λ all told damaged.
    refusal-comes (Ok tt) c.args.saved.now.current c.args.key (g.T.Store.files c.args.store.now) all c.in_ok-load.ensures.intact tt told damaged

pub returns-clause-stands : goal.returns-clause-stands
returns-clause-stands g c = λ v stands.
    same-stands g.T.Store.files g.T.Store.may_leave g.T.Store.moment g.T.Store.image_since v c.args.store.now c.load.new.store c.load.ensures.any_moment stands

pub returns-in_err-load-clause-sound : goal.returns-in_err-load-clause-sound
returns-in_err-load-clause-sound g c = λ shelf all told sound has.
    let is : c.from_residual.result ≡ Err c.in_err-load.field-0.0 = search rules in
    let stores = sound-only c.load.result c.args.saved.now.current c.args.key (g.T.Store.files c.args.store.now) all c.load.ensures.refused c.load.ensures.only (c.load.ensures.sound shelf all sound has) told in
    handed-on c.load.result c.from_residual.result c.in_err-load.field-0.0 c.in_err-load.was is stores
