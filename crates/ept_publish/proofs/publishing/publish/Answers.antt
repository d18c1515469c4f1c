use Rattle.std.proofs.Common.{◌≡◌, rules}
use Rattle.std.specs.Prelude.{Err}
use Rattle.ept_base.specs.Files.{StepsBy}
use Rattle.ept_meta.specs.Output.{files_of}
use Rattle.ept_save.specs.Opening.{lines_of}
use Rattle.ept_publish.specs.Lines.{output_names}
use Rattle.ept_publish.specs.Errors.{of_put}
use Rattle.ept_publish.specs.declared.error.PublishError.TheVariants.{TileDamaged}
use Rattle.ept_publish.proofs.Refusing.{one-refusal, store-no-tile, store-only, store-stores, tile-only, undamaged-stores, no-tile-stores}
use Rattle.ept_publish.proofs.Putting.{puts-kept}
use Rattle.ept_publish.proofs.Naming.{these-both, sync-these}
use Rattle.ept_publish.proofs.publishing.publish.Goals as goal

pub returns-clause-any_moment : goal.returns-clause-any_moment
returns-clause-any_moment g c =
    let names = output_names c.args.kept.now (lines_of c.args.saved.now.current) in
    these-both g.T.Store.files g.T.Store.may_leave g.T.Store.moment g.T.Store.image_since names c.args.store.now c.put_files.new.store c.sync.new.self c.put_files.ensures.any_moment
    (sync-these g.T.Store.files g.T.Store.may_leave g.T.Store.moment g.T.Store.image_since names c.put_files.new.store c.sync.new.self c.sync.ensures.reads c.sync.ensures.images c.sync.ensures.time)

pub returns-in_err-sync-clause-any_moment : goal.returns-in_err-sync-clause-any_moment
returns-in_err-sync-clause-any_moment g c =
    let names = output_names c.args.kept.now (lines_of c.args.saved.now.current) in
    these-both g.T.Store.files g.T.Store.may_leave g.T.Store.moment g.T.Store.image_since names c.args.store.now c.put_files.new.store c.sync.new.self c.put_files.ensures.any_moment
    (sync-these g.T.Store.files g.T.Store.may_leave g.T.Store.moment g.T.Store.image_since names c.put_files.new.store c.sync.new.self c.sync.ensures.reads c.sync.ensures.images c.sync.ensures.time)

pub returns-clause-puts : goal.returns-clause-puts
returns-clause-puts g c = λ start tiles told names.
    let a = c.args in
    puts-kept (files_of a.kept.now a.counts.now a.extent.now a.points tiles) (g.T.Store.files a.store.now) (g.T.Store.files c.put_files.new.store) (g.T.Store.files c.sync.new.self) (c.in_ok-put_files.ensures.puts start tiles told names) c.sync.ensures.reads

-- ---- the files are not put

pub returns-in_err-put_files-clause-damaged : goal.returns-in_err-put_files-clause-damaged
returns-in_err-put_files-clause-damaged g c = λ key told.
    let out = c.from_residual.result in
    let is : out ≡ Err c.in_err-put_files.field-0.0 = search rules in
    c.put_files.ensures.damaged key (one-refusal c.put_files.result out c.in_err-put_files.field-0.0 (TileDamaged key) c.in_err-put_files.was is told)

pub returns-in_err-put_files-clause-only : goal.returns-in_err-put_files-clause-only
returns-in_err-put_files-clause-only g c =
    let out = c.from_residual.result in
    let is : out ≡ Err c.in_err-put_files.field-0.0 = search rules in
    tile-only c.args.saved.now.current (g.T.Store.files c.args.store.now) out
    (λ key told. c.put_files.ensures.damaged key (one-refusal c.put_files.result out c.in_err-put_files.field-0.0 (TileDamaged key) c.in_err-put_files.was is told))

pub returns-in_err-put_files-clause-undamaged : goal.returns-in_err-put_files-clause-undamaged
returns-in_err-put_files-clause-undamaged g c = λ all read none.
    let out = c.from_residual.result in
    let is : out ≡ Err c.in_err-put_files.field-0.0 = search rules in
    undamaged-stores c.args.saved.now.current (g.T.Store.files c.args.store.now) out
    (λ key told. c.put_files.ensures.damaged key (one-refusal c.put_files.result out c.in_err-put_files.field-0.0 (TileDamaged key) c.in_err-put_files.was is told)) all read none

pub returns-in_err-put_files-clause-sound : goal.returns-in_err-put_files-clause-sound
returns-in_err-put_files-clause-sound g c = λ shelf all read sound has.
    let out = c.from_residual.result in
    let is : out ≡ Err c.in_err-put_files.field-0.0 = search rules in
    no-tile-stores out (λ key told. c.put_files.ensures.sound shelf all read sound has key (one-refusal c.put_files.result out c.in_err-put_files.field-0.0 (TileDamaged key) c.in_err-put_files.was is told))

-- ---- the store is not synced

pub returns-in_err-sync-clause-damaged : goal.returns-in_err-sync-clause-damaged
returns-in_err-sync-clause-damaged g c = λ key told.
    let is : c.from_residual-in_err-sync.result ≡ Err (of_put c.in_err-sync.field-0.0) = search rules in
    absurd (store-no-tile c.sync.result c.from_residual-in_err-sync.result c.in_err-sync.field-0.0 c.in_err-sync.was is key told)

pub returns-in_err-sync-clause-only : goal.returns-in_err-sync-clause-only
returns-in_err-sync-clause-only g c =
    let is : c.from_residual-in_err-sync.result ≡ Err (of_put c.in_err-sync.field-0.0) = search rules in
    store-only c.sync.result c.from_residual-in_err-sync.result c.in_err-sync.field-0.0 c.in_err-sync.was is c.args.saved.now.current

pub returns-in_err-sync-clause-undamaged : goal.returns-in_err-sync-clause-undamaged
returns-in_err-sync-clause-undamaged g c = λ all read none.
    let is : c.from_residual-in_err-sync.result ≡ Err (of_put c.in_err-sync.field-0.0) = search rules in
    store-stores c.sync.result c.from_residual-in_err-sync.result c.in_err-sync.field-0.0 c.in_err-sync.was is

pub returns-in_err-sync-clause-sound : goal.returns-in_err-sync-clause-sound
returns-in_err-sync-clause-sound g c = λ shelf all read sound has.
    let is : c.from_residual-in_err-sync.result ≡ Err (of_put c.in_err-sync.field-0.0) = search rules in
    store-stores c.sync.result c.from_residual-in_err-sync.result c.in_err-sync.field-0.0 c.in_err-sync.was is
