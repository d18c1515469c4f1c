use Rattle.std.proofs.Common.{◌≡◌, ◌≢◌, ◌∙◌, true, false, sym, rules}
use Rattle.std.specs.Prelude.{Err}
use Rattle.std.proofs.lemmas.Slice.Eq.{slice_eq-Decides}
use Rattle.ept_save.proofs.LoadedLines.{handed-on, sound-only}
use Rattle.ept_octree_ckpt.proofs.SamePoint.{same-point}
use Rattle.ept_octree_ckpt.proofs.Compared.{found-has, found-has_not}
use Rattle.ept_save.specs.declared.error.SaveError.TheVariants.{TileDamaged}
use Rattle.ept_save.proofs.DamagedTiles.{one-refusal}
use Rattle.ept_octree_ckpt.proofs.saving.has_points.Goals as goal

pub returns-in_err-load_tile-clause-sound : goal.returns-in_err-load_tile-clause-sound
returns-in_err-load_tile-clause-sound g c = λ shelf all told sound has.
    let is : c.from_residual.result ≡ Err c.in_err-load_tile.field-0.0 = search rules in
    handed-on c.load_tile.result c.from_residual.result c.in_err-load_tile.field-0.0 c.in_err-load_tile.was is (c.load_tile.ensures.sound shelf all told sound has)

pub returns-in_err-load_tile-clause-undamaged : goal.returns-in_err-load_tile-clause-undamaged
returns-in_err-load_tile-clause-undamaged g c = λ all told none.
    let is : c.from_residual.result ≡ Err c.in_err-load_tile.field-0.0 = search rules in
    let stores = sound-only c.load_tile.result c.args.saved.now.current c.args.key (g.T.Store.files c.args.store.now) all c.load_tile.ensures.refused c.load_tile.ensures.only (none c.args.key c.requires.line) told in
    handed-on c.load_tile.result c.from_residual.result c.in_err-load_tile.field-0.0 c.in_err-load_tile.was is stores

pub returns-clause-has : goal.returns-clause-has
returns-clause-has g c = λ is.
    let same : c.as_slice.result.now ≡ c.args.points.now = (slice_eq-Decides same-point c.as_slice.result.now c.args.points.now c.eq.result c.eq.ensures).0 (search (rules, is)) in
    found-has c.args.saved.now.current c.args.key (g.T.Store.files c.args.store.now) c.new-found.result.items c.load_tile.new.out.items c.as_slice.result.now c.args.points.now c.new-found.ensures.items c.as_slice.ensures.value c.in_ok-load_tile.ensures.appended same

pub returns-clause-has_not : goal.returns-clause-has_not
returns-clause-has_not g c = λ is.
    let differ : c.as_slice.result.now ≢ c.args.points.now = λ same. (
    let also : c.eq.result ≡ true = (slice_eq-Decides same-point c.as_slice.result.now c.args.points.now c.eq.result c.eq.ensures).1 same in
    let not_same : c.eq.result ≡ false = search (rules, is) in
    let wrong : true ≡ false = sym also ∙ not_same in
    cc) in
    found-has_not c.args.saved.now.current c.args.key (g.T.Store.files c.args.store.now) c.new-found.result.items c.load_tile.new.out.items c.as_slice.result.now c.args.points.now c.new-found.ensures.items c.as_slice.ensures.value c.in_ok-load_tile.ensures.appended c.requires.newest differ

pub returns-in_err-load_tile-clause-damaged : goal.returns-in_err-load_tile-clause-damaged
returns-in_err-load_tile-clause-damaged g c = λ is.
    let also : c.from_residual.result ≡ Err c.in_err-load_tile.field-0.0 = search rules in
    (c.requires.line, c.load_tile.ensures.refused (one-refusal c.load_tile.result c.from_residual.result c.in_err-load_tile.field-0.0 (TileDamaged c.args.key) c.in_err-load_tile.was also is))
