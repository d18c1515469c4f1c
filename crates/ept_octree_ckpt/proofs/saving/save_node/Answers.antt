use Rattle.std.proofs.Common.{◌≡◌, inl, inr, rules}
use Rattle.std.specs.Prelude.{Ok, Err, true, false}
use Rattle.ept_save.specs.Lines.{free_letter}
use Rattle.ept_save.specs.Names.{work_tile_name}
use Rattle.ept_save.proofs.LoadedLines.{handed-on}
use Rattle.ept_octree_ckpt.proofs.Compared.{same-but, same-keeps, but-then, keeps-then}
use Rattle.ept_octree_ckpt.proofs.SavedTo.{stays, saved-tile}
use Rattle.ept_save.specs.declared.error.SaveError.TheVariants.{TileDamaged}
use Rattle.ept_save.proofs.DamagedTiles.{one-refusal, stores-no-tile}
use Rattle.ept_octree_ckpt.proofs.saving.save_node.Goals as goal

pub returns-in_err-has_node-clause-one_tile : goal.returns-in_err-has_node-clause-one_tile
returns-in_err-has_node-clause-one_tile g c =
    same-but g.T.Store.files g.T.Store.may_leave g.T.Store.moment g.T.Store.image_since (work_tile_name (free_letter c.args.saved.now.current c.args.key) c.args.key) c.args.store.now c.has_node.new.store c.has_node.ensures.any_moment

pub returns-in_err-has_node-clause-puts : goal.returns-in_err-has_node-clause-puts
returns-in_err-has_node-clause-puts g c = λ all told. inl c.has_node.ensures.any_moment

pub returns-in_err-has_node-clause-keeps : goal.returns-in_err-has_node-clause-keeps
returns-in_err-has_node-clause-keeps g c =
    same-keeps g.T.Store.files g.T.Store.may_leave g.T.Store.moment g.T.Store.image_since c.args.saved.now.current c.args.store.now c.has_node.new.store c.has_node.ensures.any_moment

pub returns-in_err-has_node-clause-sound : goal.returns-in_err-has_node-clause-sound
returns-in_err-has_node-clause-sound g c = λ shelf all told sound has.
    let is : c.from_residual.result ≡ Err c.in_err-has_node.field-0.0 = search rules in
    handed-on c.has_node.result c.from_residual.result c.in_err-has_node.field-0.0 c.in_err-has_node.was is (c.has_node.ensures.sound shelf all told sound has)

pub returns-in_err-has_node-clause-undamaged : goal.returns-in_err-has_node-clause-undamaged
returns-in_err-has_node-clause-undamaged g c = λ all told none.
    let is : c.from_residual.result ≡ Err c.in_err-has_node.field-0.0 = search rules in
    handed-on c.has_node.result c.from_residual.result c.in_err-has_node.field-0.0 c.in_err-has_node.was is (c.has_node.ensures.undamaged all told none)

pub returns-then-branch-clause-node : goal.returns-then-branch-clause-node
returns-then-branch-clause-node g c =
    let is : c.has_node.result ≡ Ok true = search rules in
    stays c.args.saved.now c.args.key c.args.mask c.args.points.now (g.T.Store.files c.args.store.now) (g.T.Store.files c.has_node.new.store) c.requires.newest (c.has_node.ensures.told is) (c.has_node.ensures.has is) c.has_node.ensures.any_moment.reads

pub returns-then-branch-clause-one_tile : goal.returns-then-branch-clause-one_tile
returns-then-branch-clause-one_tile g c =
    same-but g.T.Store.files g.T.Store.may_leave g.T.Store.moment g.T.Store.image_since (work_tile_name (free_letter c.args.saved.now.current c.args.key) c.args.key) c.args.store.now c.has_node.new.store c.has_node.ensures.any_moment

pub returns-then-branch-clause-puts : goal.returns-then-branch-clause-puts
returns-then-branch-clause-puts g c = λ all told. inl c.has_node.ensures.any_moment

pub returns-then-branch-clause-keeps : goal.returns-then-branch-clause-keeps
returns-then-branch-clause-keeps g c =
    same-keeps g.T.Store.files g.T.Store.may_leave g.T.Store.moment g.T.Store.image_since c.args.saved.now.current c.args.store.now c.has_node.new.store c.has_node.ensures.any_moment

pub returns-clause-node : goal.returns-clause-node
returns-clause-node g c =
    saved-tile c.save_tile.result c.args.saved.now c.save_tile.new.saved c.args.key c.args.mask c.args.points.now (free_letter c.args.saved.now.current c.args.key) (g.T.Store.files c.has_node.new.store) (g.T.Store.files c.save_tile.new.store) c.save_tile.ensures.line c.save_tile.ensures.puts

pub returns-clause-one_tile : goal.returns-clause-one_tile
returns-clause-one_tile g c =
    but-then g.T.Store.files g.T.Store.may_leave g.T.Store.moment g.T.Store.image_since (work_tile_name (free_letter c.args.saved.now.current c.args.key) c.args.key) c.args.store.now c.has_node.new.store c.save_tile.new.store c.has_node.ensures.any_moment c.save_tile.ensures.one_tile

pub returns-clause-puts : goal.returns-clause-puts
returns-clause-puts g c = λ all told.
    let is : c.has_node.result ≡ Ok false = search rules in
    inr (c.has_node.ensures.has_not is all told, but-then g.T.Store.files g.T.Store.may_leave g.T.Store.moment g.T.Store.image_since (work_tile_name (free_letter c.args.saved.now.current c.args.key) c.args.key) c.args.store.now c.has_node.new.store c.save_tile.new.store c.has_node.ensures.any_moment c.save_tile.ensures.one_tile)

pub returns-clause-keeps : goal.returns-clause-keeps
returns-clause-keeps g c =
    keeps-then g.T.Store.files g.T.Store.may_leave g.T.Store.moment g.T.Store.image_since c.args.saved.now.current c.args.store.now c.has_node.new.store c.save_tile.new.store
    (same-keeps g.T.Store.files g.T.Store.may_leave g.T.Store.moment g.T.Store.image_since c.args.saved.now.current c.args.store.now c.has_node.new.store c.has_node.ensures.any_moment) c.save_tile.ensures.keeps

pub returns-in_err-has_node-clause-damaged : goal.returns-in_err-has_node-clause-damaged
returns-in_err-has_node-clause-damaged g c = λ is.
    let also : c.from_residual.result ≡ Err c.in_err-has_node.field-0.0 = search rules in
    c.has_node.ensures.damaged (one-refusal c.has_node.result c.from_residual.result c.in_err-has_node.field-0.0 (TileDamaged c.args.key) c.in_err-has_node.was also is)

pub returns-clause-damaged : goal.returns-clause-damaged
returns-clause-damaged g c = λ is. absurd (stores-no-tile c.save_tile.result c.args.key c.save_tile.ensures.only is)
