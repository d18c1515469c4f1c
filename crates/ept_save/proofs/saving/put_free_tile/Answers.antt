use Rattle.std.proofs.Common.{refl, subst}
use Rattle.ept_base.specs.Files.{SameBut}
use Rattle.ept_base.specs.Moves.{Moves}
use Rattle.ept_ckpt.specs.declared.letter.Letter.{Letter}
use Rattle.ept_save.specs.Names.{work_tile_name}
use Rattle.ept_save.specs.Lines.{free_letter}
use Rattle.ept_save.proofs.Free.{free-unnamed}
use Rattle.ept_save.proofs.Standing.{tile-keeps, tile-stands}
use Rattle.ept_save.proofs.saving.put_free_tile.Goals as goal

pub returns-clause-keeps : goal.returns-clause-keeps
returns-clause-keeps g c =
    tile-keeps g.T.Store.files g.T.Store.may_leave g.T.Store.moment g.T.Store.image_since c.args.saved.now.current (free_letter c.args.saved.now.current c.args.key.now) c.args.key.now
    (free-unnamed c.args.saved.now.current c.args.key.now c.known.ensures) c.args.store.now c.put_tile.new.store
    (subst (λ (l : Letter). Moves g.T.Store.files g.T.Store.may_leave g.T.Store.moment g.T.Store.image_since (SameBut (work_tile_name l c.args.key.now)) c.args.store.now c.put_tile.new.store) c.free_letter-letter.ensures c.put_tile.ensures.one_tile)

pub returns-clause-stands : goal.returns-clause-stands
returns-clause-stands g c = λ lines.
    tile-stands g.T.Store.files g.T.Store.may_leave g.T.Store.moment g.T.Store.image_since c.args.saved.now.current (free_letter c.args.saved.now.current c.args.key.now) c.args.key.now
    (free-unnamed c.args.saved.now.current c.args.key.now c.known.ensures) c.args.store.now c.put_tile.new.store
    (subst (λ (l : Letter). Moves g.T.Store.files g.T.Store.may_leave g.T.Store.moment g.T.Store.image_since (SameBut (work_tile_name l c.args.key.now)) c.args.store.now c.put_tile.new.store) c.free_letter-letter.ensures c.put_tile.ensures.one_tile)
    c.args.saved.now (record c.args.saved.now { lines = lines }) refl refl refl
