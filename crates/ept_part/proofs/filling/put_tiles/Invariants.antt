use Rattle.std.proofs.Common.{◌≤◌, map}
use Rattle.std.specs.Map.Iter.{deref_pair}
use Rattle.ept_base.specs.Files.{StepsBy}
use Rattle.ept_base.specs.Moves.{Moves}
use Rattle.ept_publish.specs.Publishing.{PutsAll}
use Rattle.ept_part.specs.Filling.{tile_file, Fills}
use Rattle.ept_part.proofs.filling.put_tiles.Given as goal

abbrev pub invariant-loop-key : goal.invariant-loop-key
invariant-loop-key g l = record {
  put : StepsBy (PutsAll (map (tile_file l.octants) (map deref_pair l.yielded))) (g.T.Store.files l.initial.store) (g.T.Store.files l.store);
  fills : Moves g.T.Store.files g.T.Store.may_leave g.T.Store.moment g.T.Store.image_since (Fills l.octants) l.initial.store l.store;
  later : g.T.Store.faults l.initial.store ≤ g.T.Store.faults l.store;
}
