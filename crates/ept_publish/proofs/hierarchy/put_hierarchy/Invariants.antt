use Rattle.std.proofs.Common.{◌≤◌, map, take}
use Rattle.ept_base.specs.Files.{StepsBy}
use Rattle.ept_base.specs.Moves.{Moves}
use Rattle.ept_meta.specs.Output.{hierarchy_file, names_of}
use Rattle.ept_publish.specs.Publishing.{PutsAll, SameButThese}
use Rattle.ept_publish.proofs.hierarchy.put_hierarchy.Given as goal

abbrev pub invariant-loop-file : goal.invariant-loop-file
invariant-loop-file g l = record {
  put : StepsBy (PutsAll (map hierarchy_file (take l.file-index l.files))) (g.T.Store.files l.initial.store) (g.T.Store.files l.store);
  moves : Moves g.T.Store.files g.T.Store.may_leave g.T.Store.moment g.T.Store.image_since (SameButThese (names_of (map hierarchy_file l.files))) l.initial.store l.store;
  later : g.T.Store.faults l.initial.store ≤ g.T.Store.faults l.store;
}
