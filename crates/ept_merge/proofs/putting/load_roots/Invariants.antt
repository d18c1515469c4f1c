use Rattle.std.proofs.Common.{◌≤◌, take}
use Rattle.ept_base.specs.Files.{SameFiles, Tells}
use Rattle.ept_base.specs.Moves.{Moves}
use Rattle.ept_merge.specs.Joining.{roots_of}
use Rattle.ept_merge.specs.Putting.{LoadsAll, AreIntact}
use Rattle.ept_merge.proofs.putting.load_roots.Given as goal

abbrev pub invariant-loop-part : goal.invariant-loop-part
invariant-loop-part g l = record {
  loads : LoadsAll l.rules (roots_of (take l.part-index l.parts)) (g.T.Store.files l.initial.store) l.initial.out.items l.out.items;
  intact : Tells (λ all. AreIntact l.rules all (roots_of (take l.part-index l.parts))) (g.T.Store.files l.initial.store);
  moves : Moves g.T.Store.files g.T.Store.may_leave g.T.Store.moment g.T.Store.image_since SameFiles l.initial.store l.store;
  later : g.T.Store.faults l.initial.store ≤ g.T.Store.faults l.store;
}
