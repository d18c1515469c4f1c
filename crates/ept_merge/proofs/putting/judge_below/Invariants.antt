use Rattle.std.proofs.Common.{◌≤◌, take}
use Rattle.ept_base.specs.Files.{SameFiles, Tells}
use Rattle.ept_base.specs.Moves.{Moves}
use Rattle.ept_merge.specs.Putting.{AreIntact}
use Rattle.ept_merge.proofs.putting.judge_below.Given as goal

abbrev pub invariant-loop-node : goal.invariant-loop-node
invariant-loop-node g l =
    let s = g.T.Store in
    record {
      intact : Tells (λ all. AreIntact l.rules all (take l.node-index l.nodes)) (s.files l.initial.store);
      moves : Moves s.files s.may_leave s.moment s.image_since SameFiles l.initial.store l.store;
      later : s.faults l.initial.store ≤ s.faults l.store;
    }
