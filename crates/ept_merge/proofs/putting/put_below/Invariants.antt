use Rattle.std.proofs.Common.{◌≡◌, ◌≤◌, ◌++◌, map, take, Some, None}
use Rattle.ept_base.specs.Files.{Files, Tells}
use Rattle.ept_base.specs.Moves.{Moves}
use Rattle.ept_save.specs.Current.{Keeps}
use Rattle.ept_save.specs.View.{StandsFor}
use Rattle.ept_merge.specs.Joining.{keys_of}
use Rattle.ept_merge.specs.Putting.{merged_line, AreTaken, AreIntact, ChangesTiles}
use Rattle.ept_merge.proofs.putting.put_below.Given as goal

abbrev pub invariant-loop-node : goal.invariant-loop-node
invariant-loop-node g l =
    let s = g.T.Store in
    record {
      lines : l.saved ≡ record l.initial.saved { lines = l.initial.saved.lines ++ map merged_line (take l.node-index l.nodes) };
      taken : (start : Files) → s.files l.initial.store ≡ Some start → Tells (λ now. AreTaken start now (take l.node-index l.nodes)) (s.files l.store);
      intact : Tells (λ all. AreIntact l.rules all (take l.node-index l.nodes)) (s.files l.initial.store);
      tiles : Moves s.files s.may_leave s.moment s.image_since (ChangesTiles (keys_of l.nodes)) l.initial.store l.store;
      keeps : Moves s.files s.may_leave s.moment s.image_since (Keeps None) l.initial.store l.store;
      stands : StandsFor l.initial.saved (s.files l.initial.store) (s.may_leave l.initial.store) → StandsFor l.saved (s.files l.store) (s.may_leave l.store);
      later : s.faults l.initial.store ≤ s.faults l.store;
    }
