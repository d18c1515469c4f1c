use Rattle.std.proofs.Common.{◌≡◌, ◌⊎◌, ◌≤◌, ◌<◌}
use Rattle.ept_base.specs.Causes.{Rose}
use Rattle.ept_base.specs.Devices.{counts_on}
use Rattle.ept_forest.specs.Slots.{faults_of, kept_by}
use Rattle.ept_forest.proofs.forest.retire_nodes.Given as goal

abbrev pub invariant-loop-node : goal.invariant-loop-node
invariant-loop-node g l = record {
  later : g.R.Room.faults l.initial.room ≤ g.R.Room.faults l.room;
  failed : 0 < faults_of g.F.SpillFile.faults l.initial.nodes.items → 0 < faults_of g.F.SpillFile.faults l.nodes.items ⊎ Rose (g.R.Room.faults l.initial.room) (g.R.Room.faults l.room);
  sound : faults_of g.F.SpillFile.faults l.initial.nodes.items ≡ 0 → (faults_of g.F.SpillFile.faults l.nodes.items ≡ 0) × (g.R.Room.faults l.room ≡ g.R.Room.faults l.initial.room);
  counted : counts_on (g.R.Room.keeps l.room) (kept_by g.F.SpillFile.keeps l.nodes.items) ≡ counts_on (g.R.Room.keeps l.initial.room) (kept_by g.F.SpillFile.keeps l.initial.nodes.items);
}

abbrev pub decreases-loop-node : goal.decreases-loop-node
decreases-loop-node g l = goal.left-loop-node g l
