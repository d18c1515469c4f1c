use Rattle.std.proofs.Common.{◌≡◌, ◌≤◌, ◌*◌, length, take}
use Rattle.ept_grid.specs.Outgoing.{all_points}
use Rattle.ept_grid.proofs.outgoing.Outgoing.total.Given as goal

abbrev pub invariant-loop-lane : goal.invariant-loop-lane
invariant-loop-lane l = record {
  total : l.total ≡ length (all_points (take l.lane-index l.lane-items));
  small : l.total ≤ 288230376151711743 * l.lane-index;
}
