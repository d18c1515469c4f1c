use Rattle.std.proofs.Common.{◌≡◌, ◌++◌, take}
use Rattle.ept_grid.specs.Outgoing.{all_points}
use Rattle.ept_grid.proofs.outgoing.Outgoing.append_to.Given as goal

abbrev pub invariant-loop-lane : goal.invariant-loop-lane
invariant-loop-lane l = l.out.items ≡ l.initial.out.items ++ all_points (take l.lane-index l.lane-items)
