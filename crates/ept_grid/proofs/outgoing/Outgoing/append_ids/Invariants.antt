use Rattle.std.proofs.Common.{◌≡◌, ◌++◌, take}
use Rattle.std.specs.Prelude.{map}
use Rattle.ept_grid.specs.Outgoing.{all_points}
use Rattle.ept_grid.proofs.outgoing.Outgoing.append_ids.Given as goal

abbrev pub invariant-loop-lane : goal.invariant-loop-lane
invariant-loop-lane l =
    map (λ e. e.1.now) l.out.items ≡ map (λ e. e.1.now) l.initial.out.items ++ all_points (take l.lane-index l.lane-items)
