use Rattle.std.proofs.Common.{◌≡◌, ◌==◌, filter, take}
use Rattle.ept_sample.specs.Arrivals.{octant}
use Rattle.ept_sample.proofs.arrivals.in_octant.Given as goal

abbrev pub invariant-loop-point : goal.invariant-loop-point
invariant-loop-point l =
    l.found.items ≡ filter (λ p. octant l.rules l.key.depth p == l.which) (take l.point-index l.points)
