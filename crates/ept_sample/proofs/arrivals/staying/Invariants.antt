use Rattle.std.proofs.Common.{◌≡◌, not, filter, take}
use Rattle.ept_sample.specs.Arrivals.{goes}
use Rattle.ept_sample.proofs.arrivals.staying.Given as goal

abbrev pub invariant-loop-point : goal.invariant-loop-point
invariant-loop-point l =
    l.points.items ≡ filter (λ p. not (goes l.rules l.key.depth l.given l.opened p)) (take l.point-index l.given)
