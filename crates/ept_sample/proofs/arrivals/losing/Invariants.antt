use Rattle.std.proofs.Common.{◌≡◌, filter, take}
use Rattle.ept_sample.specs.Arrivals.{loses}
use Rattle.ept_sample.proofs.arrivals.losing.Given as goal

abbrev pub invariant-loop-point : goal.invariant-loop-point
invariant-loop-point l = l.losers.items ≡ filter (loses l.rules l.depth l.given) (take l.point-index l.given)
