use Rattle.std.proofs.Common.{◌≡◌, true, take}
use Rattle.std.specs.List.{All}
use Rattle.ept_sample.specs.Arrivals.{loses}
use Rattle.ept_check.proofs.above.all_lose.Given as goal

abbrev pub invariant-loop-point : goal.invariant-loop-point
invariant-loop-point l = All (λ p. loses l.grid.rules l.grid.key.depth l.grid.points p ≡ true) (take l.point-index l.points)
