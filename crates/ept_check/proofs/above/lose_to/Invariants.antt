use Rattle.std.proofs.Common.{take}
use Rattle.ept_check.specs.Walking.{LoseTo}
use Rattle.ept_check.proofs.above.lose_to.Given as goal

abbrev pub invariant-loop-grid : goal.invariant-loop-grid
invariant-loop-grid l = LoseTo (take l.grid-index l.above) l.key l.points
