use Rattle.ept_grid.specs.Columns.{spots_of, IsOnWay}
use Rattle.ept_grid.proofs.Chains.{left}
use Rattle.ept_grid.proofs.walk.gap_at.Given as goal

abbrev pub invariant-loop-below : goal.invariant-loop-below
invariant-loop-below l =
    IsOnWay (spots_of l.rules l.depth l.cells) l.spot.column l.spot.level l.below l.above

abbrev pub decreases-loop-below : goal.decreases-loop-below
decreases-loop-below l = left (spots_of l.rules l.depth l.cells) l.spot.level l.above
