use Rattle.ept_grid.specs.Columns.{spots_of}
use Rattle.ept_grid.proofs.Chains.{left}
use Rattle.ept_grid.proofs.Seeks.{IsSeeking}
use Rattle.ept_grid.proofs.seeking.seek.Given as goal

abbrev pub invariant-loop-link : goal.invariant-loop-link
invariant-loop-link g l =
    IsSeeking (spots_of l.rules l.depth l.cells) l.spot.column l.spot.level l.link l.fn.steps l.steps

abbrev pub decreases-loop-link : goal.decreases-loop-link
decreases-loop-link g l = left (spots_of l.rules l.depth l.cells) l.spot.level l.link
