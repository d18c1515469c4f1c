use Rattle.std.proofs.Common.{take, vec_capacity}
use Rattle.ept_grid.specs.Contents.{IsFilled}
use Rattle.ept_grid.proofs.tile.settle_all.Given as goal

abbrev pub invariant-loop-at : goal.invariant-loop-at
invariant-loop-at l =
    IsFilled l.key l.rules l.kept.heads.items l.kept.cells.items (vec_capacity l.kept.cells) l.kept.losers (take l.at l.points)
