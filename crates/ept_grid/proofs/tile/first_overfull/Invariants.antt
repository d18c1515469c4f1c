use Rattle.std.proofs.Common.{◌≡◌, ℕ, ◌<◌, ◌&&◌, not, false, length}
use Rattle.ept_grid.specs.Mask.{opened}
use Rattle.ept_grid.specs.Outgoing.{points_at}
use Rattle.ept_grid.specs.Contents.{opens_with}
use Rattle.ept_grid.proofs.tile.first_overfull.Given as goal

abbrev pub invariant-loop-octant : goal.invariant-loop-octant
invariant-loop-octant l =
    (o : ℕ) → o < l.octant → (not (opened l.mask o) && opens_with l.rules l.depth (length (points_at l.losers o))) ≡ false
