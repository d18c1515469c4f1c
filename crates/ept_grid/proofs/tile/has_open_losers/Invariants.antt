use Rattle.std.proofs.Common.{◌≡◌, ℕ, ◌<◌, true, length}
use Rattle.ept_grid.specs.Mask.{opened}
use Rattle.ept_grid.specs.Outgoing.{points_at}
use Rattle.ept_grid.proofs.tile.has_open_losers.Given as goal

abbrev pub invariant-loop-octant : goal.invariant-loop-octant
invariant-loop-octant l =
    (o : ℕ) → o < l.octant → opened l.mask o ≡ true → length (points_at l.losers o) ≡ 0
