use Rattle.std.proofs.Common.{◌≡◌, ℕ, ◌<◌, false, get_or}
use Rattle.ept_point.specs.declared.point.Point.{Point}
use Rattle.ept_grid.specs.Settling.{winners, is_open_stranger}
use Rattle.ept_grid.proofs.tile.first_losing.Given as goal

abbrev pub invariant-loop-at : goal.invariant-loop-at
invariant-loop-at l =
    (k : ℕ) (d : Point) → k < l.at → is_open_stranger l.rules l.depth l.mask (winners l.cells) (get_or l.points k d) ≡ false
