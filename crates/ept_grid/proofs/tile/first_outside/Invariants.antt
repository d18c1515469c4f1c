use Rattle.std.proofs.Common.{ℕ, ◌<◌, get_or}
use Rattle.ept_point.specs.declared.point.Point.{Point}
use Rattle.ept_space.specs.OctreeCube.{InBox}
use Rattle.ept_sample.specs.Place.{place}
use Rattle.ept_grid.proofs.tile.first_outside.Given as goal

abbrev pub invariant-loop-at : goal.invariant-loop-at
invariant-loop-at l =
    (k : ℕ) (d : Point) → k < l.at → InBox l.rules.cube l.key (place (get_or l.points k d))
