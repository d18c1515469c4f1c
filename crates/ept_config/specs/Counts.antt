-- The number of an input's points and their extent: of which points they are, and what such a count may be.
use Rattle.std.specs.Prelude.{◌≡◌, ℕ, ◌<◌, ◌≤◌, ◌↔◌, List, length, sum_by, IsSome}
use Rattle.std.specs.Option.{ForSome}
use Rattle.ept_point.specs.declared.point.Point.{Point}
use Rattle.ept_space.specs.declared.bounds.Bounds.{Bounds}
use Rattle.ept_space.specs.CubeOfBounds.{HasPlace, IsInside}
use Rattle.ept_config.specs.declared.source_count.SourceCount.{SourceCount}
use Rattle.ept_config.specs.Extents.{HasExtent}

-- how many points an input may have: 2 ^ 40 - 1
abbrev pub most_points : ℕ
most_points = 1099511627775

-- the number of points of all counts together
abbrev pub total : List SourceCount → ℕ
total counts = sum_by (λ count. count.points) counts

-- the number of some points and their extent
pub record IsCountOf (points : List Point) (count : SourceCount) : Type 0 where
  pub number : count.points ≡ length points
  pub has_extent : HasExtent points count.extent

-- There are at most `most_points` points. There is an extent if and only if there are points. Its minimum is at most
-- its maximum on every axis, and it lies within the bounds.
pub record IsCount (bounds : Bounds) (count : SourceCount) : Type 0 where
  pub few : count.points ≤ most_points
  pub there : IsSome count.extent ↔ (0 < count.points)
  pub ordered : ForSome count.extent HasPlace
  pub inside : ForSome count.extent (IsInside bounds)
