-- Points within bounds, and the extent of a list of points.
use Rattle.std.specs.Prelude.{◌≡◌, ℤ, List, [], Option, Some, None, All, Any}
use Rattle.ept_point.specs.declared.point.Point.{Point}
use Rattle.ept_space.specs.declared.bounds.Bounds.{Bounds}
use Rattle.ept_space.specs.Place.{coordinate}
use Rattle.ept_space.specs.ClosedBox.{IsBetween}

-- a point lies within bounds, both ends included
pub record IsWithin (bounds : Bounds) (p : Point) : Type 0 where
  pub x : IsBetween (coordinate bounds.min 0) (coordinate bounds.max 0) p.x
  pub y : IsBetween (coordinate bounds.min 1) (coordinate bounds.max 1) p.y
  pub z : IsBetween (coordinate bounds.min 2) (coordinate bounds.max 2) p.z

-- on this axis each of the points lies from the least coordinate to the greatest, and both are reached
pub record IsSpanOf (axis : Point → ℤ) (points : List Point) (least greatest : ℤ) : Type 0 where
  pub within : All (λ p. IsBetween least greatest (axis p)) points
  pub least_is : Any (λ p. axis p ≡ least) points
  pub greatest_is : Any (λ p. axis p ≡ greatest) points

-- the same on each axis: the extent of points
pub record IsExtentOf (points : List Point) (extent : Bounds) : Type 0 where
  pub x : IsSpanOf (λ p. p.x) points (coordinate extent.min 0) (coordinate extent.max 0)
  pub y : IsSpanOf (λ p. p.y) points (coordinate extent.min 1) (coordinate extent.max 1)
  pub z : IsSpanOf (λ p. p.z) points (coordinate extent.min 2) (coordinate extent.max 2)

-- the extent, which is there if and only if there are points
abbrev pub HasExtent : List Point → Option Bounds → Type 0
HasExtent points None = points ≡ []
HasExtent points (Some extent) = IsExtentOf points extent
