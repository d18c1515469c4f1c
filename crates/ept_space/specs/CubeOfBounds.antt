-- Bounds, and the cube of bounds, a span and a greatest depth.
use Rattle.std.specs.Prelude.{◌≡◌, ℕ, ◌-◌, ◌^◌, ◌<◌, ◌≤◌, ◌↔◌, min, max, pos, ◌-ℤ◌, ◌≤ℤ◌, ◌<ℤ◌, unsigned_abs}
use Rattle.std.specs.Int.{w32, leading_zeros}
use Rattle.ept_space.specs.declared.bounds.Bounds.{Bounds}
use Rattle.ept_space.specs.Place.{Place, coordinate}
use Rattle.ept_space.specs.OctreeCube.{OctreeCube, InCube}
use Rattle.ept_space.specs.ClosedBox.{IsBetween}

-- a place lies in the bounds, both ends included
pub record InBounds (bounds : Bounds) (place : Place) : Type 0 where
  pub x : IsBetween (coordinate bounds.min 0) (coordinate bounds.max 0) (coordinate place 0)
  pub y : IsBetween (coordinate bounds.min 1) (coordinate bounds.max 1) (coordinate place 1)
  pub z : IsBetween (coordinate bounds.min 2) (coordinate bounds.max 2) (coordinate place 2)

-- the bounds have a place: the minimum is at most the maximum on every axis
pub record HasPlace (bounds : Bounds) : Type 0 where
  pub x_ordered : coordinate bounds.min 0 ≤ℤ coordinate bounds.max 0
  pub y_ordered : coordinate bounds.min 1 ≤ℤ coordinate bounds.max 1
  pub z_ordered : coordinate bounds.min 2 ≤ℤ coordinate bounds.max 2

-- bounds lie within others: on every axis from the minimum of the others to their maximum
pub record IsInside (outer inner : Bounds) : Type 0 where
  pub x_min : coordinate outer.min 0 ≤ℤ coordinate inner.min 0
  pub y_min : coordinate outer.min 1 ≤ℤ coordinate inner.min 1
  pub z_min : coordinate outer.min 2 ≤ℤ coordinate inner.min 2
  pub x_max : coordinate inner.max 0 ≤ℤ coordinate outer.max 0
  pub y_max : coordinate inner.max 1 ≤ℤ coordinate outer.max 1
  pub z_max : coordinate inner.max 2 ≤ℤ coordinate outer.max 2

-- the span is 2 to 1024 cells, the depth at most 32, and the bounds have a place
pub record HasCube (bounds : Bounds) (s max_depth : ℕ) : Type 0 where
  pub span_low : 1 ≤ s
  pub span_high : s ≤ 10
  pub shallow : max_depth ≤ 32
  pub ordered : HasPlace bounds

-- 2 ^ e is greater than max - min on every axis
pub record Covers (bounds : Bounds) (e : ℕ) : Type 0 where
  pub x_covered : (coordinate bounds.max 0 -ℤ coordinate bounds.min 0) <ℤ pos (2 ^ e)
  pub y_covered : (coordinate bounds.max 1 -ℤ coordinate bounds.min 1) <ℤ pos (2 ^ e)
  pub z_covered : (coordinate bounds.max 2 -ℤ coordinate bounds.min 2) <ℤ pos (2 ^ e)

-- the corner is the bounds' minimum. e is the least number that is at least s and whose side covers the bounds. The
-- depth is the lesser of the greatest depth and e - s.
pub record IsCubeOf (bounds : Bounds) (s max_depth : ℕ) (cube : OctreeCube) : Type 0 where
  pub at_minimum : cube.corner ≡ bounds.min
  pub span : cube.s ≡ s
  pub holds_span : s ≤ cube.e
  pub covers : Covers bounds cube.e
  pub least : (k : ℕ) → s ≤ k → Covers bounds k → cube.e ≤ k
  pub capped : cube.depth ≡ min max_depth (cube.e - s)

-- how far the maximum is above the minimum on an axis
abbrev pub extent : Bounds → ℕ → ℕ
extent bounds axis = unsigned_abs (coordinate bounds.max axis -ℤ coordinate bounds.min axis)

-- the longest of these
abbrev pub longest : Bounds → ℕ
longest bounds = max (extent bounds 0) (max (extent bounds 1) (extent bounds 2))

-- how many binary digits a number below 2 ^ 32 has: the least k with n below 2 ^ k
abbrev pub bit_length : ℕ → ℕ
bit_length n = 32 - leading_zeros w32 n

-- the cube of bounds, as a function
unfoldable pub cube_of : Bounds → ℕ → ℕ → OctreeCube
cube_of bounds s max_depth =
    let e = max s (bit_length (longest bounds)) in
    record { corner = bounds.min; e = e; s = s; depth = min max_depth (e - s) }

-- ---- what holds of all bounds. Each statement is a clause of a function of `laws`

-- bounds that have a place lie within others if and only if the others have all their places
abbrev pub InsideByPlaces : Type 0
InsideByPlaces =
    (outer inner : Bounds) → HasPlace inner → IsInside outer inner ↔ ((place : Place) → InBounds inner place → InBounds outer place)

-- that function gives the cube of bounds that have a place and whose numbers are of 32 bits
abbrev pub FunctionGivesCube : Type 0
FunctionGivesCube =
    (bounds : Bounds) (s max_depth : ℕ) → HasPlace bounds → longest bounds < 2 ^ 32 → IsCubeOf bounds s max_depth (cube_of bounds s max_depth)

-- the places of the bounds lie in their cube
abbrev pub BoundsAreInCube : Type 0
BoundsAreInCube =
    (bounds : Bounds) (s max_depth : ℕ) (cube : OctreeCube) (place : Place) → IsCubeOf bounds s max_depth cube → InBounds bounds place → InCube cube place

-- they have one cube
abbrev pub BoundsHaveOneCube : Type 0
BoundsHaveOneCube =
    (bounds : Bounds) (s max_depth : ℕ) (a b : OctreeCube) → IsCubeOf bounds s max_depth a → IsCubeOf bounds s max_depth b → a ≡ b
