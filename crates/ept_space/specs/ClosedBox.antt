-- Closed boxes of places.
use Rattle.std.specs.Prelude.{ℤ, ◌≤ℤ◌}
use Rattle.ept_space.specs.declared.box3.Box3.{Box3}
use Rattle.ept_space.specs.Place.{Place, coordinate}

-- a coordinate lies from a least one to a greatest, both included
abbrev pub IsBetween : ℤ → ℤ → ℤ → Type 0
IsBetween least greatest at = (least ≤ℤ at) × (at ≤ℤ greatest)

-- two intervals have a coordinate in common
abbrev pub Overlap : ℤ → ℤ → ℤ → ℤ → Type 0
Overlap a_min a_max b_min b_max = (at : ℤ) × (IsBetween a_min a_max at × IsBetween b_min b_max at)

-- a place lies in a closed box: on each axis from the least coordinate to the greatest
pub record IsIn (area : Box3) (place : Place) : Type 0 where
  pub x : IsBetween (coordinate area.min 0) (coordinate area.max 0) (coordinate place 0)
  pub y : IsBetween (coordinate area.min 1) (coordinate area.max 1) (coordinate place 1)
  pub z : IsBetween (coordinate area.min 2) (coordinate area.max 2) (coordinate place 2)

-- some place lies in both
abbrev pub Meet : Box3 → Box3 → Type 0
Meet a b = (place : Place) × (IsIn a place × IsIn b place)
