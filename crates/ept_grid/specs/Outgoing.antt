-- The points that leave a node, by octant.
use Rattle.std.specs.Prelude.{ℕ, List, [], slice_index_or}
use Rattle.std.specs.List.{flat_map}
use Rattle.ept_point.specs.declared.point.Point.{Point}

-- the points that leave for one octant, and for how many more there is room
pub record Leaving : Type 0 where
  pub points : List Point
  pub room : ℕ

abbrev pub no_leaving : Leaving
no_leaving = record { points = []; room = 0 }

-- the points and the room of an octant
abbrev pub leaving_at : List Leaving → ℕ → Leaving
leaving_at out o = slice_index_or out o no_leaving

-- the points that leave for an octant
abbrev pub points_at : List Leaving → ℕ → List Point
points_at out o = (leaving_at out o).points

-- the points that leave, for any octant
abbrev pub all_points : List Leaving → List Point
all_points out = flat_map (λ l. l.points) out
