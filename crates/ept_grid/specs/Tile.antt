-- Points and open octants as those of a node.
use Rattle.std.specs.Prelude.{ℕ, ◌≡◌, ◌≢◌, ◌<◌, Bool, true, false, ◌&&◌, not, List, length, slice_index_or, position, Some, None}
use Rattle.ept_point.specs.declared.point.Point.{Point}
use Rattle.ept_space.specs.declared.cube.Rules.{Rules}
use Rattle.ept_space.specs.VoxelKey.{VoxelKey}
use Rattle.ept_space.specs.OctreeCube.{OctreeCube, InBox}
use Rattle.ept_sample.specs.Place.{place, AllInBox}
use Rattle.ept_sample.specs.Arrivals.{loses, octant, overflows}
use Rattle.ept_grid.specs.declared.error.GridError.{GridError}
use Rattle.ept_grid.specs.declared.error.GridError.TheVariants.{Outside, OpenLoser, TooMany, Deep, Memory}
use Rattle.ept_grid.specs.Mask.{opened}

-- the point of this number is the first that lies outside the box of the key
pub record IsFirstOutside (cube : OctreeCube) (key : VoxelKey) (points : List Point) (at : ℕ) : Type 0 where
  pub within : at < length points
  pub outside : (d : Point) → ¬ InBox cube key (place (slice_index_or points at d))
  pub before : (k : ℕ) (d : Point) → k < at → InBox cube key (place (slice_index_or points k d))

-- a point loses in an open octant
abbrev pub is_open_loser : Rules → ℕ → ℕ → List Point → Point → Bool
is_open_loser rules depth mask points p = loses rules depth points p && opened mask (octant rules depth p)

-- a closed octant has more losers than the threshold, above the greatest depth
abbrev pub is_overfull : Rules → ℕ → ℕ → List Point → ℕ → Bool
is_overfull rules depth mask points o = not (opened mask o) && overflows rules depth points o

-- this is the first octant like that
pub record IsFirstOverfull (rules : Rules) (depth mask : ℕ) (points : List Point) (o : ℕ) : Type 0 where
  pub one_of_eight : o < 8
  pub overfull : is_overfull rules depth mask points o ≡ true
  pub before : (k : ℕ) → k < o → is_overfull rules depth mask points k ≡ false

-- no octant is like that
abbrev pub NoneIsOverfull : Rules → ℕ → ℕ → List Point → Type 0
NoneIsOverfull rules depth mask points = (o : ℕ) → o < 8 → is_overfull rules depth mask points o ≡ false

-- points and open octants are those of a node
pub record IsTile (key : VoxelKey) (rules : Rules) (mask : ℕ) (points : List Point) : Type 0 where
  pub inside : AllInBox rules.cube key points
  pub no_open_loser : position (is_open_loser rules key.depth mask points) points ≡ None
  pub none_overfull : NoneIsOverfull rules key.depth mask points
  pub not_deep : key.depth ≡ rules.cube.depth → mask ≡ 0

-- the first cause why they are not; running out of memory is no such cause
abbrev pub IsTileFault : VoxelKey → Rules → ℕ → List Point → GridError → Type 0
IsTileFault key rules mask points (Outside at) = IsFirstOutside rules.cube key points at
IsTileFault key rules mask points (OpenLoser at) =
    AllInBox rules.cube key points × (position (is_open_loser rules key.depth mask points) points ≡ Some at)
IsTileFault key rules mask points (TooMany o) =
    AllInBox rules.cube key points × (position (is_open_loser rules key.depth mask points) points ≡ None) × IsFirstOverfull rules key.depth mask points o
IsTileFault key rules mask points Deep =
    AllInBox rules.cube key points × (position (is_open_loser rules key.depth mask points) points ≡ None) × NoneIsOverfull rules key.depth mask points × (key.depth ≡ rules.cube.depth) × (mask ≢ 0)
IsTileFault key rules mask points Memory = ⊥
