-- The best point of a cell of a node, and how many cells of a column have a point.
use Rattle.std.specs.Prelude.{ℕ, ◌≡◌, ◌*◌, ◌/◌, ◌^◌, ◌==◌, ◌&&◌, Bool, false, IsTrue, List, [], ◌∷◌, slice_index, count_by, Contains}
use Rattle.std.specs.List.{All, list_any, range_with_len}
use Rattle.ept_point.specs.declared.point.Point.{Point}
use Rattle.ept_space.specs.declared.cube.Rules.{Rules}
use Rattle.ept_space.specs.VoxelKey.{VoxelKey}
use Rattle.ept_space.specs.OctreeCube.{cell_index}
use Rattle.ept_sample.specs.Members.{IsMember}
use Rattle.ept_sample.specs.Place.{place}
use Rattle.ept_sample.specs.Rank.{rank_at, is_better}

-- a cell, by its index on each axis counted from the cube's corner, lies in the box of a node
pub record IsCellOf (rules : Rules) (key : VoxelKey) (cell : List ℕ) : Type 0 where
  pub x : slice_index cell 0 / 2 ^ rules.cube.s ≡ key.x
  pub y : slice_index cell 1 / 2 ^ rules.cube.s ≡ key.y
  pub z : slice_index cell 2 / 2 ^ rules.cube.s ≡ key.z

-- a point lies in a cell of that depth
abbrev pub lies_in : Rules → ℕ → List ℕ → Point → Bool
lies_in rules depth cell p =
    (cell_index rules.cube depth (place p) 0 == slice_index cell 0) && (cell_index rules.cube depth (place p) 1 == slice_index cell 1) && (cell_index rules.cube depth (place p) 2 == slice_index cell 2)

-- no point lies in the cell
abbrev pub NoneIn : Rules → ℕ → List ℕ → List Point → Type 0
NoneIn rules depth cell points = All (λ p. lies_in rules depth cell p ≡ false) points

-- a point is one of those in the cell, and none of them has a better rank
pub record IsBestIn (rules : Rules) (depth : ℕ) (cell : List ℕ) (points : List Point) (p : Point) : Type 0 where
  pub one_of_them : Contains points p
  pub in_cell : IsTrue (lies_in rules depth cell p)
  pub best : All (λ q. IsTrue (lies_in rules depth cell q) → is_better (rank_at rules depth q) (rank_at rules depth p) ≡ false) points

-- how many cells of a node's box, at these indices on the axes x and y, have a point
unfoldable pub column_cells : Rules → VoxelKey → List Point → ℕ → ℕ → ℕ
column_cells rules key points x y =
    count_by (λ z. list_any (lies_in rules key.depth (x ∷ y ∷ z ∷ [])) points) (range_with_len (key.z * 2 ^ rules.cube.s) (2 ^ rules.cube.s))

-- a winner lies in the cell
pub record WinsIn (rules : Rules) (depth : ℕ) (cell : List ℕ) (ws : List Point) (p : Point) : Type 0 where
  pub one_of_them : IsMember p ws
  pub in_cell : IsTrue (lies_in rules depth cell p)
