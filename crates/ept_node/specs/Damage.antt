-- What is wrong with the bytes that the spill file of a node returns.
use Rattle.std.specs.Prelude.{ℕ, ◌≡◌, ◌≢◌, ◌/◌, ◌⊎◌, min, List, length, Ok, Err}
use Rattle.ept_point.specs.declared.point.Point.{Point}
use Rattle.ept_point.specs.declared.tile.TileError.TheVariants as reading
use Rattle.ept_point.specs.Dimensions.{packed_width}
use Rattle.ept_point.specs.declared.layout.Layout.TheVariants.{New}
use Rattle.ept_point.specs.Tile.{ReadsIn}
use Rattle.ept_grid.specs.Node.{Node}
use Rattle.ept_grid.specs.declared.error.GridError.{GridError}
use Rattle.ept_grid.specs.declared.error.GridError.TheVariants.{Outside, OpenLoser, TooMany, Deep, Memory}
use Rattle.ept_grid.specs.Tile.{IsTileFault}

-- the number of the first point that does not fit a node, or the number of points if each fits alone
abbrev pub place_of : List Point → GridError → ℕ
place_of points (Outside at) = at
place_of points (OpenLoser at) = at
place_of points (TooMany octant) = length points
place_of points Deep = length points
place_of points Memory = length points

-- the bytes are those of points, and the first point that does not fit the node has this number
pub record AreUnfit (node : Node) (at : ℕ) (bytes : List ℕ) : Type 0 where
  pub points : List Point
  pub reads : ReadsIn New bytes (Ok points)
  pub fault : GridError
  pub unfit : IsTileFault node.key node.rules node.mask points fault
  pub place : place_of points fault ≡ at

-- The point of this number is the first bad one. It is no point, does not come after the one before it, or does not fit
-- the node.
abbrev pub IsWrongAt : Node → ℕ → List ℕ → Type 0
IsWrongAt node at bytes =
    ReadsIn New bytes (Err (reading.Field at)) ⊎ (ReadsIn New bytes (Err (reading.Order at)) ⊎ AreUnfit node at bytes)

-- Bytes are not those of the node's tile: `kept` bytes were kept, and `found` bytes were found. If the numbers differ,
-- `at` is the first point that is not whole in both. If they are equal, it is the first bad point.
pub record IsDamaged (node : Node) (kept found at : ℕ) (bytes : List ℕ) : Type 0 where
  pub found_all : found ≡ length bytes
  pub wrong : ((found ≢ kept) × (at ≡ min found kept / packed_width)) ⊎ ((found ≡ kept) × IsWrongAt node at bytes)
