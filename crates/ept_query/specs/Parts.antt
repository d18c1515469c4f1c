-- What a query reads of a tile, and what it writes of it. The folder may hold anything.
use Rattle.std.specs.Prelude.{◌≡◌, ℕ, List, length, filter, slice_index_or, Option, Some}
use Rattle.std.specs.List.{flat_map}
use Rattle.ept_base.specs.Files.{Files, Tells}
use Rattle.ept_point.specs.declared.point.Point.{Point}
use Rattle.ept_point.specs.Packed.{tile}
use Rattle.ept_point.specs.Order.{IsAscending}
use Rattle.ept_space.specs.declared.box3.Box3.{Box3}
use Rattle.ept_space.specs.VoxelKey.{root}
use Rattle.ept_hier.specs.Hierarchy.{Node}
use Rattle.ept_meta.specs.Output.{tile_name}
use Rattle.ept_query.specs.Rows.{is_inside}
use Rattle.ept_query.specs.Damage.{HasTile}

-- a plan: the area that is asked for, and the tiles with their counts
pub record Plan : Type 0 where
  pub area : Box3
  pub tiles : List Node

-- the tile of this number
abbrev pub node_at : Plan → ℕ → Node
node_at plan number = slice_index_or plan.tiles number (root, 0)

-- the points that lie in an area
abbrev pub points_in : Box3 → List Point → List Point
points_in area points = filter (is_inside area) points

-- these are the points in an area of the tile of a node
pub record IsPart (files : Files) (area : Box3) (node : Node) (part : List Point) : Type 0 where
  pub points : List Point
  pub has : HasTile files node.0 node.1 points
  pub inside : part ≡ points_in area points

-- the points of parts, one after another
abbrev pub points_of : List (List Point) → List Point
points_of parts = flat_map (λ (part : List Point). part) parts

-- Bytes are the packed points in the area of a tile, and this is their number. The number of points of the tile is the
-- count of its hierarchy file. If the store's contents are visible, they are the points of its file.
pub record IsPartOf (area : Box3) (node : Node) (bytes : List ℕ) (number : ℕ) (files : Option Files) : Type 0 where
  pub points : List Point
  pub ascend : IsAscending points
  pub counted : length points ≡ node.1
  pub there : Tells (λ all. all (tile_name node.0) ≡ Some (tile points)) files
  pub bytes_are : bytes ≡ tile (points_in area points)
  pub number_is : number ≡ length (points_in area points)
