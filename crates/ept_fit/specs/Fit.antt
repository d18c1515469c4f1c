-- When nodes are fit. Each fact is of one node, or of a node and those above or below it.
use Rattle.std.specs.Prelude.{◌≡◌, ◌<◌, ◌≤◌, ◌⊎◌, ℕ, Bool, true, false, List, length, map, filter}
use Rattle.std.specs.List.{All, list_any, flat_map}
use Rattle.ept_point.specs.declared.point.Point.{Point}
use Rattle.ept_point.specs.Order.{IsAscending}
use Rattle.ept_space.specs.declared.cube.Rules.{Rules}
use Rattle.ept_space.specs.VoxelKey.{VoxelKey, IsKey, root, same_key, child, parent, is_within, is_below, AreAscending}
use Rattle.ept_space.specs.OctreeCube.{IsCube}
use Rattle.ept_sample.specs.declared.tiles.Tile.{Tile}
use Rattle.ept_sample.specs.Place.{AllInBox}
use Rattle.ept_sample.specs.Ids.{HasDistinctIds}
use Rattle.ept_sample.specs.Arrivals.{loses, losers, octant}
use Rattle.ept_core.specs.Law.{HasPoint}

-- the keys of the nodes
abbrev pub keys_in : List Tile → List VoxelKey
keys_in nodes = map (λ (node : Tile). node.key) nodes

-- the points of the nodes
abbrev pub points_in : List Tile → List Point
points_in nodes = flat_map (λ (node : Tile). node.points) nodes

-- the points of the nodes at a key and below it
abbrev pub points_within : List Tile → VoxelKey → List Point
points_within nodes top = points_in (filter (λ (node : Tile). is_within top node.key) nodes)

-- a key is one of the keys
abbrev pub is_among : List VoxelKey → VoxelKey → Bool
is_among keys key = list_any (same_key key) keys

-- ---- facts of a key

-- it is a key no deeper than the greatest depth
abbrev pub IsInOctree : Rules → VoxelKey → Type 0
IsInOctree rules key = IsKey key × (key.depth ≤ rules.cube.depth)

-- below the root, its parent is one of the keys
abbrev pub HasParent : List VoxelKey → VoxelKey → Type 0
HasParent keys key = 0 < key.depth → is_among keys (parent key) ≡ true

-- an octant of it is open: the child is one of the keys
abbrev pub has_child : List VoxelKey → VoxelKey → ℕ → Bool
has_child keys key octant = is_among keys (child key octant)

-- ---- facts of a node

-- its points lie in its box
abbrev pub LiesInBox : Rules → Tile → Type 0
LiesInBox rules node = AllInBox rules.cube node.key node.points

-- the ids of its points ascend
abbrev pub IsInOrder : Tile → Type 0
IsInOrder node = IsAscending node.points

-- it is the root, or has a point
abbrev pub IsFilled : Tile → Type 0
IsFilled node = (node.key ≡ root) ⊎ HasPoint node.points

-- no point of it that loses lies in an open octant
abbrev pub HasNoOpenLoser : Rules → List VoxelKey → Tile → Type 0
HasNoOpenLoser rules keys node =
    All (λ p. loses rules node.key.depth node.points p ≡ true → has_child keys node.key (octant rules node.key.depth p) ≡ false) node.points

-- above the greatest depth, no closed octant of it has more losers than the threshold
abbrev pub HasFewLosers : Rules → List VoxelKey → Tile → Type 0
HasFewLosers rules keys node =
    node.key.depth < rules.cube.depth → (o : ℕ) → o < 8 → has_child keys node.key o ≡ false → length (losers rules node.key.depth node.points o) ≤ rules.threshold

-- each of its points loses to the points of each node above it
abbrev pub LosesAbove : Rules → List Tile → Tile → Type 0
LosesAbove rules nodes node =
    All (λ (top : Tile). is_below top.key node.key ≡ true → All (λ p. loses rules top.key.depth top.points p ≡ true) node.points) nodes

-- each child of it has more points than the threshold, together with the nodes below the child
abbrev pub HasFullChildren : Rules → List Tile → Tile → Type 0
HasFullChildren rules nodes node =
    (o : ℕ) → o < 8 → has_child (keys_in nodes) node.key o ≡ true → rules.threshold < length (points_within nodes (child node.key o))

-- ---- all of them

-- the nodes are fit: the keys are those of an octree, ascending, and each node has what the rules ask of a node
pub record AreFit (rules : Rules) (nodes : List Tile) : Type 0 where
  pub cube : IsCube rules.cube
  pub ascend : AreAscending (keys_in nodes)
  pub keys : All (IsInOctree rules) (keys_in nodes)
  pub rooted : is_among (keys_in nodes) root ≡ true
  pub parents : All (HasParent (keys_in nodes)) (keys_in nodes)
  pub inside : All (LiesInBox rules) nodes
  pub winners : All (HasNoOpenLoser rules (keys_in nodes)) nodes
  pub few_losers : All (HasFewLosers rules (keys_in nodes)) nodes
  pub passed : All (LosesAbove rules nodes) nodes
  pub many : All (HasFullChildren rules nodes) nodes
  pub filled : All IsFilled nodes
  pub in_order : All IsInOrder nodes
  pub once : HasDistinctIds (points_in nodes)
