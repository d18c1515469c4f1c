-- What holds of each sampling. Each statement is a clause of a function of `laws`.
use Rattle.std.specs.Prelude.{◌≡◌, ◌≢◌, ◌<◌, ◌≤◌, ◌↔◌, IsTrue, List, [], length, Contains, IsPermutation}
use Rattle.std.specs.List.{flat_map}
use Rattle.ept_point.specs.declared.point.Point.{Point}
use Rattle.ept_point.specs.Order.{IsAscending}
use Rattle.ept_space.specs.declared.cube.Rules.{Rules}
use Rattle.ept_space.specs.VoxelKey.{VoxelKey, IsKey, root, parent, AreAscending}
use Rattle.ept_space.specs.OctreeCube.{IsCube}
use Rattle.ept_sample.specs.declared.tiles.Tile.{Tile}
use Rattle.ept_sample.specs.Place.{AllInCube, AllInBox}
use Rattle.ept_sample.specs.Ids.{HasDistinctIds}
use Rattle.ept_sample.specs.Sampling.{sampling, is_node}
use Rattle.ept_sample.specs.Nodes.{node_keys, sampled}

-- points of a cube, with distinct ids
pub record CanBeSampled (rules : Rules) (points : List Point) : Type 0 where
  pub cube : IsCube rules.cube
  pub inside : AllInCube rules.cube points
  pub distinct : HasDistinctIds points

-- the points of the nodes are together the points, each once
abbrev pub EachPointIsInOneNode : Type 0
EachPointIsInOneNode =
    (rules : Rules) (points : List Point) → CanBeSampled rules points → IsPermutation points (flat_map (λ (t : Tile). t.points) (sampled rules points))

-- the order of the points makes no difference
abbrev pub PointsHaveNoOrder : Type 0
PointsHaveNoOrder =
    (rules : Rules) (ps qs : List Point) → CanBeSampled rules ps → IsPermutation ps qs → sampled rules ps ≡ sampled rules qs

-- the keys are those of the nodes, and ascend
abbrev pub KeysAreTheNodes : Type 0
KeysAreTheNodes =
    (rules : Rules) (points : List Point) (key : VoxelKey) → CanBeSampled rules points → Contains (node_keys rules points) key ↔ IsTrue (is_node rules points key)

abbrev pub KeysAscend : Type 0
KeysAscend =
    (rules : Rules) (points : List Point) → AreAscending (node_keys rules points)

-- the root is a node, and each other node's parent is one
abbrev pub RootIsNode : Type 0
RootIsNode = (rules : Rules) (points : List Point) → IsTrue (is_node rules points root)

abbrev pub ParentsAreNodes : Type 0
ParentsAreNodes =
    (rules : Rules) (points : List Point) (key : VoxelKey) → IsTrue (is_node rules points key) → 0 < key.depth → IsTrue (is_node rules points (parent key))

-- no node except the root is without points
abbrev pub NodesHavePoints : Type 0
NodesHavePoints =
    (rules : Rules) (points : List Point) (key : VoxelKey) → IsTrue (is_node rules points key) → key ≢ root → sampling rules points key ≢ []

-- nodes have keys, at most as deep as the greatest depth
abbrev pub NodesHaveKeys : Type 0
NodesHaveKeys =
    (rules : Rules) (points : List Point) (key : VoxelKey) → CanBeSampled rules points → IsTrue (is_node rules points key) → IsKey key

abbrev pub NodesAreShallow : Type 0
NodesAreShallow =
    (rules : Rules) (points : List Point) (key : VoxelKey) → IsTrue (is_node rules points key) → key.depth ≤ rules.cube.depth

-- the points of a node lie in its box, and are in id order
abbrev pub PointsLieInBoxes : Type 0
PointsLieInBoxes =
    (rules : Rules) (points : List Point) (key : VoxelKey) → CanBeSampled rules points → AllInBox rules.cube key (sampling rules points key)

abbrev pub PointsAscend : Type 0
PointsAscend =
    (rules : Rules) (points : List Point) (key : VoxelKey) → HasDistinctIds points → IsAscending (sampling rules points key)

-- with more points each node is still a node, and there are at least the same number
abbrev pub MorePointsKeepNodes : Type 0
MorePointsKeepNodes =
    (rules : Rules) (ps qs : List Point) (key : VoxelKey) → HasDistinctIds ps → ((p : Point) → Contains ps p → Contains qs p) → IsTrue (is_node rules ps key) → IsTrue (is_node rules qs key)

abbrev pub MorePointsHaveMoreNodes : Type 0
MorePointsHaveMoreNodes =
    (rules : Rules) (ps qs : List Point) → HasDistinctIds ps → CanBeSampled rules qs → ((p : Point) → Contains ps p → Contains qs p) → length (node_keys rules ps) ≤ length (node_keys rules qs)
