-- When nodes are those of parts with their roots joined. The statement is a clause of a function of `laws`.
use Rattle.std.specs.Prelude.{◌≡◌, ◌⊎◌, List, map}
use Rattle.ept_point.specs.declared.point.Point.{Point}
use Rattle.ept_space.specs.declared.cube.Rules.{Rules}
use Rattle.ept_space.specs.VoxelKey.{VoxelKey, root, AreAscending}
use Rattle.ept_sample.specs.declared.tiles.Tile.{Tile}
use Rattle.ept_sample.specs.Ids.{in_id_order}
use Rattle.ept_sample.specs.Members.{IsMember}
use Rattle.ept_sample.specs.Nodes.{sampled}
use Rattle.ept_sample.specs.SamplingLaws.{CanBeSampled}
use Rattle.ept_parts.specs.Parts.{Octants, part_of, AreAllOctants}
use Rattle.ept_parts.specs.PartLaws.{root_points}

-- the keys of the nodes
abbrev pub keys_in : List Tile → List VoxelKey
keys_in nodes = map (λ (node : Tile). node.key) nodes

-- the nodes of a part's sampling
abbrev pub part_nodes : Rules → Octants → List Point → List Tile
part_nodes rules octants points = sampled rules (part_of rules octants points)

-- a part has the node
abbrev pub IsOfPart : Rules → List Octants → List Point → Tile → Type 0
IsOfPart rules parts points node = (octants : Octants) × IsMember octants parts × IsMember node (part_nodes rules octants points)

-- The keys ascend, and the root is one of them. The root has the points that the parts have there, in id order. Each
-- other node is one of a part, and each of a part is one of these.
pub record AreMerged (rules : Rules) (parts : List Octants) (points : List Point) (nodes : List Tile) : Type 0 where
  pub ascend : AreAscending (keys_in nodes)
  pub rooted : IsMember root (keys_in nodes)
  pub top : (node : Tile) → IsMember node nodes → node.key ≡ root → node.points ≡ in_id_order (root_points rules parts points)
  pub taken : (node : Tile) → IsMember node nodes → (node.key ≡ root) ⊎ IsOfPart rules parts points node
  pub every : (octants : Octants) (node : Tile) → IsMember octants parts → IsMember node (part_nodes rules octants points) → (node.key ≡ root) ⊎ IsMember node nodes

-- nodes merged from all parts are the sampling of all points
abbrev pub MergedIsSampled : Type 0
MergedIsSampled =
    (rules : Rules) (parts : List Octants) (points : List Point) (nodes : List Tile) → CanBeSampled rules points → AreAllOctants parts → AreMerged rules parts points nodes → nodes ≡ sampled rules points
