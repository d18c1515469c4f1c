-- When the nodes of a checkpoint are a whole octree.
use Rattle.std.specs.Prelude.{◌≡◌, ℕ, ◌<◌, ◌==◌, Bool, true, List, map, sum_by, All}
use Rattle.std.specs.List.{list_any}
use Rattle.std.specs.Int.{bit_at}
use Rattle.ept_space.specs.VoxelKey.{VoxelKey, same_key, root, parent, child, AreAscending}
use Rattle.ept_ckpt.specs.declared.node_line.NodeLine.{NodeLine}

abbrev pub keys_of : List NodeLine → List VoxelKey
keys_of nodes = map (λ line. line.key) nodes

-- the key is one of these
abbrev pub is_among : List VoxelKey → VoxelKey → Bool
is_among keys key = list_any (same_key key) keys

-- the node has its parent, unless it is the root
abbrev pub HasParent : List VoxelKey → VoxelKey → Type 0
HasParent keys key = 0 < key.depth → is_among keys (parent key) ≡ true

-- the line has a bit for each octant whose child is a node, and no other
abbrev pub TellsChildren : List VoxelKey → NodeLine → Type 0
TellsChildren keys line =
    (octant : ℕ) → octant < 8 → (bit_at line.mask octant == 1) ≡ is_among keys (child line.key octant)

-- The keys ascend, the root is one of them, and each other node has its parent. The masks mark exactly the children.
pub record AreWholeOctree (nodes : List NodeLine) : Type 0 where
  pub ascend : AreAscending (keys_of nodes)
  pub rooted : is_among (keys_of nodes) root ≡ true
  pub parents : All (HasParent (keys_of nodes)) (keys_of nodes)
  pub children : All (TellsChildren (keys_of nodes)) nodes

-- how many points the nodes have
abbrev pub points_in : List NodeLine → ℕ
points_in nodes = sum_by (λ line. line.count) nodes

-- the nodes are a whole octree of this number of points
pub record AreNodesOf (points : ℕ) (nodes : List NodeLine) : Type 0 where
  pub octree : AreWholeOctree nodes
  pub counted : points_in nodes ≡ points
