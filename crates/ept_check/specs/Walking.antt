-- What the checker keeps on its way from node to node, and what follows from it.
use Rattle.std.specs.Prelude.{◌≡◌, ◌<◌, ◌≤◌, ◌-◌, ◌^◌, ◌⊎◌, ◌==◌, ◌&&◌, ◌||◌, ℕ, zero, suc, Bool, true, false, min, List, [], ◌∷◌, length, slice_index_or}
use Rattle.std.specs.List.{All, AllPairs, list_any}
use Rattle.std.specs.Option.{unwrap_or}
use Rattle.std.specs.BTreeMap.{BTreeMap, get}
use Rattle.std.specs.BTreeSet.{contains}
use Rattle.ept_point.specs.declared.point.Point.{Point}
use Rattle.ept_point.specs.declared.id.PointId.{PointId}
use Rattle.ept_point.specs.Order.{id}
use Rattle.ept_space.specs.declared.cube.Rules.{Rules}
use Rattle.ept_space.specs.VoxelKey.{VoxelKey, key_cmp, is_within, is_below}
use Rattle.ept_space.specs.OctreeCube.{IsCube}
use Rattle.ept_sample.specs.Arrivals.{loses}
use Rattle.ept_sample.specs.Members.{IsMember}
use Rattle.ept_grid.specs.Node.{Node as GridNode, IsNodeOf}
use Rattle.ept_hier.specs.Hierarchy.{Node, keys_of}
use Rattle.ept_fit.specs.Fit.{is_among}
use Rattle.ept_check.specs.declared.octree.Octree.{Octree}
use Rattle.ept_check.specs.declared.ids.Ids.{Ids}
use Rattle.ept_check.specs.Pages.{is_noted}
use Rattle.ept_check.specs.Nodes.{counted_within, AreInOctree, ComesBefore}

-- ---- the hierarchy in memory

-- the number that a map has of a key
abbrev pub total_at : BTreeMap VoxelKey ℕ → VoxelKey → ℕ
total_at totals key = unwrap_or (get key_cmp totals key) 0

-- The set has the keys of the nodes. The map has what is counted at each key and below it, up to the last number of 64
-- bits.
pub record IsOctree (octree : Octree) : Type 0 where
  pub cube : IsCube octree.rules.cube
  pub threshold_fits : octree.rules.threshold < 2 ^ 64 - 1
  pub in_octree : AreInOctree octree.rules octree.nodes.items
  pub keys_are : (key : VoxelKey) → contains key_cmp octree.keys key ≡ is_among (keys_of octree.nodes.items) key
  pub totals_are : (top : VoxelKey) → total_at octree.totals top ≡ min (counted_within octree.nodes.items top) (2 ^ 64 - 1)

-- the nodes are in preorder, each once
abbrev pub AreInPreorder : List Node → Type 0
AreInPreorder order = AllPairs (λ (a b : Node). ComesBefore a.0 b.0) order

-- a list of steps, each counted from 1, and zeros up to a length
abbrev pub padded : ℕ → List ℕ → List ℕ
padded zero steps = []
padded (suc n) [] = 0 ∷ padded n []
padded (suc n) (step ∷ steps) = suc step ∷ padded n steps

-- ---- the ids so far

-- an id is one of those so far
unfoldable pub has_id : Ids → PointId → Bool
has_id ids one = is_noted ids.pages one

-- the two ids are the same
abbrev pub is_one_id : PointId → PointId → Bool
is_one_id a b = (a.origin == b.origin) && (a.number == b.number)

-- an id is that of a point
abbrev pub is_of : List Point → PointId → Bool
is_of points one = list_any (λ p. is_one_id (id p) one) points

-- no id of the points is one of those so far
abbrev pub HaveNewIds : Ids → List Point → Type 0
HaveNewIds ids points = All (λ p. has_id ids (id p) ≡ false) points

-- ---- the nodes above

-- each point loses to the points of each of some nodes that is above the key
abbrev pub LoseTo : List GridNode → VoxelKey → List Point → Type 0
LoseTo above key points =
    All (λ (g : GridNode). is_below g.key key ≡ true → All (λ p. loses g.rules g.key.depth g.points p ≡ true) points) above

-- they are of these rules
abbrev pub AreOfRules : Rules → List GridNode → Type 0
AreOfRules rules above = All (λ (g : GridNode). g.rules ≡ rules) above

-- no node is deeper in the list than in the octree
abbrev pub IsStack : List GridNode → Type 0
IsStack above = (i : ℕ) (d : GridNode) → i < length above → i ≤ (slice_index_or above i d).key.depth

-- a node was added to those above: the nodes that are above it stay
pub record HasCome (node : GridNode) (old new : List GridNode) : Type 0 where
  pub there : IsMember node new
  pub stay : (g : GridNode) → IsMember g old → is_below g.key node.key ≡ true → IsMember g new
  pub only : (g : GridNode) → IsMember g new → IsMember g old ⊎ (g ≡ node)
