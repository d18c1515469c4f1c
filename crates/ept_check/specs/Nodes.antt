-- The nodes of a folder: what its hierarchy counts, what its tiles have, and in which order they are tried.
use Rattle.std.specs.Prelude.{◌≡◌, ℕ, Bool, true, false, List, filter}
use Rattle.std.specs.declared.cmp.Ordering.TheVariants.{Less}
use Rattle.std.specs.Ordering.{nat_cmp}
use Rattle.std.specs.Cmp.Lexicographic.{slice_cmp}
use Rattle.std.specs.List.{All, sum_by}
use Rattle.ept_base.specs.Files.{Files}
use Rattle.ept_point.specs.declared.point.Point.{Point}
use Rattle.ept_space.specs.declared.cube.Rules.{Rules}
use Rattle.ept_space.specs.VoxelKey.{VoxelKey, is_within, is_below}
use Rattle.ept_sample.specs.Ids.{same_id}
use Rattle.ept_sample.specs.Arrivals.{loses}
use Rattle.ept_sample.specs.Members.{IsMember}
use Rattle.ept_hier.specs.Hierarchy.{Node, keys_of}
use Rattle.ept_query.specs.Damage.{HasTile}
use Rattle.ept_fit.specs.Fit.{IsInOctree}
use Rattle.ept_fit.specs.Walk.{path}

-- the sum of the counts of some nodes
abbrev pub count_of : List Node → ℕ
count_of nodes = sum_by (λ (n : Node). n.1) nodes

-- how many points the hierarchy counts at a key and below it
abbrev pub counted_within : List Node → VoxelKey → ℕ
counted_within nodes top = count_of (filter (λ (n : Node). is_within top n.0) nodes)

-- the keys of the nodes are those of an octree
abbrev pub AreInOctree : Rules → List Node → Type 0
AreInOctree rules nodes = All (IsInOctree rules) (keys_of nodes)

-- a key comes before another in preorder: a node before its children, and children by octant
abbrev pub ComesBefore : VoxelKey → VoxelKey → Type 0
ComesBefore one other = slice_cmp nat_cmp (path one) (path other) ≡ Less

-- the node of a key is one of the nodes, and its tile has these points
pub record HasNode (files : Files) (nodes : List Node) (key : VoxelKey) (points : List Point) : Type 0 where
  pub count : ℕ
  pub listed : IsMember (key, count) nodes
  pub tile : HasTile files key count points

-- each point loses to the points of each node above the key
abbrev pub LoseAbove : Rules → Files → List Node → VoxelKey → List Point → Type 0
LoseAbove rules files nodes key points =
    (top : VoxelKey) (tops : List Point) → HasNode files nodes top tops → is_below top key ≡ true → All (λ p. loses rules top.depth tops p ≡ true) points

-- no id of these points is in a node before the key
abbrev pub AreNew : Files → List Node → VoxelKey → List Point → Type 0
AreNew files nodes key points =
    (other : VoxelKey) (others : List Point) → HasNode files nodes other others → ComesBefore other key → All (λ p. All (λ q. same_id p q ≡ false) others) points
