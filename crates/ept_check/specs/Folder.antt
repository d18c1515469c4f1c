-- What is so of a folder whose nodes are listed. It may hold anything else.
use Rattle.std.specs.Prelude.{◌≡◌, ◌⊎◌, ℕ, List, length}
use Rattle.std.specs.List.{All}
use Rattle.ept_base.specs.Files.{Files}
use Rattle.ept_point.specs.declared.point.Point.{Point}
use Rattle.ept_space.specs.declared.cube.Rules.{Rules}
use Rattle.ept_space.specs.VoxelKey.{VoxelKey, IsBefore}
use Rattle.ept_sample.specs.declared.tiles.Tile.{Tile}
use Rattle.ept_sample.specs.Nodes.{sampled}
use Rattle.ept_sample.specs.Members.{IsMember}
use Rattle.ept_sample.specs.SamplingLaws.{CanBeSampled}
use Rattle.ept_hier.specs.Hierarchy.{Node, keys_of}
use Rattle.ept_query.specs.Damage.{HasNoTile}
use Rattle.ept_query.specs.Listed.{HasTilesOf}
use Rattle.ept_fit.specs.Fit.{HasParent, points_in}
use Rattle.ept_check.specs.declared.fault.Fault.{Fault}
use Rattle.ept_check.specs.declared.fault.Fault.TheVariants.{Orphan}
use Rattle.ept_check.specs.Nodes.{ComesBefore, HasNode}
use Rattle.ept_check.specs.Facts.{Holds, IsFirstLack}

-- It is fit: the keys and counts of the hierarchy and the tiles are the sampling of the points in the tiles. `points`
-- is the number of these points, and `count` the number of the nodes.
pub record IsFit (rules : Rules) (files : Files) (nodes : List Node) (points count : ℕ) : Type 0 where
  pub tiles : List Tile
  pub there : HasTilesOf files nodes tiles
  pub can : CanBeSampled rules (points_in tiles)
  pub sampling : tiles ≡ sampled rules (points_in tiles)
  pub points_are : points ≡ length (points_in tiles)
  pub count_is : count ≡ length nodes

-- each node except the root has its parent among the nodes
abbrev pub HaveParents : List Node → Type 0
HaveParents nodes = All (HasParent (keys_of nodes)) (keys_of nodes)

-- the key is the first of the nodes, in key order, whose parent is not among them
pub record IsFirstOrphan (nodes : List Node) (key : VoxelKey) : Type 0 where
  pub listed : IsMember key (keys_of nodes)
  pub orphan : ¬ HasParent (keys_of nodes) key
  pub first : (other : VoxelKey) → IsMember other (keys_of nodes) → IsBefore other key → HasParent (keys_of nodes) other

-- the tile of a node is there, and each fact of the node holds
pub record IsFaultless (rules : Rules) (files : Files) (nodes : List Node) (key : VoxelKey) : Type 0 where
  pub points : List Point
  pub has : HasNode files nodes key points
  pub holds : (fault : Fault) → Holds rules files nodes key points fault

-- so are the nodes before a key, in preorder
abbrev pub AreFaultlessBefore : Rules → Files → List Node → VoxelKey → Type 0
AreFaultlessBefore rules files nodes key =
    (other : VoxelKey) → IsMember other (keys_of nodes) → ComesBefore other key → IsFaultless rules files nodes other

-- Each node has its parent. The node of the key is the first, in preorder, that is damaged or has a fault. The fact of
-- this fault is the first that does not hold.
pub record IsFirstFault (rules : Rules) (files : Files) (nodes : List Node) (key : VoxelKey) (why : Fault) : Type 0 where
  pub parents : HaveParents nodes
  pub before : AreFaultlessBefore rules files nodes key
  pub points : List Point
  pub has : HasNode files nodes key points
  pub lack : IsFirstLack (Holds rules files nodes key points) why

-- the same, if the tile of the node is missing, malformed, or has another number of points
pub record IsFirstDamage (rules : Rules) (files : Files) (nodes : List Node) (key : VoxelKey) : Type 0 where
  pub parents : HaveParents nodes
  pub before : AreFaultlessBefore rules files nodes key
  pub count : ℕ
  pub listed : IsMember (key, count) nodes
  pub damaged : HasNoTile files key count

-- it is unfit: a node has no parent, or otherwise a node is the first with a fault
abbrev pub IsUnfit : Rules → Files → List Node → VoxelKey → Fault → Type 0
IsUnfit rules files nodes key why =
    ((why ≡ Orphan) × IsFirstOrphan nodes key) ⊎ IsFirstFault rules files nodes key why
