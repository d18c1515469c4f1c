-- What the nodes above a node and the ids so far say of it.
use Rattle.std.specs.Prelude.{◌≡◌, ◌<◌, ◌||◌, List, Option, Some, None}
use Rattle.ept_point.specs.declared.point.Point.{Point}
use Rattle.ept_point.specs.declared.id.PointId.{PointId}
use Rattle.ept_space.specs.VoxelKey.{VoxelKey}
use Rattle.ept_grid.specs.Node.{Node as GridNode}
use Rattle.ept_grid.specs.declared.error.GridError.{GridError}
use Rattle.ept_grid.specs.declared.error.GridError.TheVariants as grid
use Rattle.ept_check.specs.declared.fault.Fault.{Fault}
use Rattle.ept_check.specs.declared.fault.Fault.TheVariants.{Outside, OpenLoser, TooMany}
use Rattle.ept_check.specs.declared.octree.Octree.{Octree}
use Rattle.ept_check.specs.declared.seen.Seen.{Seen}
use Rattle.ept_check.specs.Facts.{Fact, number_of}
use Rattle.ept_check.specs.Walking.{LoseTo, HaveNewIds, HasCome, has_id, is_of}

-- the fact whose failure a fault names, if the nodes so far determine what is above and before
abbrev pub Finds : Octree → Seen → VoxelKey → List Point → Fault → Type 0
Finds octree seen key points =
    Fact (LoseTo seen.above.items key points) (HaveNewIds seen.ids points) octree.rules octree.nodes.items key points

abbrev pub AreFound : Octree → Seen → VoxelKey → List Point → Type 0
AreFound octree seen key points = (fault : Fault) → Finds octree seen key points fault

-- the fact of this fault is the first that does not hold of those after the first four
pub record IsFirstLate (holds : Fault → Type 0) (why : Fault) : Type 0 where
  pub late : 5 < number_of why
  pub lacks : ¬ holds why
  pub before : (other : Fault) → 5 < number_of other → number_of other < number_of why → holds other

-- a node of these points was added to those so far
pub record HasTaken (key : VoxelKey) (points : List Point) (old new : Seen) : Type 0 where
  pub node : GridNode
  pub key_is : node.key ≡ key
  pub points_are : node.points ≡ points
  pub come : HasCome node old.above.items new.above.items
  pub ids : (q : PointId) → has_id new.ids q ≡ (has_id old.ids q || is_of points q)

-- the fault of points that are not those of a node
abbrev pub fault_of : GridError → Option Fault
fault_of (grid.Outside at) = Some Outside
fault_of (grid.OpenLoser at) = Some OpenLoser
fault_of (grid.TooMany octant) = Some TooMany
fault_of grid.Deep = None
fault_of grid.Memory = None
