-- The facts of a node that are tried, in order, and the first that does not hold. Each fault names the failure of a
-- fact.
use Rattle.std.specs.Prelude.{◌≡◌, ◌<◌, ℕ, true, List}
use Rattle.ept_base.specs.Files.{Files}
use Rattle.ept_point.specs.declared.point.Point.{Point}
use Rattle.ept_space.specs.declared.cube.Rules.{Rules}
use Rattle.ept_space.specs.VoxelKey.{VoxelKey, child}
use Rattle.ept_sample.specs.declared.tiles.Tile.{Tile}
use Rattle.ept_hier.specs.Hierarchy.{Node, keys_of}
use Rattle.ept_fit.specs.Fit.{has_child, HasParent, LiesInBox, HasNoOpenLoser, HasFewLosers, IsFilled}
use Rattle.ept_check.specs.declared.fault.Fault.{Fault}
use Rattle.ept_check.specs.declared.fault.Fault.TheVariants.{Orphan, Outside, OpenLoser, TooMany, Above, Few, Empty, Twice}
use Rattle.ept_check.specs.Nodes.{counted_within, LoseAbove, AreNew}

-- the number of a fault, which is the place of its fact in the order
abbrev pub number_of : Fault → ℕ
number_of Orphan = 1
number_of Outside = 2
number_of OpenLoser = 3
number_of TooMany = 4
number_of Above = 6
number_of Few = 7
number_of Empty = 8
number_of Twice = 9

-- By the counts of the hierarchy, each child of a node has more points than the threshold, together with the nodes
-- below the child.
abbrev pub HasFullChildren : Rules → List Node → VoxelKey → Type 0
HasFullChildren rules nodes key =
    (o : ℕ) → o < 8 → has_child (keys_of nodes) key o ≡ true → rules.threshold < counted_within nodes (child key o)

-- a node as a tile
abbrev pub tile_of : VoxelKey → List Point → Tile
tile_of key points = record { key = key; points = points }

-- The fact whose failure a fault names. The facts about the nodes above and about those before are given.
abbrev pub Fact : (above before : Type 0) → Rules → List Node → VoxelKey → List Point → Fault → Type 0
Fact above before rules nodes key points Orphan = HasParent (keys_of nodes) key
Fact above before rules nodes key points Outside = LiesInBox rules (tile_of key points)
Fact above before rules nodes key points OpenLoser = HasNoOpenLoser rules (keys_of nodes) (tile_of key points)
Fact above before rules nodes key points TooMany = HasFewLosers rules (keys_of nodes) (tile_of key points)
Fact above before rules nodes key points Above = above
Fact above before rules nodes key points Few = HasFullChildren rules nodes key
Fact above before rules nodes key points Empty = IsFilled (tile_of key points)
Fact above before rules nodes key points Twice = before

-- the same, if the tiles of a folder determine what is above and before
abbrev pub Holds : Rules → Files → List Node → VoxelKey → List Point → Fault → Type 0
Holds rules files nodes key points =
    Fact (LoseAbove rules files nodes key points) (AreNew files nodes key points) rules nodes key points

-- the fact of this fault is the first that does not hold
pub record IsFirstLack (holds : Fault → Type 0) (why : Fault) : Type 0 where
  pub lacks : ¬ holds why
  pub before : (other : Fault) → number_of other < number_of why → holds other
