-- What holds of every folder that is complete for some points. Each statement is in the contract of a function of
-- `laws`.
use Rattle.std.specs.Prelude.{◌≡◌, ℕ, List, Contains, map}
use Rattle.std.specs.List.{AllZip}
use Rattle.ept_base.specs.Files.{Files}
use Rattle.ept_point.specs.declared.point.Point.{Point}
use Rattle.ept_space.specs.declared.box3.Box3.{Box3}
use Rattle.ept_space.specs.VoxelKey.{VoxelKey}
use Rattle.ept_sample.specs.Sampling.{sampling}
use Rattle.ept_config.specs.declared.kept.Kept.{Kept}
use Rattle.ept_hier.specs.Hierarchy.{Node}
use Rattle.ept_meta.specs.Output.{rules_of}
use Rattle.ept_save.specs.Complete.{IsComplete}
use Rattle.ept_query.specs.Complete.{IsWholePlan}
use Rattle.ept_query.specs.Damage.{HasTile}
use Rattle.ept_query.specs.Parts.{Plan, IsPart, points_of}
use Rattle.ept_query.specs.Planning.{IsPlanFor}
use Rattle.ept_query.specs.Rows.{Row, asked_rows}

-- an area and depths have their plan
abbrev pub CompleteHasPlan : Type 0
CompleteHasPlan =
    (kept : Kept) (points : List Point) (files : Files) → IsComplete kept points files → (area : Box3) (first last : ℕ) → (nodes : List Node) × IsPlanFor area first last (record { area = area; tiles = nodes }) files

-- each tile of a plan is there, with the points that the sampling puts into its node
abbrev pub CompleteHasTiles : Type 0
CompleteHasTiles =
    (kept : Kept) (points : List Point) (files : Files) → IsComplete kept points files → (area : Box3) (first last : ℕ) (plan : Plan) → IsPlanFor area first last plan files → (node : Node) → Contains plan.tiles node → HasTile files node.0 node.1 (sampling (rules_of kept) points node.0)

-- the tiles of a plan are the nodes of the sampling whose depths are asked for and whose boxes meet the area
abbrev pub PlansAreWhole : Type 0
PlansAreWhole =
    (kept : Kept) (points : List Point) (files : Files) → IsComplete kept points files → (area : Box3) (first last : ℕ) (plan : Plan) → IsPlanFor area first last plan files → IsWholePlan kept points area first last plan.tiles

-- and the points in the area of its tiles, one tile after another, are those of the rows that are asked for
abbrev pub PlansAnswer : Type 0
PlansAnswer =
    (kept : Kept) (points : List Point) (files : Files) → IsComplete kept points files → (area : Box3) (first last : ℕ) (plan : Plan) → IsPlanFor area first last plan files → (parts : List (List Point)) → AllZip (IsPart files area) plan.tiles parts → points_of parts ≡ map (λ (row : Row). row.1) (asked_rows kept points area first last)

-- a tile of any folder has one list of points
abbrev pub TileIsOfOne : Type 0
TileIsOfOne =
    (files : Files) (key : VoxelKey) (count : ℕ) (one two : List Point) → HasTile files key count one → HasTile files key count two → one ≡ two
