-- What is sent of a folder.
use Rattle.std.specs.Prelude.{◌≡◌, ◌≤◌, ◌⊎◌, ℕ, List, Some, None, Contains}
use Rattle.std.specs.List.{flat_map}
use Rattle.ept_base.specs.Files.{Files}
use Rattle.ept_point.specs.declared.point.Point.{Point}
use Rattle.ept_point.specs.Packed.{tile}
use Rattle.ept_space.specs.declared.box3.Box3.{Box3}
use Rattle.ept_config.specs.declared.kept.Kept.{Kept}
use Rattle.ept_filter.specs.declared.sift.Sift.{Sift}
use Rattle.ept_hier.specs.Hierarchy.{Node}
use Rattle.ept_http.specs.declared.asked.Asked.TheVariants.{Select}
use Rattle.ept_http.specs.QueryWords.{IsOrdered}
use Rattle.ept_save.specs.Complete.{IsComplete}
use Rattle.ept_save.specs.Done.{IsDone}
use Rattle.ept_query.specs.Planning.{IsPlanFor}
use Rattle.ept_query.specs.Damage.{HasTile}
use Rattle.ept_query.specs.Parts.{Plan, points_in}
use Rattle.ept_query.specs.Rows.{answer, selection}
use Rattle.ept_conn.specs.Wanted.{kept_of}
use Rattle.ept_conn.specs.Answers.{Served}

-- the tile of a node is there, and these bytes are its packed points in an area
pub record HasPart (files : Files) (area : Box3) (node : Node) (bytes : List ℕ) : Type 0 where
  pub points : List Point
  pub has : HasTile files node.0 node.1 points
  pub packed : (others : List Point) → HasTile files node.0 node.1 others → bytes ≡ tile (points_in area others)

-- a folder whose done gate is open: its files are sent, each query has its plan, and the tiles of a plan are there
pub record IsOpenTo (files : Files) (served : Served) : Type 0 where
  pub folder : served.files ≡ files
  pub done : IsDone files
  pub file : (name : List ℕ) → served.file name ≡ files name
  pub plan : (area : Box3) (first second : ℕ) → IsOrdered area → first ≤ second → (nodes : List Node) × (served.plan area first second ≡ Some nodes) × IsPlanFor area first second (record { area = area; tiles = nodes }) files
  pub part : (area : Box3) (first second : ℕ) (nodes : List Node) (node : Node) → served.plan area first second ≡ Some nodes → Contains nodes node → HasPart files area node (served.part area node)

-- a folder whose done gate is not open: nothing is sent
pub record IsShutTo (files : Files) (served : Served) : Type 0 where
  pub folder : served.files ≡ files
  pub done : ¬ IsDone files
  pub file : (name : List ℕ) → served.file name ≡ None
  pub plan : (area : Box3) (first second : ℕ) → served.plan area first second ≡ None

-- what is sent of a folder in which each plan and each tile is there
abbrev pub IsServed : Files → Served → Type 0
IsServed files served = IsShutTo files served ⊎ IsOpenTo files served

-- a folder whose done gate is open, and which may lack files or have damaged ones. Its files are sent. A query has its
-- plan, and a tile of a plan has its points, if these are there.
pub record IsOpenInPart (files : Files) (served : Served) : Type 0 where
  pub folder : served.files ≡ files
  pub done : IsDone files
  pub file : (name : List ℕ) → served.file name ≡ files name
  pub plan : (area : Box3) (first second : ℕ) (plan : Plan) → IsOrdered area → first ≤ second → IsPlanFor area first second plan files → served.plan area first second ≡ Some plan.tiles
  pub part : (area : Box3) (first second : ℕ) (nodes : List Node) (node : Node) (points : List Point) → served.plan area first second ≡ Some nodes → Contains nodes node → HasTile files node.0 node.1 points → served.part area node ≡ tile (points_in area points)

-- what is sent of any folder
abbrev pub IsSentOf : Files → Served → Type 0
IsSentOf files served = IsShutTo files served ⊎ IsOpenInPart files served

-- a query has a plan in the folder
abbrev pub HasPlan : Files → Box3 → ℕ → ℕ → Type 0
HasPlan files area first second = (nodes : List Node) × IsPlanFor area first second (record { area = area; tiles = nodes }) files

-- the tile of a node is there
abbrev pub IsThere : Files → Node → Type 0
IsThere files node = (points : List Point) × HasTile files node.0 node.1 points

-- it is decided whether the done gate of a folder is open, and which plans and tiles the folder has
pub record IsDecided (files : Files) : Type 0 where
  pub done : IsDone files ⊎ (¬ IsDone files)
  pub plan : (area : Box3) (first second : ℕ) → HasPlan files area first second ⊎ (¬ HasPlan files area first second)
  pub tile : (node : Node) → IsThere files node ⊎ (¬ IsThere files node)

-- what is sent of a folder exists if this is decided
abbrev pub DecidedIsSent : Type 0
DecidedIsSent = (files : Files) → IsDecided files → (served : Served) × IsSentOf files served

-- `IsServed` is a special case of `IsSentOf`
abbrev pub ServedIsSent : Type 0
ServedIsSent = (files : Files) (served : Served) → IsServed files served → IsSentOf files served

-- so what is sent of a folder whose done gate is not open exists
abbrev pub ShutIsServed : Type 0
ShutIsServed = (files : Files) → ¬ IsDone files → (served : Served) × IsServed files served

-- and so does what is sent of a folder that is complete for some points
abbrev pub CompleteIsServed : Type 0
CompleteIsServed =
    (kept : Kept) (points : List Point) (files : Files) → IsComplete kept points files → (served : Served) × IsOpenTo files served

-- The tiles of the plan of a query of such a folder, sent one after another, are the query's result. That is the packed
-- points of the box in nodes of the depths, and nothing else.
abbrev pub QueriesAreAnswered : Type 0
QueriesAreAnswered =
    (kept : Kept) (points : List Point) (files : Files) (served : Served) → IsComplete kept points files → IsServed files served → (area : Box3) (first second : ℕ) → IsOrdered area → first ≤ second → (nodes : List Node) × (served.plan area first second ≡ Some nodes) × (flat_map (served.part area) nodes ≡ answer kept points area first second)

-- What a selection keeps of these tiles, sent one after another, is the selection's result. That is those of the same
-- points that pass, each with the dimensions asked for.
abbrev pub SelectionsAreAnswered : Type 0
SelectionsAreAnswered =
    (kept : Kept) (points : List Point) (files : Files) (served : Served) → IsComplete kept points files → IsServed files served → (area : Box3) (first second : ℕ) (sift : Sift) → IsOrdered area → first ≤ second → (nodes : List Node) × (served.plan area first second ≡ Some nodes) × (flat_map (λ (node : Node). kept_of (Select area first second sift) (served.part area node)) nodes ≡ selection sift kept points area first second)
