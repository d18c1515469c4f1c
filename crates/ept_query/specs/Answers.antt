-- What a query or a selection returns, and what it leaves if it is refused. The folder may hold anything.
use Rattle.std.specs.Prelude.{◌≡◌, ◌⊎◌, ℕ, List, Option, None}
use Rattle.ept_base.specs.Files.{Files, Tells}
use Rattle.ept_space.specs.declared.box3.Box3.{Box3}
use Rattle.ept_space.specs.VoxelKey.{VoxelKey}
use Rattle.ept_filter.specs.declared.sift.Sift.{Sift}
use Rattle.ept_query.specs.declared.query_error.QueryFile.TheVariants.{BuildJson, Hierarchy, Tile}
use Rattle.ept_query.specs.declared.query_error.QueryError.{QueryError}
use Rattle.ept_query.specs.declared.query_error.QueryError.TheVariants.{NotComplete, StoreFault, Damaged, SinkFault, Memory}
use Rattle.ept_query.specs.Parts.{Plan}
use Rattle.ept_query.specs.Planning.{IsPlanFor}
use Rattle.ept_query.specs.Writing.{WritesAll, WritesFront, WritesBefore}

-- what is kept of the parts of all tiles of the plan was appended, and `count` is how many points that is
pub record Selects (sift : Option Sift) (area : Box3) (first last : ℕ) (old new : Option (List ℕ)) (count : ℕ) (files : Files) : Type 0 where
  pub plan : Plan
  pub is_plan : IsPlanFor area first last plan files
  pub area_is : plan.area ≡ area
  pub writes : WritesAll sift plan old new count files

-- a prefix of what is kept of the first tiles of the plan was appended
pub record Stops (sift : Option Sift) (area : Box3) (first last : ℕ) (old new : Option (List ℕ)) (files : Files) : Type 0 where
  pub plan : Plan
  pub is_plan : IsPlanFor area first last plan files
  pub area_is : plan.area ≡ area
  pub writes : WritesFront sift plan old new files

-- what is kept of the tiles of the plan before the tile of this key was appended
pub record StopsAt (sift : Option Sift) (area : Box3) (first last : ℕ) (key : VoxelKey) (old new : Option (List ℕ)) (files : Files) : Type 0 where
  pub plan : Plan
  pub is_plan : IsPlanFor area first last plan files
  pub area_is : plan.area ≡ area
  pub writes : WritesBefore sift plan key old new files

-- what a refusal leaves
abbrev pub LeavesSelection : Option Sift → Box3 → ℕ → ℕ → Option Files → Option (List ℕ) → Option (List ℕ) → QueryError → Type 0
LeavesSelection sift area first last files old new NotComplete = new ≡ old
LeavesSelection sift area first last files old new StoreFault = (new ≡ old) ⊎ Tells (Stops sift area first last old new) files
LeavesSelection sift area first last files old new (Damaged BuildJson) = new ≡ old
LeavesSelection sift area first last files old new (Damaged (Hierarchy key)) = new ≡ old
LeavesSelection sift area first last files old new (Damaged (Tile key)) = Tells (StopsAt sift area first last key old new) files
LeavesSelection sift area first last files old new SinkFault = Tells (Stops sift area first last old new) files
LeavesSelection sift area first last files old new Memory = (new ≡ old) ⊎ Tells (Stops sift area first last old new) files

-- ---- a query, which keeps all

-- the parts of all tiles of the plan were appended, and `count` is how many points they have
abbrev pub Answers : Box3 → ℕ → ℕ → Option (List ℕ) → Option (List ℕ) → ℕ → Files → Type 0
Answers area first last old new count files = Selects None area first last old new count files

-- what a refusal leaves
abbrev pub LeavesQuery : Box3 → ℕ → ℕ → Option Files → Option (List ℕ) → Option (List ℕ) → QueryError → Type 0
LeavesQuery area first last files old new error = LeavesSelection None area first last files old new error
