-- Which file of a folder a query finds damaged. The folder may hold anything.
use Rattle.std.specs.Prelude.{◌≡◌, ℕ, ⊤, List, length, Option, Some}
use Rattle.ept_base.specs.Files.{Files, Tells}
use Rattle.ept_point.specs.declared.point.Point.{Point}
use Rattle.ept_point.specs.Packed.{tile}
use Rattle.ept_point.specs.Order.{IsAscending}
use Rattle.ept_space.specs.declared.box3.Box3.{Box3}
use Rattle.ept_space.specs.VoxelKey.{VoxelKey, IsBefore}
use Rattle.ept_hier.specs.Hierarchy.{Entry}
use Rattle.ept_config.specs.declared.kept.Kept.{Kept}
use Rattle.ept_meta.specs.Output.{tile_name}
use Rattle.ept_query.specs.declared.search.Search.{Search}
use Rattle.ept_query.specs.declared.query_error.QueryFile.{QueryFile}
use Rattle.ept_query.specs.declared.query_error.QueryFile.TheVariants.{BuildJson, Hierarchy, Tile}
use Rattle.ept_query.specs.declared.query_error.QueryError.{QueryError}
use Rattle.ept_query.specs.declared.query_error.QueryError.TheVariants.{NotComplete, StoreFault, Damaged, SinkFault, Memory}
use Rattle.ept_query.specs.Search.{search_of}
use Rattle.ept_query.specs.Hierarchies.{HasHierarchy, HasNoHierarchy}
use Rattle.ept_query.specs.Plan.{IsBuiltWith, HasBuild, IsNeeded, EachIsThere, IsPlanned}

-- ---- which file is damaged

-- the build file is missing, or is not the build text of any settings that an output depends on
abbrev pub HasNoBuild : Files → Type 0
HasNoBuild files = (kept : Kept) → ¬ IsBuiltWith files kept

-- bytes are a tile of these points, and the number of points is the count
pub record IsTileOf (bytes : List ℕ) (count : ℕ) (points : List Point) : Type 0 where
  pub packed : bytes ≡ tile points
  pub ascend : IsAscending points
  pub counted : length points ≡ count

-- the tile of a key is there: it has these points, and their number is the count of its hierarchy file
pub record HasTile (files : Files) (key : VoxelKey) (count : ℕ) (points : List Point) : Type 0 where
  pub bytes : List ℕ
  pub there : files (tile_name key) ≡ Some bytes
  pub form : IsTileOf bytes count points

-- it is missing, malformed, or has another number of points
abbrev pub HasNoTile : Files → VoxelKey → ℕ → Type 0
HasNoTile files key count = (points : List Point) → ¬ HasTile files key count points

-- the hierarchy file of this key is, in key order, the first damaged one of those that are needed
pub record IsFirstHierarchy (search : Search) (files : Files) (key : VoxelKey) : Type 0 where
  pub needed : IsNeeded search files key
  pub damaged : HasNoHierarchy search files key
  pub first : (other : VoxelKey) → IsNeeded search files other → IsBefore other key → (entries : List Entry) × HasHierarchy search files other entries

-- no hierarchy file is damaged, and the tile of this key is, in key order, the first damaged tile of the plan
pub record IsFirstTile (search : Search) (files : Files) (key : VoxelKey) : Type 0 where
  pub each : EachIsThere search files
  pub count : ℕ
  pub planned : IsPlanned search files key count
  pub damaged : HasNoTile files key count
  pub first : (other : VoxelKey) (n : ℕ) → IsPlanned search files other n → IsBefore other key → (points : List Point) × HasTile files other n points

-- The first damaged file: the build file; otherwise a hierarchy file of the octree that the build file describes;
-- otherwise a tile.
abbrev pub IsFirstDamaged : Box3 → ℕ → ℕ → QueryFile → Files → Type 0
IsFirstDamaged area first last BuildJson files = HasNoBuild files
IsFirstDamaged area first last (Hierarchy key) files =
    HasBuild files × ((kept : Kept) → IsBuiltWith files kept → IsFirstHierarchy (search_of kept area first last) files key)
IsFirstDamaged area first last (Tile key) files =
    HasBuild files × ((kept : Kept) → IsBuiltWith files kept → IsFirstTile (search_of kept area first last) files key)

-- ---- why a file is not read

-- of a file's bytes: the file is damaged, or memory ran out
abbrev pub RefusesBytes : QueryFile → Type 0 → QueryError → Type 0
RefusesBytes file damaged NotComplete = ⊥
RefusesBytes file damaged StoreFault = ⊥
RefusesBytes file damaged (Damaged found) = (found ≡ file) × damaged
RefusesBytes file damaged SinkFault = ⊥
RefusesBytes file damaged Memory = ⊤

-- of a store: it failed, the file is damaged, or memory ran out
abbrev pub RefusesReading : QueryFile → (Files → Type 0) → Option Files → QueryError → Type 0
RefusesReading file damaged files NotComplete = ⊥
RefusesReading file damaged files StoreFault = ⊤
RefusesReading file damaged files (Damaged found) = (found ≡ file) × Tells damaged files
RefusesReading file damaged files SinkFault = ⊥
RefusesReading file damaged files Memory = ⊤

-- of the hierarchy files: the store failed, a file is the first damaged one, or memory ran out
abbrev pub RefusesWalk : Search → Option Files → QueryError → Type 0
RefusesWalk search files NotComplete = ⊥
RefusesWalk search files StoreFault = ⊤
RefusesWalk search files (Damaged BuildJson) = ⊥
RefusesWalk search files (Damaged (Hierarchy key)) = Tells (λ all. IsFirstHierarchy search all key) files
RefusesWalk search files (Damaged (Tile key)) = ⊥
RefusesWalk search files SinkFault = ⊥
RefusesWalk search files Memory = ⊤
