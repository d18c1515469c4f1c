-- The hierarchy files of a folder (Entwine Point Tile 1.1.0, "ept-hierarchy"): which file is well-formed, and what it
-- has.
use Rattle.std.specs.Prelude.{◌≡◌, ◌≢◌, ℕ, ◌≤◌, ◌↔◌, negsuc, List, All, Some, IsTrue}
use Rattle.std.specs.List.{Any}
use Rattle.ept_base.specs.Files.{Files}
use Rattle.ept_space.specs.VoxelKey.{VoxelKey}
use Rattle.ept_hier.specs.Hierarchy.{Entry, stands_in, is_link}
use Rattle.ept_hier.specs.Reading.{IsReading}
use Rattle.ept_meta.specs.Output.{hierarchy_name}
use Rattle.ept_query.specs.declared.search.Search.{Search}

-- An entry that the file of `top` may have. Its key is `top` or below it, no deeper than the file reaches, and no
-- deeper than the octree is. The entry has -1 if and only if it is a link, and links are as deep as the file reaches.
pub record IsEntryIn (search : Search) (top : VoxelKey) (entry : Entry) : Type 0 where
  pub stands : IsTrue (stands_in search.step top entry.0)
  pub shallow : entry.0.depth ≤ search.cube.depth
  pub link : (entry.1 ≡ negsuc 0) ↔ IsTrue (is_link search.step top entry.0)

-- an entry with the count of `top`
abbrev pub IsOwn : VoxelKey → Entry → Type 0
IsOwn top entry = (entry.0 ≡ top) × (entry.1 ≢ negsuc 0)

-- the entries are well-formed for the file of `top`, which has its own count
pub record AreOf (search : Search) (top : VoxelKey) (entries : List Entry) : Type 0 where
  pub own : Any (IsOwn top) entries
  pub each : All (IsEntryIn search top) entries

-- the hierarchy file of `top` is there, and has these entries
pub record HasHierarchy (search : Search) (files : Files) (top : VoxelKey) (entries : List Entry) : Type 0 where
  pub bytes : List ℕ
  pub there : files (hierarchy_name top) ≡ Some bytes
  pub reading : IsReading bytes entries
  pub form : AreOf search top entries

-- it is missing or malformed
abbrev pub HasNoHierarchy : Search → Files → VoxelKey → Type 0
HasNoHierarchy search files top = (entries : List Entry) → ¬ HasHierarchy search files top entries
