-- What is noted of the entries of a hierarchy file, on the walk from file to file.
use Rattle.std.specs.Prelude.{◌≡◌, ◌≤◌, ◌⊎◌, ℕ, pos, negsuc, List, Contains, Option, Some, IsSome}
use Rattle.ept_base.specs.Files.{Files}
use Rattle.ept_space.specs.VoxelKey.{VoxelKey}
use Rattle.ept_hier.specs.Hierarchy.{Entry}
use Rattle.ept_query.specs.declared.search.Search.{Search}
use Rattle.ept_query.specs.Search.{MeetsArea, HasDepth}
use Rattle.ept_query.specs.Hierarchies.{HasHierarchy}

-- the links whose boxes meet the area are noted, besides the keys noted before
pub record NotesLinks (search : Search) (entries : List Entry) (old new : List VoxelKey) : Type 0 where
  pub kept : (key : VoxelKey) → Contains old key → Contains new key
  pub noted : (key : VoxelKey) → Contains entries (key, negsuc 0) → MeetsArea search key → Contains new key
  pub only : (key : VoxelKey) → Contains new key → Contains old key ⊎ (Contains entries (key, negsuc 0) × MeetsArea search key)

-- the keys with counts that are asked for are noted, besides those noted before
pub record NotesTiles (search : Search) (entries : List Entry) (old new : VoxelKey → Option ℕ) : Type 0 where
  pub kept : (key : VoxelKey) → IsSome (old key) → IsSome (new key)
  pub noted : (key : VoxelKey) (count : ℕ) → Contains entries (key, pos count) → HasDepth search key → MeetsArea search key → IsSome (new key)
  pub only : (key : VoxelKey) (count : ℕ) → new key ≡ Some count → (old key ≡ Some count) ⊎ (Contains entries (key, pos count) × HasDepth search key × MeetsArea search key)

-- no key with a count is deeper than the octree is
abbrev pub AreShallow : Search → (VoxelKey → Option ℕ) → Type 0
AreShallow search counts = (key : VoxelKey) → IsSome (counts key) → key.depth ≤ search.cube.depth

-- the hierarchy file of a key is there, and its links and counts are noted
pub record NotesFile (search : Search) (top : VoxelKey) (pending next : List VoxelKey) (counts found : VoxelKey → Option ℕ) (files : Files) : Type 0 where
  pub entries : List Entry
  pub file : HasHierarchy search files top entries
  pub links : NotesLinks search entries pending next
  pub tiles : NotesTiles search entries counts found
