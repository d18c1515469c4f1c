-- Which files of a folder a query reads. The folder may hold anything.
use Rattle.std.specs.Prelude.{◌≡◌, ◌⊎◌, ℕ, ◌↔◌, pos, negsuc, List, Contains, Some}
use Rattle.ept_base.specs.Files.{Files}
use Rattle.ept_space.specs.VoxelKey.{VoxelKey, root, IsBefore, AreAscending}
use Rattle.ept_config.specs.declared.kept.Kept.{Kept}
use Rattle.ept_hier.specs.Hierarchy.{Entry, Node, keys_of}
use Rattle.ept_meta.specs.Output.{build_file_name}
use Rattle.ept_meta.specs.BuildText.{build_text}
use Rattle.ept_query.specs.declared.search.Search.{Search}
use Rattle.ept_query.specs.Search.{MeetsArea, HasDepth}
use Rattle.ept_query.specs.Hierarchies.{HasHierarchy}

-- the build file of the folder states what its output depends on
abbrev pub IsBuiltWith : Files → Kept → Type 0
IsBuiltWith files kept = files build_file_name ≡ Some (build_text kept)

-- the build file is there and well-formed
abbrev pub HasBuild : Files → Type 0
HasBuild files = (kept : Kept) × IsBuiltWith files kept

-- The hierarchy file of a key is needed. It is the root's, or a needed, well-formed file has a link to it. The box of
-- the key meets the area.
pub data IsNeeded (search : Search) (files : Files) : VoxelKey → Type 0 where
  at_root : MeetsArea search root → IsNeeded search files root
  behind : (top key : VoxelKey) (entries : List Entry) → IsNeeded search files top → HasHierarchy search files top entries → Contains entries (key, negsuc 0) → MeetsArea search key → IsNeeded search files key

-- each needed file is there and well-formed
abbrev pub EachIsThere : Search → Files → Type 0
EachIsThere search files =
    (key : VoxelKey) → IsNeeded search files key → (entries : List Entry) × HasHierarchy search files key entries

-- The tile of a key is one of the plan. A needed file has this count of it, its depth is asked for, and its box meets
-- the area.
pub record IsPlanned (search : Search) (files : Files) (key : VoxelKey) (count : ℕ) : Type 0 where
  pub top : VoxelKey
  pub needed : IsNeeded search files top
  pub entries : List Entry
  pub file : HasHierarchy search files top entries
  pub counted : Contains entries (key, pos count)
  pub has_depth : HasDepth search key
  pub meets : MeetsArea search key

-- the tiles of the plan with their counts, in key order, each once
pub record IsPlan (search : Search) (files : Files) (tiles : List Node) : Type 0 where
  pub ascend : AreAscending (keys_of tiles)
  pub each : (key : VoxelKey) (count : ℕ) → Contains tiles (key, count) ↔ IsPlanned search files key count

-- a list has each key whose hierarchy file is needed
abbrev pub HasNeeded : Search → Files → List VoxelKey → Type 0
HasNeeded search files keys = (key : VoxelKey) → IsNeeded search files key → Contains keys key

-- a list has each key whose tile is one of the plan
abbrev pub HasPlanned : Search → Files → List VoxelKey → Type 0
HasPlanned search files keys = (key : VoxelKey) (count : ℕ) → IsPlanned search files key count → Contains keys key

-- a list has each key whose tile is one of the plan, up to this key in key order
abbrev pub HasPlannedTo : Search → Files → VoxelKey → List VoxelKey → Type 0
HasPlannedTo search files last keys =
    (key : VoxelKey) (count : ℕ) → IsPlanned search files key count → (key ≡ last) ⊎ IsBefore key last → Contains keys key
