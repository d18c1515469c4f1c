-- What a plan is for. The folder may hold anything.
use Rattle.std.specs.Prelude.{◌≡◌, ℕ, ◌+◌, ◌≤◌, List, length}
use Rattle.ept_base.specs.Files.{Files}
use Rattle.ept_space.specs.declared.box3.Box3.{Box3}
use Rattle.ept_space.specs.VoxelKey.{VoxelKey}
use Rattle.ept_config.specs.declared.kept.Kept.{Kept}
use Rattle.ept_save.specs.Done.{IsDone}
use Rattle.ept_query.specs.declared.search.Search.{Search}
use Rattle.ept_query.specs.Search.{search_of}
use Rattle.ept_query.specs.Plan.{IsBuiltWith, HasBuild, EachIsThere, IsPlan, HasNeeded, HasPlanned, HasPlannedTo}
use Rattle.ept_query.specs.Parts.{Plan}

-- the build file states this, and nothing else
pub record IsBuiltOnly (kept : Kept) (files : Files) : Type 0 where
  pub built : IsBuiltWith files kept
  pub only : (other : Kept) → IsBuiltWith files other → other ≡ kept

-- the done gate is open, and this is looked for in the octree that the build file states
pub record IsSearchFor (area : Box3) (first last : ℕ) (search : Search) (files : Files) : Type 0 where
  pub done : IsDone files
  pub build : HasBuild files
  pub search_is : (kept : Kept) → IsBuiltWith files kept → search ≡ search_of kept area first last

-- The plan of an area and depths in a folder. The done gate is open, each file that is needed is well-formed, and the
-- plan has the tiles that they state.
pub record IsPlanFor (area : Box3) (first last : ℕ) (plan : Plan) (files : Files) : Type 0 where
  pub done : IsDone files
  pub build : HasBuild files
  pub each : (kept : Kept) → IsBuiltWith files kept → EachIsThere (search_of kept area first last) files
  pub tiles : (kept : Kept) → IsBuiltWith files kept → IsPlan (search_of kept area first last) files plan.tiles

-- A plan takes at most two calls of `get` and one for each hierarchy file that is needed. Any list that has the keys of
-- those files is at least that long.
abbrev pub GetsFiles : Box3 → ℕ → ℕ → ℕ → ℕ → Files → Type 0
GetsFiles area first last before now files =
    (needed : List VoxelKey) → ((kept : Kept) → IsBuiltWith files kept → HasNeeded (search_of kept area first last) files needed) → now ≤ before + 2 + length needed

-- a query takes one more for each tile of the plan
abbrev pub GetsAll : Box3 → ℕ → ℕ → ℕ → ℕ → Files → Type 0
GetsAll area first last before now files =
    (needed planned : List VoxelKey) → ((kept : Kept) → IsBuiltWith files kept → HasNeeded (search_of kept area first last) files needed) → ((kept : Kept) → IsBuiltWith files kept → HasPlanned (search_of kept area first last) files planned) → now ≤ before + 2 + length needed + length planned

-- If the tile of a key is damaged, it is the last tile that is read. It takes one more call, and so does each tile
-- before it in key order.
abbrev pub GetsUpTo : Box3 → ℕ → ℕ → VoxelKey → ℕ → ℕ → Files → Type 0
GetsUpTo area first last key before now files =
    (needed planned : List VoxelKey) → ((kept : Kept) → IsBuiltWith files kept → HasNeeded (search_of kept area first last) files needed) → ((kept : Kept) → IsBuiltWith files kept → HasPlannedTo (search_of kept area first last) files key planned) → now ≤ before + 2 + length needed + length planned
