-- Sets of paths, and the folders on the way to a name.
use Rattle.std.specs.Prelude.{◌≡◌, ◌≢◌, ◌⊎◌, ℕ, List, Contains, Some}
use Rattle.std.specs.Path.{path_parent}
use Rattle.ept_real.specs.Joined.{joined, folder_path}

-- each old path is a new one
abbrev pub Keeps : List (List ℕ) → List (List ℕ) → Type 0
Keeps old new = (path : List ℕ) → Contains old path → Contains new path

-- the same, except for this path
abbrev pub KeepsBut : List ℕ → List (List ℕ) → List (List ℕ) → Type 0
KeepsBut path old new = (other : List ℕ) → other ≢ path → Contains old other → Contains new other

-- A path lies above another: it is its parent, or lies above its parent. The empty path lies above each relative one.
pub data IsAbove : List ℕ → List ℕ → Type 0 where
  parent : {path above : List ℕ} → path_parent path ≡ Some above → IsAbove path above
  further : {path between above : List ℕ} → path_parent path ≡ Some between → IsAbove between above → IsAbove path above

-- A folder that a folder is in, directly or not, as far as its path says. The root is in none.
abbrev pub IsHolder : List ℕ → List ℕ → Type 0
IsHolder folder path = (above : List ℕ) × IsAbove folder above × (path ≡ folder_path above)

-- The folders whose entries lead to a name of a store in this folder. They are the folder itself, those below it on the
-- way, and those that it is in.
abbrev pub IsOnWay : List ℕ → List ℕ → List ℕ → Type 0
IsOnWay folder name path = IsHolder folder path ⊎ ((above : List ℕ) × IsAbove name above × (path ≡ joined folder above))
