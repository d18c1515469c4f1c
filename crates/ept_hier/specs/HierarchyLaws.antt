-- What holds of the files of an octree. Each statement is a clause of a function of `laws`.
use Rattle.std.specs.Prelude.{◌≡◌, ℕ, true, false, List, All, Contains}
use Rattle.ept_space.specs.VoxelKey.{VoxelKey, IsKey}
use Rattle.ept_hier.specs.Hierarchy.{Node, keys_of, has_file, stands_in, is_link, HaveParents}

-- the file of `top` has the count of the node of a key
pub record TellsCount (step : ℕ) (top key : VoxelKey) : Type 0 where
  pub file : has_file step top ≡ true
  pub stands : stands_in step top key ≡ true
  pub counted : is_link step top key ≡ false

-- the count of each node of an octree is in one file, and in no other
abbrev pub CountsStandOnce : Type 0
CountsStandOnce =
    (step : ℕ) (nodes : List Node) (key : VoxelKey) → All IsKey (keys_of nodes) → HaveParents nodes → Contains (keys_of nodes) key → (top : VoxelKey) × Contains (keys_of nodes) top × TellsCount step top key × ((other : VoxelKey) → TellsCount step other key → other ≡ top)

-- a link leads to a file
abbrev pub LinksHaveFiles : Type 0
LinksHaveFiles =
    (step : ℕ) (top key : VoxelKey) → has_file step top ≡ true → stands_in step top key ≡ true → is_link step top key ≡ true → has_file step key ≡ true
