-- What holds of each walk. Each statement is a clause of a function of `laws`.
use Rattle.std.specs.Prelude.{◌≡◌, ◌<◌, ◌↔◌, ℕ, true, List, length, slice_index_or}
use Rattle.std.specs.List.{All}
use Rattle.std.specs.List.Sorted.{IsPermutation}
use Rattle.ept_space.specs.VoxelKey.{VoxelKey, IsKey, child, is_within, is_below}
use Rattle.ept_sample.specs.declared.tiles.Tile.{Tile}
use Rattle.ept_sample.specs.Ids.{HasDistinctIds}
use Rattle.ept_fit.specs.Fit.{keys_in, points_in}
use Rattle.ept_fit.specs.Walk.{InPreorder, IsWalk}

-- the key of the node at a place, or that of d if there is none
abbrev pub nth_key : List Tile → Tile → ℕ → VoxelKey
nth_key walk d i = (slice_index_or walk i d).key

-- a node above another comes first
abbrev pub AboveComesFirst : Type 0
AboveComesFirst =
    (walk : List Tile) (i j : ℕ) (d : Tile) → InPreorder walk → i < length walk → is_below (nth_key walk d i) (nth_key walk d j) ≡ true → i < j

-- of two nodes in different octants of a key, the one in the lesser octant comes first
abbrev pub OctantsAscend : Type 0
OctantsAscend =
    (walk : List Tile) (key : VoxelKey) (a b i j : ℕ) (d : Tile) → InPreorder walk → a < b → b < 8 → i < length walk → is_within (child key a) (nth_key walk d i) ≡ true → is_within (child key b) (nth_key walk d j) ≡ true → i < j

-- the key of the node is well-formed
abbrev pub HasKey : Tile → Type 0
HasKey node = IsKey node.key

-- what comes between a node and one within it lies within it too
abbrev pub SubtreesAreTogether : Type 0
SubtreesAreTogether =
    (walk : List Tile) (i j k : ℕ) (d : Tile) → InPreorder walk → All HasKey walk → i < j → j < k → k < length walk → is_within (nth_key walk d i) (nth_key walk d k) ≡ true → is_within (nth_key walk d i) (nth_key walk d j) ≡ true

-- nodes in preorder are a walk of nodes whose keys are in any other order
abbrev pub WalkHasNodes : Type 0
WalkHasNodes =
    (keys : List VoxelKey) (walk : List Tile) → IsPermutation keys (keys_in walk) → InPreorder walk → (nodes : List Tile) × (keys_in nodes ≡ keys) × IsWalk nodes walk

-- no id is in the nodes twice if and only if none is in the walk twice
abbrev pub WalkIsOnce : Type 0
WalkIsOnce =
    (nodes walk : List Tile) → IsWalk nodes walk → HasDistinctIds (points_in nodes) ↔ HasDistinctIds (points_in walk)
