-- What holds of the boxes, octants and keys of places. Each statement is a clause of a function of `laws`.
use Rattle.std.specs.Prelude.{◌≡◌, ℕ, ◌+◌, ◌<◌, ◌≤◌, ◌↔◌, IsTrue}
use Rattle.ept_space.specs.Place.{Place}
use Rattle.ept_space.specs.VoxelKey.{VoxelKey, IsKey, root, child, parent, octant_of, is_within, is_below}
use Rattle.ept_space.specs.OctreeCube.{OctreeCube, IsCube, InBox, InCube, key_at, octant_at}

-- ---- the key of a place at a depth

-- a place of the cube lies in the box of its key, which is a key of that depth
abbrev pub PlaceHasKey : Type 0
PlaceHasKey =
    (cube : OctreeCube) (depth : ℕ) (place : Place) → IsCube cube → InCube cube place → depth ≤ cube.depth → InBox cube (key_at cube depth place) place × IsKey (key_at cube depth place) × ((key_at cube depth place).depth ≡ depth)

-- and in no other box of that depth
abbrev pub PlaceHasOneKey : Type 0
PlaceHasOneKey =
    (cube : OctreeCube) (key : VoxelKey) (place : Place) → InBox cube key place → key_at cube key.depth place ≡ key

-- at depth 0 it is the root
abbrev pub PlaceHasRoot : Type 0
PlaceHasRoot = (cube : OctreeCube) (place : Place) → InCube cube place → key_at cube 0 place ≡ root

-- the key one depth deeper is the child of the octant in which the place lies
abbrev pub NextKeyIsChild : Type 0
NextKeyIsChild =
    (cube : OctreeCube) (depth : ℕ) (place : Place) → IsCube cube → depth < cube.depth → key_at cube (depth + 1) place ≡ child (key_at cube depth place) (octant_at cube depth place)

abbrev pub NextKeyHasParent : Type 0
NextKeyHasParent =
    (cube : OctreeCube) (depth : ℕ) (place : Place) → IsCube cube → depth < cube.depth → parent (key_at cube (depth + 1) place) ≡ key_at cube depth place

abbrev pub NextKeyHasOctant : Type 0
NextKeyHasOctant =
    (cube : OctreeCube) (depth : ℕ) (place : Place) → octant_of (key_at cube (depth + 1) place) ≡ octant_at cube depth place

abbrev pub PlaceHasOctant : Type 0
PlaceHasOctant = (cube : OctreeCube) (depth : ℕ) (place : Place) → octant_at cube depth place < 8

-- the keys of a place lie within each other
abbrev pub KeysOfPlaceNest : Type 0
KeysOfPlaceNest =
    (cube : OctreeCube) (upper lower : ℕ) (place : Place) → IsCube cube → upper ≤ lower → lower ≤ cube.depth → IsTrue (is_within (key_at cube upper place) (key_at cube lower place))

-- and each key that a key of the place is within is one of them
abbrev pub AboveIsKeyOfPlace : Type 0
AboveIsKeyOfPlace =
    (cube : OctreeCube) (top : VoxelKey) (depth : ℕ) (place : Place) → IsCube cube → depth ≤ cube.depth → IsTrue (is_within top (key_at cube depth place)) → key_at cube top.depth place ≡ top

-- below one of them, they are within its child of the octant in which the place lies
abbrev pub BelowIsInItsOctant : Type 0
BelowIsInItsOctant =
    (cube : OctreeCube) (top : VoxelKey) (depth : ℕ) (place : Place) → IsCube cube → depth ≤ cube.depth → IsTrue (is_below top (key_at cube depth place)) → IsTrue (is_within (child top (octant_at cube top.depth place)) (key_at cube depth place))

-- ---- boxes

-- the box of the root is the cube
abbrev pub RootBoxIsCube : Type 0
RootBoxIsCube = (cube : OctreeCube) (place : Place) → InBox cube root place ↔ InCube cube place

-- each box lies in the cube
abbrev pub BoxIsInCube : Type 0
BoxIsInCube =
    (cube : OctreeCube) (key : VoxelKey) (place : Place) → IsCube cube → IsKey key → key.depth ≤ cube.depth → InBox cube key place → InCube cube place

-- and in the box of each key that its own key is within
abbrev pub BoxesNest : Type 0
BoxesNest =
    (cube : OctreeCube) (top key : VoxelKey) (place : Place) → IsCube cube → key.depth ≤ cube.depth → IsTrue (is_within top key) → InBox cube key place → InBox cube top place

-- a child's box lies in its parent's
abbrev pub ChildBoxIsInParent : Type 0
ChildBoxIsInParent =
    (cube : OctreeCube) (key : VoxelKey) (octant : ℕ) (place : Place) → IsCube cube → key.depth < cube.depth → InBox cube (child key octant) place → InBox cube key place

-- a place in a box lies in the child's box of its octant
abbrev pub PlaceHasChild : Type 0
PlaceHasChild =
    (cube : OctreeCube) (key : VoxelKey) (place : Place) → IsCube cube → key.depth < cube.depth → InBox cube key place → InBox cube (child key (octant_at cube key.depth place)) place

-- and in no other child's box
abbrev pub PlaceHasOneChild : Type 0
PlaceHasOneChild =
    (cube : OctreeCube) (key : VoxelKey) (octant : ℕ) (place : Place) → octant < 8 → InBox cube (child key octant) place → octant_at cube key.depth place ≡ octant

-- the boxes of two octants have no place in common
abbrev pub ChildBoxesAreApart : Type 0
ChildBoxesAreApart =
    (cube : OctreeCube) (key : VoxelKey) (a b : ℕ) (place : Place) → a < 8 → b < 8 → InBox cube (child key a) place → InBox cube (child key b) place → a ≡ b
