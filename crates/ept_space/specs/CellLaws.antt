-- What holds of the cells of places. Each statement is a clause of a function of `laws`.
use Rattle.std.specs.Prelude.{◌≡◌, ℕ, ◌^◌, ◌<◌, ◌≤◌, ◌↔◌, [], ◌∷◌, IsTrue}
use Rattle.ept_space.specs.Place.{Place}
use Rattle.ept_space.specs.OctreeCube.{OctreeCube, IsCube, InCube, InCell, key_at, octant_at, cell_at, same_cell, distance_at}

-- a place of the cube lies in its cell
abbrev pub PlaceHasCell : Type 0
PlaceHasCell =
    (cube : OctreeCube) (depth : ℕ) (place : Place) → InCube cube place → InCell cube depth (cell_at cube depth place) place

-- and in no other cell of that depth
abbrev pub PlaceHasOneCell : Type 0
PlaceHasOneCell =
    (cube : OctreeCube) (depth : ℕ) (x y z : ℕ) (place : Place) → InCell cube depth (x ∷ y ∷ z ∷ []) place → cell_at cube depth place ≡ x ∷ y ∷ z ∷ []

-- two places lie in one cell if and only if their cells are equal
abbrev pub SameCellTells : Type 0
SameCellTells =
    (cube : OctreeCube) (depth : ℕ) (p q : Place) → IsTrue (same_cell cube depth p q) ↔ (cell_at cube depth p ≡ cell_at cube depth q)

-- a cell lies in one cell of each less depth
abbrev pub CellsNest : Type 0
CellsNest =
    (cube : OctreeCube) (upper lower : ℕ) (p q : Place) → upper ≤ lower → IsTrue (same_cell cube lower p q) → IsTrue (same_cell cube upper p q)

-- in one box of its depth and of each less depth
abbrev pub CellIsInOneBox : Type 0
CellIsInOneBox =
    (cube : OctreeCube) (upper lower : ℕ) (p q : Place) → upper ≤ lower → IsTrue (same_cell cube lower p q) → key_at cube upper p ≡ key_at cube upper q

-- and in one octant of each of those boxes
abbrev pub CellIsInOneOctant : Type 0
CellIsInOneOctant =
    (cube : OctreeCube) (upper lower : ℕ) (p q : Place) → IsCube cube → upper ≤ lower → IsTrue (same_cell cube lower p q) → octant_at cube upper p ≡ octant_at cube upper q

-- a distance fits 64 bits
abbrev pub DistanceIsSmall : Type 0
DistanceIsSmall =
    (cube : OctreeCube) (depth : ℕ) (place : Place) → IsCube cube → InCube cube place → distance_at cube depth place < 2 ^ 64
