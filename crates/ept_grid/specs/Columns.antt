-- The cells of a node by columns: those with the same indices on the axes x and y, from the lowest up.
--
-- Cells have numbers, from 0. A link names a cell by its number plus one, and the link 0 names no cell.
use Rattle.std.specs.List.{All}
use Rattle.std.specs.Prelude.{IsTrue, ℕ, zero, suc, ◌≡◌, ◌≢◌, ◌==◌, ◌&&◌, nat_lt, count_by, ◌+◌, ◌-◌, ◌*◌, ◌%◌, ◌^◌, ◌<◌, ◌≤◌, List, [], ◌∷◌, ◌++◌, length, map, slice_index, slice_index_or, slice_set}
use Rattle.ept_point.specs.declared.point.Point.{Point}
use Rattle.ept_space.specs.declared.cube.Rules.{Rules}
use Rattle.ept_space.specs.OctreeCube.{OctreeCube, cell_index}
use Rattle.ept_sample.specs.Members.{IsMember}
use Rattle.ept_sample.specs.Ids.{same_id}
use Rattle.ept_sample.specs.Place.{place}
use Rattle.ept_grid.specs.declared.pool.Cell.{Cell}
use Rattle.ept_grid.specs.declared.spot.Spot.{Spot}
use Rattle.ept_grid.specs.Settling.{winners}

-- the number of a column in its box, from the indices of its cells on the axes x and y
unfoldable pub column_of : OctreeCube → ℕ → ℕ → ℕ
column_of cube x y = x % 2 ^ cube.s + y % 2 ^ cube.s * 2 ^ cube.s

-- where the cell of a point is
abbrev pub spot : Rules → ℕ → Point → Spot
spot rules depth p = record {
  column = column_of rules.cube (cell_index rules.cube depth (place p) 0) (cell_index rules.cube depth (place p) 1);
  level = cell_index rules.cube depth (place p) 2;
}

-- where each of some cells is, and the links of each to the next
abbrev pub spots_of : Rules → ℕ → List Cell → List Spot
spots_of rules depth cells = map (spot rules depth) (winners cells)

abbrev pub nexts_of : List Cell → List ℕ
nexts_of cells = map (λ c. c.next) cells

-- the column and the level of the cell of a number
abbrev pub nowhere : Spot
nowhere = record { column = 0; level = 0 }

abbrev pub column_at : List Spot → ℕ → ℕ
column_at spots k = (slice_index_or spots k nowhere).column

abbrev pub level_at : List Spot → ℕ → ℕ
level_at spots k = (slice_index_or spots k nowhere).level

-- a link names the first cell of a column that is not below a level, or is 0 if there is none
pub record LeadsTo (spots : List Spot) (column low link : ℕ) : Type 0 where
  pub none : link ≡ 0 → (k : ℕ) → k < length spots → column_at spots k ≡ column → level_at spots k < low
  pub there : link ≤ length spots
  pub of_column : 0 < link → column_at spots (link - 1) ≡ column
  pub not_below : 0 < link → low ≤ level_at spots (link - 1)
  pub first : 0 < link → (k : ℕ) → k < length spots → column_at spots k ≡ column → low ≤ level_at spots k → level_at spots (link - 1) ≤ level_at spots k

-- each column has its cells in a chain from a head: the head leads to the first, and each to the next
pub record IsChained (heads nexts : List ℕ) (spots : List Spot) : Type 0 where
  pub each : length nexts ≡ length spots
  pub first : (c : ℕ) → c < length heads → LeadsTo spots c 0 (slice_index heads c)
  pub next : (k : ℕ) → k < length spots → LeadsTo spots (column_at spots k) (level_at spots k + 1) (slice_index nexts k)
  pub apart : (i j : ℕ) → i < length spots → j < length spots → column_at spots i ≡ column_at spots j → level_at spots i ≡ level_at spots j → i ≡ j

-- the least level above the cell that a link names
abbrev pub after : List Spot → ℕ → ℕ
after spots zero = 0
after spots (suc k) = level_at spots k + 1

-- On the way up a column to a level. The first link names the last cell passed, if any, and the second the next cell.
pub record IsOnWay (spots : List Spot) (column level below above : ℕ) : Type 0 where
  pub there : below ≤ length spots
  pub of_column : 0 < below → column_at spots (below - 1) ≡ column
  pub is_below : 0 < below → level_at spots (below - 1) < level
  pub leads : LeadsTo spots column (after spots below) above

-- the way's end: what comes next is not below the level
pub record IsCut (spots : List Spot) (column level below above : ℕ) : Type 0 where
  pub way : IsOnWay spots column level below above
  pub not_below : 0 < above → level ≤ level_at spots (above - 1)

-- a link names a cell below a level, or one of that level
pub record NamesBelow (spots : List Spot) (level link : ℕ) : Type 0 where
  pub some : 0 < link
  pub below : level_at spots (link - 1) < level

pub record NamesAt (spots : List Spot) (level link : ℕ) : Type 0 where
  pub some : 0 < link
  pub at : level_at spots (link - 1) ≡ level

-- The heads and the links with one more cell, which a link names. The cell comes after the cell that `below` names, or
-- first in its column if that is none. It comes before the cell that `above` names.
abbrev pub heads_with : List ℕ → ℕ → ℕ → ℕ → List ℕ
heads_with heads column zero link = slice_set heads column link
heads_with heads column (suc j) link = heads

abbrev pub nexts_with : List ℕ → ℕ → ℕ → ℕ → List ℕ
nexts_with nexts zero above link = nexts ++ above ∷ []
nexts_with nexts (suc j) above link = slice_set (nexts ++ above ∷ []) j link

-- no cell is in this place
abbrev pub IsAlone : List Spot → Spot → Type 0
IsAlone spots s =
    (k : ℕ) → k < length spots → column_at spots k ≡ s.column → level_at spots k ≢ s.level

-- a winner is in this place
pub record StandsAt (rules : Rules) (depth : ℕ) (ws : List Point) (s : Spot) (p : Point) : Type 0 where
  pub one_of_them : IsMember p ws
  pub stands : spot rules depth p ≡ s

-- how many cells of a column there are, and how many of them below a level
abbrev pub in_column : List Spot → ℕ → ℕ
in_column spots column = count_by (λ s. s.column == column) spots

abbrev pub looked : List Spot → ℕ → ℕ → ℕ
looked spots column low = count_by (λ s. (s.column == column) && nat_lt s.level low) spots

-- a winner of the point's id would be in its place
abbrev pub StandInPlace : Rules → ℕ → List Point → Point → Type 0
StandInPlace rules depth ws p =
    All (λ w. IsTrue (same_id p w) → spot rules depth w ≡ spot rules depth p) ws
