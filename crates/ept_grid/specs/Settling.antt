-- What becomes of a point among the winners of a node: the best point of each cell.
use Rattle.std.specs.Prelude.{ℕ, ◌≡◌, ◌⊎◌, IsTrue, Bool, true, false, ◌&&◌, not, List, [], ◌∷◌, ◌++◌, map}
use Rattle.std.specs.List.{All, list_any}
use Rattle.ept_point.specs.declared.point.Point.{Point}
use Rattle.ept_space.specs.declared.cube.Rules.{Rules}
use Rattle.ept_space.specs.OctreeCube.{same_cell}
use Rattle.ept_sample.specs.Members.{IsMember}
use Rattle.ept_sample.specs.Place.{place}
use Rattle.ept_sample.specs.Ids.{same_id}
use Rattle.ept_sample.specs.Arrivals.{octant}
use Rattle.ept_grid.specs.Mask.{opened}
use Rattle.ept_sample.specs.Rank.{rank_at, is_better}
use Rattle.ept_grid.specs.declared.pool.Cell.{Cell}

-- the winners of cells, in the order in which the cells were made
abbrev pub winners : List Cell → List Point
winners cells = map (λ c. c.point) cells

-- the two points lie in one cell of that depth
abbrev pub share_cell : Rules → ℕ → Point → Point → Bool
share_cell rules depth p q = same_cell rules.cube depth (place p) (place q)

-- the first point has the better rank at that depth
abbrev pub is_better_at : Rules → ℕ → Point → Point → Bool
is_better_at rules depth p q = is_better (rank_at rules depth p) (rank_at rules depth q)

-- winners that share a cell are the same
abbrev pub AreApart : Rules → ℕ → List Point → Type 0
AreApart rules depth ws =
    (a b : Point) → IsMember a ws → IsMember b ws → IsTrue (share_cell rules depth a b) → a ≡ b

-- a point gets a cell of its own: no winner shares its cell
pub record HasItsCell (rules : Rules) (depth : ℕ) (p : Point) (old new : List Point) : Type 0 where
  pub alone : All (λ w. share_cell rules depth w p ≡ false) old
  pub grows : new ≡ old ++ p ∷ []

-- a point meets the winner of its cell: the better of the two has the cell, and the other loses
pub record HasContended (rules : Rules) (depth : ℕ) (p : Point) (old new : List Point) (loser : Point) : Type 0 where
  pub front : List Point
  pub winner : Point
  pub back : List Point
  pub stood : old ≡ front ++ winner ∷ back
  pub one_cell : IsTrue (share_cell rules depth winner p)
  pub outcome : ((is_better_at rules depth p winner ≡ true) × (new ≡ front ++ p ∷ back) × (loser ≡ winner))
      ⊎ ((is_better_at rules depth p winner ≡ false) × (new ≡ old) × (loser ≡ p))

-- the octant of a point is open, and no winner has its id
abbrev pub is_open_stranger : Rules → ℕ → ℕ → List Point → Point → Bool
is_open_stranger rules depth mask ws p =
    opened mask (octant rules depth p) && not (list_any (same_id p) ws)
