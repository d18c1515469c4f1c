-- What a node has: the winners of its cells, and its losers by octant.
use Rattle.std.specs.Prelude.{ℕ, zero, suc, ◌≡◌, ◌⊎◌, ◌+◌, ◌-◌, ◌*◌, ◌^◌, ◌<◌, ◌≤◌, ◌==◌, if◌then◌else◌, min, IsTrue, Bool, true, false, ◌&&◌, ◌||◌, nat_lt, List, [], ◌∷◌, ◌++◌, length, IsPermutation}
use Rattle.ept_point.specs.declared.point.Point.{Point}
use Rattle.ept_space.specs.declared.cube.Rules.{Rules}
use Rattle.ept_space.specs.VoxelKey.{VoxelKey}
use Rattle.ept_sample.specs.Members.{IsMember}
use Rattle.ept_sample.specs.Place.{AllInBox}
use Rattle.ept_sample.specs.Ids.{HasDistinctIds, in_id_order}
use Rattle.ept_sample.specs.Arrivals.{octant}
use Rattle.ept_grid.specs.Mask.{opened}
use Rattle.ept_grid.specs.Outgoing.{Leaving, leaving_at, points_at, all_points}
use Rattle.ept_grid.specs.Node.{Lane}
use Rattle.ept_grid.specs.declared.pool.Cell.{Cell}
use Rattle.ept_grid.specs.Settling.{winners, share_cell, is_better_at, AreApart}
use Rattle.ept_grid.specs.Columns.{spots_of, nexts_of, IsChained}

-- the winners, and the losers of all octants
abbrev pub contents : List Point → List Leaving → List Point
contents ws losers = ws ++ all_points losers

-- a point of the octant shares the cell of a winner, and has no better rank
pub record IsBehind (rules : Rules) (depth : ℕ) (ws : List Point) (o : ℕ) (q : Point) : Type 0 where
  pub in_octant : octant rules depth q ≡ o
  pub winner : Point
  pub wins : IsMember winner ws
  pub one_cell : IsTrue (share_cell rules depth winner q)
  pub no_better : is_better_at rules depth q winner ≡ false

-- each cell has one winner, and each loser is in the list of its octant, with no better rank than the winner of its
-- cell
pub record IsSettled (rules : Rules) (depth : ℕ) (ws : List Point) (losers : List Leaving) : Type 0 where
  pub apart : AreApart rules depth ws
  pub behind : (o : ℕ) (q : Point) → IsMember q (points_at losers o) → IsBehind rules depth ws o q

-- this number of losers opens an octant above the greatest depth
abbrev pub opens_with : Rules → ℕ → ℕ → Bool
opens_with rules depth count = nat_lt depth rules.cube.depth && nat_lt rules.threshold count

-- a closed octant has no more losers than it may have, and an open octant has none
pub record AreFew (rules : Rules) (depth mask : ℕ) (losers : List Leaving) : Type 0 where
  pub shut : (o : ℕ) → o < 8 → opened mask o ≡ false → opens_with rules depth (length (points_at losers o)) ≡ false
  pub gone : (o : ℕ) → o < 8 → opened mask o ≡ true → points_at losers o ≡ []

-- the lists with one more point, in that of the octant
abbrev pub joined : List Leaving → ℕ → Point → List Leaving
joined [] o q = []
joined (l ∷ losers) zero q = record { points = l.points ++ q ∷ []; room = l.room - 1 } ∷ losers
joined (l ∷ losers) (suc o) q = l ∷ joined losers o q

-- The losers `mid` of one octant leave if it is open or they open it, and stay otherwise. `stay` are the losers that
-- stay. `before` and `after` are what leaves the node, before and afterwards.
pub record HasSentAt (rules : Rules) (depth mask mask' o : ℕ) (mid stay before after : Leaving) : Type 0 where
  pub opens : opened mask' o ≡ (opened mask o || opens_with rules depth (length mid.points))
  pub shut : opened mask' o ≡ false → (stay.points ≡ mid.points) × (after.points ≡ before.points)
  pub gone : opened mask' o ≡ true → stay.points ≡ []
  pub added : List Point
  pub grows : after.points ≡ before.points ++ added
  pub leave : opened mask' o ≡ true → IsPermutation mid.points added
  pub in_order : opened mask' o ≡ true → HasDistinctIds mid.points → added ≡ in_id_order mid.points
  pub places : before.room ≤ after.room + length added
  pub room : opened mask' o ≡ false → mid.room ≤ stay.room

-- so it is with each octant
pub record HasSent (rules : Rules) (depth mask mask' : ℕ) (mid stay before after : List Leaving) : Type 0 where
  pub each : (o : ℕ) → o < 8 → HasSentAt rules depth mask mask' o (leaving_at mid o) (leaving_at stay o) (leaving_at before o) (leaving_at after o)
  pub mid_eight : length mid ≡ 8
  pub stay_eight : length stay ≡ 8
  pub before_eight : length before ≡ 8
  pub after_eight : length after ≡ 8

-- a list of losers that has grown by at most this number
pub record IsLaneAfter (more : ℕ) (before after : Leaving) : Type 0 where
  pub grows : length after.points ≤ length before.points + more
  pub room : before.room ≤ after.room + more

-- the list of losers of an octant, and what it counts
abbrev pub lane_of : Leaving → Lane
lane_of l = record { count = length l.points; room = l.room }

-- A point is among the winners or the losers of a node. It may displace a winner, and then losers leave.
pub record HasTaken (rules : Rules) (depth mask mask' : ℕ) (p : Point) (ws ws' : List Point) (losers losers' before after : List Leaving) : Type 0 where
  -- the losers with the point that loses, if one does, before any leaves
  pub mid : List Leaving
  pub settled : IsSettled rules depth ws' mid
  pub together : IsPermutation (p ∷ contents ws losers) (contents ws' mid)
  pub lanes : (o : ℕ) → o < 8 → IsLaneAfter (if octant rules depth p == o then 1 else 0) (leaving_at losers o) (leaving_at mid o)
  pub sent : HasSent rules depth mask mask' mid losers' before after

-- There is room for this number of points of an octant. If it is closed, there is room among its losers. With these,
-- there is room among what leaves for it.
pub record HasLaneRoom (mask o count : ℕ) (losers out : List Leaving) : Type 0 where
  pub stay : opened mask o ≡ false → count ≤ (leaving_at losers o).room
  pub leave : length (points_at losers o) + count ≤ (leaving_at out o).room

-- for how many more cells a pool has room: links can name the cells below 2 ^ 32 - 1
abbrev pub cell_room : ℕ → ℕ → ℕ
cell_room capacity count = min capacity 4294967295 - count

-- What a node keeps: its cells by columns, with room in their pool, its losers, and its open octants.
pub record IsNode (key : VoxelKey) (rules : Rules) (heads : List ℕ) (cells : List Cell) (capacity : ℕ) (losers : List Leaving) (mask : ℕ) : Type 0 where
  pub low : key.depth ≤ rules.cube.depth
  -- there is a head for each column, or none yet, and then no room for a cell
  pub table : (length heads ≡ 0) ⊎ (length heads ≡ 2 ^ (2 * rules.cube.s))
  pub some : 0 < capacity → 0 < length heads
  pub chained : IsChained heads (nexts_of cells) (spots_of rules key.depth cells)
  pub inside : AllInBox rules.cube key (contents (winners cells) losers)
  pub settled : IsSettled rules key.depth (winners cells) losers
  pub eight : length losers ≡ 8
  pub few : AreFew rules key.depth mask losers
  pub deepest : key.depth ≡ rules.cube.depth → mask ≡ 0

-- the cells and losers of these points, if no octant is open
pub record IsFilled (key : VoxelKey) (rules : Rules) (heads : List ℕ) (cells : List Cell) (capacity : ℕ) (losers : List Leaving) (points : List Point) : Type 0 where
  pub table : (length heads ≡ 0) ⊎ (length heads ≡ 2 ^ (2 * rules.cube.s))
  pub some : 0 < capacity → 0 < length heads
  pub chained : IsChained heads (nexts_of cells) (spots_of rules key.depth cells)
  pub settled : IsSettled rules key.depth (winners cells) losers
  pub eight : length losers ≡ 8
  pub all : IsPermutation points (contents (winners cells) losers)
