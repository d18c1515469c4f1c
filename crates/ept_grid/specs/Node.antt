-- A node with its points, and what an arrival does to it.
use Rattle.std.specs.Prelude.{ℕ, ◌≡◌, ◌-◌, ◌<◌, ◌≤◌, ◌==◌, IsTrue, Bool, true, false, List, [], ◌∷◌, ◌++◌, length, min, count_by, slice_index_or}
use Rattle.std.specs.List.{All}
use Rattle.ept_point.specs.declared.point.Point.{Point}
use Rattle.ept_space.specs.declared.cube.Rules.{Rules}
use Rattle.ept_space.specs.VoxelKey.{VoxelKey}
use Rattle.ept_sample.specs.Ids.{comes_before, in_id_order}
use Rattle.ept_sample.specs.Arrivals.{octant, kept, sent, is_open}
use Rattle.ept_grid.specs.Mask.{opened}
use Rattle.ept_grid.specs.Outgoing.{Leaving, leaving_at, points_at}

-- the losers of an octant that a node keeps: how many there are, and for how many more there is room
pub record Lane : Type 0 where
  pub count : ℕ
  pub room : ℕ

abbrev pub no_lane : Lane
no_lane = record { count = 0; room = 0 }

-- the losers of one octant
abbrev pub lane_at : List Lane → ℕ → Lane
lane_at lanes o = slice_index_or lanes o no_lane

-- room in a node: for how many more winners, and for losers by octant
pub record Room : Type 0 where
  pub cells : ℕ
  pub lanes : List Lane

-- no room
abbrev pub no_room : Room
no_room = record { cells = 0; lanes = [] }

-- The key of a node, the rules of its sampling, and its points in id order. Its open octants are the bits of a number,
-- and it has room for more points.
pub record Node : Type 0 where
  pub key : VoxelKey
  pub rules : Rules
  pub points : List Point
  pub mask : ℕ
  pub room : Room

-- the node of a key and rules with these points and open octants
pub record IsNodeOf (its_key : VoxelKey) (its_rules : Rules) (its_mask : ℕ) (its_points : List Point) (node : Node) : Type 0 where
  pub key : node.key ≡ its_key
  pub rules : node.rules ≡ its_rules
  pub points : node.points ≡ its_points
  pub mask : node.mask ≡ its_mask

-- an octant of the node is open
abbrev pub is_open_in : Node → ℕ → Bool
is_open_in node o = opened node.mask o

-- the points of the node and one that arrives, in id order
abbrev pub given_with : Node → Point → List Point
given_with node p = in_id_order (p ∷ node.points)

-- no point comes before one that is earlier in the list, by its id
unfoldable pub IsInIdOrder : List Point → Type 0
IsInIdOrder [] = Unit {0}
IsInIdOrder (p ∷ points) = All (λ q. comes_before q p ≡ false) points × IsInIdOrder points

-- What an arrival does to an octant and to the points that leave for it, whatever the ids.
pub record SendsOn (old new : Node) (o : ℕ) (before after : List Point) : Type 0 where
  pub added : List Point
  -- the list grows at its end, by points of the octant
  pub grows : after ≡ before ++ added
  pub in_octant : All (λ q. octant old.rules old.key.depth q ≡ o) added
  -- an open octant stays open, and a point leaves for open octants alone
  pub stays_open : IsTrue (is_open_in old o) → IsTrue (is_open_in new o)
  pub if_open : 0 < length added → IsTrue (is_open_in new o)
  -- a point leaves for an octant that opens, and no octant opens at the greatest depth
  pub if_opens : is_open_in old o ≡ false → IsTrue (is_open_in new o) → 0 < length added
  pub above : IsTrue (is_open_in new o) → old.key.depth < old.rules.cube.depth

-- What an arrival does if all ids are different: the node keeps what stays, and the rest leaves, in id order.
pub record TakesIn (old new : Node) (p : Point) (before after : List Leaving) : Type 0 where
  pub points : new.points ≡ kept old.rules old.key.depth (is_open_in old) (given_with old p)
  pub opens : (o : ℕ) → o < 8 → is_open_in new o ≡ is_open old.rules old.key.depth (is_open_in old) (given_with old p) o
  pub leave : (o : ℕ) → o < 8 → points_at after o ≡ points_at before o ++ sent old.rules old.key.depth (is_open_in old) (given_with old p) o

-- how many of these points lie in an octant
abbrev pub count_in : Rules → ℕ → ℕ → List Point → ℕ
count_in rules depth o points = count_by (λ p. octant rules depth p == o) points

-- How many points of an octant can arrive if there is room for this number to leave. The points of an open octant
-- leave. In a closed one each may stay, and leave with all losers once the octant opens.
abbrev pub lane_spare : Bool → Lane → ℕ → ℕ
lane_spare true lane room = room
lane_spare false lane room = min lane.room (room - lane.count)

-- There is room for these points to arrive, one after another. Each has room for a cell. The points of each octant have
-- room among its losers and among what leaves for it.
pub record HasRoomFor (node : Node) (out : List Leaving) (points : List Point) : Type 0 where
  pub cells : length points ≤ node.room.cells
  pub places : (o : ℕ) → o < 8 → count_in node.rules node.key.depth o points ≤ lane_spare (is_open_in node o) (lane_at node.room.lanes o) (leaving_at out o).room
