-- The law of the core. It is about a state alone, not about order or history.
use Rattle.std.specs.Prelude.{◌≡◌, ◌≤◌, ◌<◌, ℕ, true, false, ◌⊎◌, List, length}
use Rattle.std.specs.List.Sorted.{IsPermutation}
use Rattle.std.specs.Prelude.{◌++◌}
use Rattle.ept_point.specs.declared.point.Point.{Point}
use Rattle.ept_point.specs.Order.{IsAscending}
use Rattle.ept_space.specs.declared.cube.Rules.{Rules}
use Rattle.ept_space.specs.VoxelKey.{VoxelKey, root, child, is_below, AreAscending}
use Rattle.ept_space.specs.OctreeCube.{InBox}
use Rattle.ept_sample.specs.Place.{place}
use Rattle.ept_sample.specs.Ids.{HasDistinctIds}
use Rattle.ept_sample.specs.Arrivals.{loses, losers, octant}
use Rattle.ept_sample.specs.SamplingLaws.{CanBeSampled}
use Rattle.ept_sample.specs.Members.{IsMember}
use Rattle.ept_core.specs.declared.flight.Flight.{Flight}
use Rattle.ept_core.specs.State.{State, Entry, node_at, has_node, has_open, keys_of, held, IsHeld, IsHeldWithin}

-- what is left is the end of the points, and those before it are the points that are held, each once
pub record IsDrawn (points drawn : List Point) (s : State) : Type 0 where
  pub suffix : points ≡ drawn ++ s.left
  pub held_once : IsPermutation drawn (held s)

-- each point lies in the box of the key at which it is held, which is no deeper than the greatest depth
pub record IsPlaced (rules : Rules) (s : State) : Type 0 where
  pub in_box : (key : VoxelKey) (p : Point) → IsHeld s key p → InBox rules.cube key (place p)
  pub shallow : (key : VoxelKey) (p : Point) → IsHeld s key p → key.depth ≤ rules.cube.depth

-- each point has passed each node above: its octant is open there, and it loses to the node's points
pub record HasPassed (rules : Rules) (s : State) : Type 0 where
  pub through_open : (top key : VoxelKey) (p : Point) → IsHeld s key p → is_below top key ≡ true → has_open (node_at s.nodes top) (octant rules top.depth p) ≡ true
  pub lost_above : (top key : VoxelKey) (p : Point) → IsHeld s key p → is_below top key ≡ true → loses rules top.depth (node_at s.nodes top).points p ≡ true

-- more points than the threshold, with distinct ids, are held at the key or below it
abbrev pub HoldsMore : Rules → State → VoxelKey → Type 0
HoldsMore rules s key =
    (points : List Point) × HasDistinctIds points × ((p : Point) → IsMember p points → IsHeldWithin s key p) × (rules.threshold < length points)

-- A node has no loser in an open octant, and more points than the threshold are below it. In a closed octant above the
-- greatest depth the number of its losers is at most the threshold.
pub record IsSettled (rules : Rules) (s : State) : Type 0 where
  pub open_without_losers : (key : VoxelKey) (p : Point) → IsMember p (node_at s.nodes key).points → loses rules key.depth (node_at s.nodes key).points p ≡ true → has_open (node_at s.nodes key) (octant rules key.depth p) ≡ false
  pub open_holds_more : (key : VoxelKey) (o : ℕ) → o < 8 → has_open (node_at s.nodes key) o ≡ true → HoldsMore rules s (child key o)
  pub closed_has_few : (key : VoxelKey) (o : ℕ) → o < 8 → key.depth < rules.cube.depth → has_open (node_at s.nodes key) o ≡ false → length (losers rules key.depth (node_at s.nodes key).points o) ≤ rules.threshold

-- no node of the greatest depth has an open octant
abbrev pub HasBottom : Rules → State → Type 0
HasBottom rules s =
    (key : VoxelKey) (o : ℕ) → o < 8 → has_open (node_at s.nodes key) o ≡ true → key.depth < rules.cube.depth

-- the list has a point
abbrev pub HasPoint : List Point → Type 0
HasPoint points = (p : Point) × IsMember p points

-- the root is a node, and no flight is empty
pub record IsRooted (s : State) : Type 0 where
  pub has_root : has_node s.nodes root ≡ true
  pub flying : (f : Flight) → IsMember f s.flights → HasPoint f.points

-- no node except the root is empty; the keys of the nodes ascend, and so do the ids of the points of each
pub record IsTidy (s : State) : Type 0 where
  pub has_points : (e : Entry) → IsMember e s.nodes → (e.0 ≡ root) ⊎ HasPoint e.1.points
  pub in_order : AreAscending (keys_of s.nodes)
  pub points_in_order : (key : VoxelKey) → IsAscending (node_at s.nodes key).points

-- the state keeps the law for the points
pub record KeepsLaw (rules : Rules) (points : List Point) (s : State) : Type 0 where
  pub points_law : CanBeSampled rules points
  pub same_points : (drawn : List Point) × IsDrawn points drawn s
  pub placed : IsPlaced rules s
  pub passed : HasPassed rules s
  pub settled : IsSettled rules s
  pub bottom : HasBottom rules s
  pub rooted : IsRooted s
  pub tidy : IsTidy s
