-- The nodes of an octree while points are inserted one by one: a state of the machine with one worker.
use Rattle.std.specs.Prelude.{◌≡◌, ℕ, ◌<◌, ◌≤◌, List, [], ◌∷◌, map}
use Rattle.std.specs.List.{All}
use Rattle.ept_point.specs.declared.point.Point.{Point}
use Rattle.ept_space.specs.declared.cube.Rules.{Rules}
use Rattle.ept_space.specs.VoxelKey.{VoxelKey, child}
use Rattle.ept_space.specs.OctreeCube.{InBox}
use Rattle.ept_sample.specs.Place.{place}
use Rattle.ept_grid.specs.Outgoing.{Leaving, points_at}
use Rattle.ept_core.specs.declared.flight.Flight.{Flight}
use Rattle.ept_core.specs.State.{State}
use Rattle.ept_core.specs.Law.{KeepsLaw}
use Rattle.ept_table.specs.Octree.{Branch, entry_of, AreNodes}
use Rattle.ept_tree.specs.declared.arrival.Arrival.{Arrival}
use Rattle.ept_tree.specs.Sending.{arrival_at}

-- a point on its way is a flight of one point
abbrev pub flight_of : Arrival → Flight
flight_of a = record { actor = 0; key = a.key; points = a.point ∷ [] }

-- the state of the machine: the points left, the points on their way, and the nodes
abbrev pub state_of : List Point → List Arrival → List Branch → State
state_of left arrivals nodes = record { left = left; flights = map flight_of arrivals; nodes = map entry_of nodes }

-- the points on their way
abbrev pub on_the_way : List Arrival → List Point
on_the_way arrivals = map (λ (a : Arrival). a.point) arrivals

-- the points were inserted, except those left, and of the inserted ones `arrivals` are on their way
pub record IsTree (rules : Rules) (points left : List Point) (arrivals : List Arrival) (nodes : List Branch) : Type 0 where
  pub law : KeepsLaw rules points (state_of left arrivals nodes)
  pub own : AreNodes rules nodes

-- a point may arrive at its node: it lies in the box of the key, which is no deeper than the greatest depth
pub record IsPlaced (rules : Rules) (a : Arrival) : Type 0 where
  pub inside : InBox rules.cube a.key (place a.point)
  pub shallow : a.key.depth ≤ rules.cube.depth

abbrev pub ArePlaced : Rules → List Arrival → Type 0
ArePlaced rules arrivals = All (IsPlaced rules) arrivals

-- the points that leave a node may arrive at its children
abbrev pub GoDown : Rules → VoxelKey → List Leaving → Type 0
GoDown rules key leaving = (o : ℕ) → o < 8 → All (λ q. IsPlaced rules (arrival_at (child key o) q)) (points_at leaving o)

-- a tree with the first arrivals on their way has become one with the second arrivals on their way
abbrev pub Becomes : Rules → List Arrival → List Branch → List Arrival → List Branch → Type 0
Becomes rules arrivals nodes arrivals' nodes' =
    (points left : List Point) → IsTree rules points left arrivals nodes → IsTree rules points left arrivals' nodes'

-- points on their way to nodes of this depth
abbrev pub AreAtDepth : ℕ → List Arrival → Type 0
AreAtDepth depth arrivals = All (λ (a : Arrival). a.key.depth ≡ depth) arrivals
