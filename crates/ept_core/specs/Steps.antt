-- The steps of the core.
use Rattle.std.specs.Prelude.{◌≡◌, ℕ, Bool, true, false, ◌==◌, List, [], ◌∷◌, ◌++◌, map, take, drop, count_by}
use Rattle.std.specs.List.{flat_map}
use Rattle.std.specs.BTreeMap.{insert_entry}
use Rattle.ept_point.specs.declared.point.Point.{Point}
use Rattle.ept_space.specs.declared.cube.Rules.{Rules}
use Rattle.ept_space.specs.VoxelKey.{VoxelKey, root, child, key_cmp}
use Rattle.ept_sample.specs.Ids.{in_id_order}
use Rattle.ept_sample.specs.Arrivals.{is_open, kept, sent, all_octants, none_open}
use Rattle.ept_sample.specs.Sampling.{sampling, is_node}
use Rattle.ept_sample.specs.Nodes.{node_keys}
use Rattle.ept_core.specs.declared.event.Event.{Event}
use Rattle.ept_core.specs.declared.event.Event.TheVariants.{Draw, Arrive, Evict, Reload}
use Rattle.ept_core.specs.declared.flight.Flight.{Flight}
use Rattle.ept_core.specs.declared.node.Node.{Node}
use Rattle.ept_core.specs.State.{State, Entry, node_at, has_node, has_open}

-- the flight of points to a key; no points make none
abbrev pub flight_of : ℕ → VoxelKey → List Point → List Flight
flight_of actor key [] = []
flight_of actor key (p ∷ points) = record { actor = actor; key = key; points = p ∷ points } ∷ []

-- the nodes with this one at the key
abbrev pub with_node : List Entry → VoxelKey → Node → List Entry
with_node nodes key n = insert_entry key_cmp nodes key n

-- ---- Draw: some of the first points left fly to the root

abbrev pub drawn : ℕ → ℕ → State → State
drawn actor count s = record {
  left = drop count s.left;
  flights = s.flights ++ flight_of actor root (take count s.left);
  nodes = s.nodes;
}

-- ---- Arrive: a flight's points arrive at its node

-- the points of the node and of the flight, in id order
unfoldable pub gathered : List Entry → Flight → List Point
gathered nodes f = in_id_order (f.points ++ (node_at nodes f.key).points)

-- the node afterwards
unfoldable pub node_after : Rules → VoxelKey → Node → List Point → Node
node_after rules key n given = record {
  points = kept rules key.depth (has_open n) given;
  opened = map (is_open rules key.depth (has_open n) given) all_octants;
  is_resident = true;
}

-- the flights of the points that leave, one for each octant that has some
unfoldable pub flights_after : ℕ → Rules → VoxelKey → Node → List Point → List Flight
flights_after actor rules key n given =
    flat_map (λ o. flight_of actor (child key o) (sent rules key.depth (has_open n) given o)) all_octants

-- the state after the flight f has arrived; `others` are the other flights
abbrev pub arrived : Rules → Flight → List Flight → State → State
arrived rules f others s = record {
  left = s.left;
  flights = others ++ flights_after f.actor rules f.key (node_at s.nodes f.key) (gathered s.nodes f);
  nodes = with_node s.nodes f.key (node_after rules f.key (node_at s.nodes f.key) (gathered s.nodes f));
}

-- a flight is the actor's
abbrev pub is_of : ℕ → Flight → Bool
is_of actor f = f.actor == actor

-- f is the actor's flight of that number: `number` flights of the actor come before it
pub record IsFlight (flights : List Flight) (actor number : ℕ) (front : List Flight) (f : Flight) (back : List Flight) : Type 0 where
  pub stands : flights ≡ front ++ f ∷ back
  pub of_actor : f.actor ≡ actor
  pub numbered : count_by (is_of actor) front ≡ number

-- ---- Evict and Reload: where a node's points are kept

abbrev pub moved : VoxelKey → Bool → State → State
moved key resident s = record {
  left = s.left;
  flights = s.flights;
  nodes = with_node s.nodes key (let n = node_at s.nodes key in record { points = n.points; opened = n.opened; is_resident = resident });
}

-- ---- one step

-- the event leads from the first state to the second
abbrev pub Step : Rules → State → Event → State → Type 0
Step rules old (Draw actor count) new = new ≡ drawn actor count old
Step rules old (Arrive actor number) new =
    (front : List Flight) × (f : Flight) × (back : List Flight) × IsFlight old.flights actor number front f back × ((node_at old.nodes f.key).is_resident ≡ true) × (new ≡ arrived rules f (front ++ back) old)
Step rules old (Evict key) new =
    (has_node old.nodes key ≡ true) × ((node_at old.nodes key).is_resident ≡ true) × (new ≡ moved key false old)
Step rules old (Reload key) new =
    (has_node old.nodes key ≡ true) × ((node_at old.nodes key).is_resident ≡ false) × (new ≡ moved key true old)

-- the events lead from the first state to the last, one after another
abbrev pub Run : Rules → State → List Event → State → Type 0
Run rules old [] new = new ≡ old
Run rules old (event ∷ events) new = (mid : State) × Step rules old event mid × Run rules mid events new

-- ---- the beginning of a core

-- the node of a key in the sampling of points: an octant is open if its child is a node
unfoldable pub resumed_node : Rules → List Point → Bool → VoxelKey → Node
resumed_node rules points resident key = record {
  points = sampling rules points key;
  opened = map (λ o. is_node rules points (child key o)) all_octants;
  is_resident = resident;
}

-- the sampling of some points as nodes, each resident or spilled, the others left, and nothing in flight
abbrev pub resumed : Rules → List Point → List Point → (VoxelKey → Bool) → State
resumed rules points left resident = record {
  left = left;
  flights = [];
  nodes = map (λ key. (key, resumed_node rules points (resident key) key)) (node_keys rules points);
}

-- no point drawn: the root is there, resident and empty
abbrev pub begun : List Point → State
begun points = record {
  left = points;
  flights = [];
  nodes = (root, record { points = []; opened = map none_open all_octants; is_resident = true }) ∷ [];
}
