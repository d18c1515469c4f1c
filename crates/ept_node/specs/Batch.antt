-- What points do to a node at which they arrive together.
use Rattle.std.specs.Prelude.{ℕ, ◌≡◌, ◌<◌, true, List, [], ◌∷◌, ◌++◌, map, IsPermutation}
use Rattle.std.specs.List.{flat_map}
use Rattle.ept_point.specs.declared.point.Point.{Point}
use Rattle.ept_space.specs.VoxelKey.{VoxelKey, child}
use Rattle.ept_sample.specs.Ids.{in_id_order}
use Rattle.ept_sample.specs.Arrivals.{kept, sent, is_open, all_octants}
use Rattle.ept_grid.specs.Mask.{opened}
use Rattle.ept_grid.specs.Outgoing.{Leaving, points_at}
use Rattle.ept_grid.specs.Node.{Node, is_open_in}
use Rattle.ept_core.specs.declared.node.Node as core
use Rattle.ept_core.specs.declared.flight.Flight.{Flight}
use Rattle.ept_core.specs.State.{has_open}
use Rattle.ept_core.specs.Steps.{flight_of, node_after, flights_after}
use Rattle.ept_core.specs.Flying.{EachIsReordered}

-- the points of the node and those that arrive, in id order
abbrev pub given_all : Node → List Point → List Point
given_all node arriving = in_id_order (arriving ++ node.points)

-- The node keeps and sends what the sampling says of all points that it has and that arrive. The order in which they
-- leave is free.
pub record TakesInAll (old new : Node) (arriving : List Point) (before after : List Leaving) : Type 0 where
  pub points : new.points ≡ kept old.rules old.key.depth (is_open_in old) (given_all old arriving)
  pub opens : (o : ℕ) → o < 8 → is_open_in new o ≡ is_open old.rules old.key.depth (is_open_in old) (given_all old arriving) o
  pub leave : (o : ℕ) → o < 8 → IsPermutation (points_at before o ++ sent old.rules old.key.depth (is_open_in old) (given_all old arriving) o) (points_at after o)

-- nothing has changed
pub record StandsStill (old new : Node) (before after : List Leaving) : Type 0 where
  pub points : new.points ≡ old.points
  pub mask : new.mask ≡ old.mask
  pub leave : (o : ℕ) → points_at after o ≡ points_at before o

-- The points have arrived; if there are none, nothing changes.
abbrev pub HasTaken : Node → Node → List Point → List Leaving → List Leaving → Type 0
HasTaken old new [] before after = StandsStill old new before after
HasTaken old new (p ∷ arriving) before after = TakesInAll old new (p ∷ arriving) before after

-- ---- as the machine of events has it

-- the machine's node has the points and the open octants of this node
pub record StandsFor (n : core.Node) (node : Node) : Type 0 where
  pub points : n.points ≡ node.points
  pub opens : (o : ℕ) → o < 8 → has_open n o ≡ is_open_in node o

-- the node as one of the machine, in memory
abbrev pub seen : Node → core.Node
seen node = record { points = node.points; opened = map (opened node.mask) all_octants; is_resident = true }

-- the flights of the points that leave a node to its children, in octant order
abbrev pub flights_of : ℕ → VoxelKey → List Leaving → List Flight
flights_of actor key out = flat_map (λ o. flight_of actor (child key o) (points_at out o)) all_octants

-- A flight with these points has arrived at the node. It is the machine's node afterwards. What leaves are the
-- machine's flights, except for the order of the points in each.
pub record Arrives (old new : Node) (arriving : List Point) (after : List Leaving) : Type 0 where
  pub node : (n : core.Node) → StandsFor n old → seen new ≡ node_after old.rules old.key n (given_all old arriving)
  pub flights : (n : core.Node) (actor : ℕ) → StandsFor n old → EachIsReordered (flights_after actor old.rules old.key n (given_all old arriving)) (flights_of actor old.key after)
