-- States whose points fly in other flights, or in another order, to the same nodes.
use Rattle.std.specs.Prelude.{◌≡◌, ◌↔◌, ⊤, Bool, List, [], ◌∷◌, count_by}
use Rattle.std.specs.List.Sorted.{IsPermutation}
use Rattle.ept_point.specs.declared.point.Point.{Point}
use Rattle.ept_space.specs.VoxelKey.{VoxelKey}
use Rattle.ept_sample.specs.Members.{IsMember}
use Rattle.ept_core.specs.declared.flight.Flight.{Flight}
use Rattle.ept_core.specs.State.{State, IsFlying, flown}

-- ---- another order

-- the two flights are the same, except for the order of their points
pub record IsReordered (f g : Flight) : Type 0 where
  pub actor : f.actor ≡ g.actor
  pub key : f.key ≡ g.key
  pub points : IsPermutation f.points g.points

-- so are the flights at each place
abbrev pub EachIsReordered : List Flight → List Flight → Type 0
EachIsReordered [] [] = ⊤
EachIsReordered [] (g ∷ gs) = ⊥
EachIsReordered (f ∷ fs) [] = ⊥
EachIsReordered (f ∷ fs) (g ∷ gs) = IsReordered f g × EachIsReordered fs gs

-- the states are the same, except for the order of the flights and of the points in each
pub record FliesReordered (one other : State) : Type 0 where
  pub left : one.left ≡ other.left
  pub nodes : one.nodes ≡ other.nodes
  pub flights : (between : List Flight) × IsPermutation one.flights between × EachIsReordered between other.flights

-- ---- other flights

-- some flight has no points
abbrev pub HasEmptyFlight : List Flight → Type 0
HasEmptyFlight flights = (f : Flight) × IsMember f flights × (f.points ≡ [])

-- The states are the same, except for the flights. The same points fly, each as often, to the same nodes. It does not
-- matter who carries them, in which order, and how many fly together.
pub record FliesAlike (one other : State) : Type 0 where
  pub left : one.left ≡ other.left
  pub nodes : one.nodes ≡ other.nodes
  pub to_nodes : (key : VoxelKey) (p : Point) → IsFlying one.flights key p ↔ IsFlying other.flights key p
  pub as_often : (test : Point → Bool) → count_by test (flown one.flights) ≡ count_by test (flown other.flights)
  pub empty : HasEmptyFlight one.flights ↔ HasEmptyFlight other.flights
