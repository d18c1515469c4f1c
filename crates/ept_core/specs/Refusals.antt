-- When events are refused.
use Rattle.std.specs.Prelude.{◌≡◌, ◌≤◌, ◌<◌, ℕ, true, false, ⊤, List, ◌∷◌, ◌++◌, All, count_by}
use Rattle.ept_core.specs.declared.event.Event.{Event}
use Rattle.ept_core.specs.declared.event.Event.TheVariants.{Draw, Arrive, Evict, Reload}
use Rattle.ept_core.specs.declared.error.StepError.{StepError}
use Rattle.ept_core.specs.declared.error.StepError.TheVariants.{NoActor, NoFlight, NoNode, NotResident, NotSpilled, Memory}
use Rattle.ept_core.specs.declared.flight.Flight.{Flight}
use Rattle.ept_space.specs.declared.cube.Rules.{Rules}
use Rattle.ept_core.specs.State.{State, node_at, has_node}
use Rattle.ept_core.specs.Steps.{is_of, IsFlight, Run}

-- the actor of the event, if it has one, is below the number of actors
abbrev pub HasActor : ℕ → Event → Type 0
HasActor actors (Draw actor count) = actor < actors
HasActor actors (Arrive actor number) = actor < actors
HasActor actors (Evict key) = ⊤
HasActor actors (Reload key) = ⊤

-- the node to which the actor's flight of that number goes is spilled
abbrev pub FliesToSpilled : State → ℕ → ℕ → Type 0
FliesToSpilled s actor number =
    (front : List Flight) × (f : Flight) × (back : List Flight) × IsFlight s.flights actor number front f back × ((node_at s.nodes f.key).is_resident ≡ false)

-- the event is refused for this cause, and for none before it
abbrev pub Refuses : State → ℕ → Event → StepError → Type 0
Refuses s actors (Draw actor count) NoActor = actors ≤ actor
Refuses s actors (Draw actor count) NoFlight = ⊥
Refuses s actors (Draw actor count) NoNode = ⊥
Refuses s actors (Draw actor count) NotResident = ⊥
Refuses s actors (Draw actor count) NotSpilled = ⊥
Refuses s actors (Draw actor count) Memory = ⊤
Refuses s actors (Arrive actor number) NoActor = actors ≤ actor
Refuses s actors (Arrive actor number) NoFlight = (actor < actors) × (count_by (is_of actor) s.flights ≤ number)
Refuses s actors (Arrive actor number) NoNode = ⊥
Refuses s actors (Arrive actor number) NotResident = (actor < actors) × FliesToSpilled s actor number
Refuses s actors (Arrive actor number) NotSpilled = ⊥
Refuses s actors (Arrive actor number) Memory = ⊤
Refuses s actors (Evict key) NoActor = ⊥
Refuses s actors (Evict key) NoFlight = ⊥
Refuses s actors (Evict key) NoNode = has_node s.nodes key ≡ false
Refuses s actors (Evict key) NotResident = (has_node s.nodes key ≡ true) × ((node_at s.nodes key).is_resident ≡ false)
Refuses s actors (Evict key) NotSpilled = ⊥
Refuses s actors (Evict key) Memory = ⊥
Refuses s actors (Reload key) NoActor = ⊥
Refuses s actors (Reload key) NoFlight = ⊥
Refuses s actors (Reload key) NoNode = has_node s.nodes key ≡ false
Refuses s actors (Reload key) NotResident = ⊥
Refuses s actors (Reload key) NotSpilled = (has_node s.nodes key ≡ true) × ((node_at s.nodes key).is_resident ≡ true)
Refuses s actors (Reload key) Memory = ⊥

-- the events before one of these have happened, and that event is refused with this error
abbrev pub StopsAt : Rules → ℕ → State → List Event → State → StepError → Type 0
StopsAt rules actors old events new error =
    (done : List Event) × (event : Event) × (rest : List Event) × (events ≡ done ++ event ∷ rest) × All (HasActor actors) done × Run rules old done new × Refuses new actors event error
