-- What the machine of a core shows.
use Rattle.std.specs.Prelude.{◌≡◌, List, drop}
use Rattle.ept_space.specs.declared.cube.Rules.{Rules}
use Rattle.ept_core.specs.declared.flight.Flight.{Flight}
use Rattle.ept_core.specs.declared.arrival.Effect.{Effect}
use Rattle.ept_core.specs.Steps.{gathered, node_after, flights_after}
use Rattle.ept_core.specs.declared.machine.Machine.{Machine}
use Rattle.ept_core.specs.State.{State, Entry, node_at}

-- the state of the machine; the points that were not drawn are left
abbrev pub state_of : Machine → State
state_of m = record { left = drop m.taken m.points; flights = m.flights.items; nodes = m.nodes.entries }

-- what the arrival of the flight does
abbrev pub IsEffect : Rules → List Entry → Flight → Effect → Type 0
IsEffect rules nodes f e =
    (e.node ≡ node_after rules f.key (node_at nodes f.key) (gathered nodes f)) × (e.flights.items ≡ flights_after f.actor rules f.key (node_at nodes f.key) (gathered nodes f))
