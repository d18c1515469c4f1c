-- What holds of where points are. Each statement is proved by the contract of `place_law`.
use Rattle.std.specs.Prelude.{◌≡◌, ℕ, Bool, true, false, List, [], ◌∷◌}
use Rattle.ept_point.specs.declared.point.Point.{Point}
use Rattle.ept_space.specs.declared.cube.Rules.{Rules}
use Rattle.ept_space.specs.VoxelKey.{VoxelKey}
use Rattle.ept_core.specs.declared.flight.Flight.{Flight}
use Rattle.ept_core.specs.declared.event.Event.TheVariants.{Arrive, Evict, Reload}
use Rattle.ept_core.specs.State.{State, has_node}
use Rattle.ept_core.specs.Law.{KeepsLaw}
use Rattle.ept_core.specs.Steps.{IsFlight, Step, Run}
use Rattle.ept_residency.specs.Places.{placed, but_for}

-- whichever nodes are in memory, the law holds
abbrev pub PlacesAreFree : Type 0
PlacesAreFree =
    (rules : Rules) (points : List Point) (s : State) (here : VoxelKey → Bool) → KeepsLaw rules points s → KeepsLaw rules points (placed here s)

-- a node that moves to its file is evicted
abbrev pub NodesGo : Type 0
NodesGo =
    (rules : Rules) (points : List Point) (s : State) (here : VoxelKey → Bool) (key : VoxelKey) → KeepsLaw rules points s → has_node s.nodes key ≡ true → here key ≡ true → Step rules (placed here s) (Evict key) (placed (but_for key false here) s)

-- a node that is read back from its file is reloaded
abbrev pub NodesComeBack : Type 0
NodesComeBack =
    (rules : Rules) (points : List Point) (s : State) (here : VoxelKey → Bool) (key : VoxelKey) → KeepsLaw rules points s → has_node s.nodes key ≡ true → here key ≡ false → Step rules (placed here s) (Reload key) (placed (but_for key true here) s)

-- the actor's flight of that number goes to this key
abbrev pub GoesTo : State → ℕ → ℕ → VoxelKey → Type 0
GoesTo s actor number key =
    (front : List Flight) (f : Flight) (back : List Flight) → IsFlight s.flights actor number front f back → f.key ≡ key

-- a flight arrives at a node that is in memory
abbrev pub FlightsArrive : Type 0
FlightsArrive =
    (rules : Rules) (old new : State) (here : VoxelKey → Bool) (actor number : ℕ) (key : VoxelKey) → GoesTo old actor number key → here key ≡ true → Step rules old (Arrive actor number) new → Step rules (placed here old) (Arrive actor number) (placed here new)

-- a flight to a node in its file arrives once the node has been reloaded
abbrev pub FlightsBringBack : Type 0
FlightsBringBack =
    (rules : Rules) (points : List Point) (old new : State) (here : VoxelKey → Bool) (actor number : ℕ) (key : VoxelKey) → KeepsLaw rules points old → GoesTo old actor number key → has_node old.nodes key ≡ true → here key ≡ false → Step rules old (Arrive actor number) new → Run rules (placed here old) (Reload key ∷ Arrive actor number ∷ []) (placed (but_for key true here) new)
