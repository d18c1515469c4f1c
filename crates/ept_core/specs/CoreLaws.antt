-- What holds of each core. Each statement is proved by the contract of a function of `laws`.
use Rattle.std.specs.Prelude.{◌≡◌, ◌<◌, ◌↔◌, ℕ, Bool, true, List, [], ◌++◌, map}
use Rattle.ept_point.specs.declared.point.Point.{Point}
use Rattle.ept_space.specs.declared.cube.Rules.{Rules}
use Rattle.ept_space.specs.VoxelKey.{VoxelKey, child}
use Rattle.ept_sample.specs.Sampling.{is_node}
use Rattle.ept_sample.specs.SamplingLaws.{CanBeSampled}
use Rattle.ept_sample.specs.Nodes.{sampled}
use Rattle.ept_sample.specs.Ids.{HasDistinctIds}
use Rattle.ept_sample.specs.Members.{IsMember}
use Rattle.ept_core.specs.declared.flight.Flight.{Flight}
use Rattle.ept_core.specs.declared.event.Event.{Event}
use Rattle.ept_core.specs.State.{State, node_at, has_open, IsHeld, tile_of}
use Rattle.ept_core.specs.Law.{KeepsLaw}
use Rattle.ept_core.specs.Flying.{FliesReordered, FliesAlike}
use Rattle.ept_core.specs.Steps.{Step, Run, resumed, begun}

-- each step keeps the law
abbrev pub StepsKeepLaw : Type 0
StepsKeepLaw =
    (rules : Rules) (points : List Point) (old : State) (event : Event) (new : State) → KeepsLaw rules points old → Step rules old event new → KeepsLaw rules points new

-- so each list of events does
abbrev pub RunsKeepLaw : Type 0
RunsKeepLaw =
    (rules : Rules) (points : List Point) (old : State) (events : List Event) (new : State) → KeepsLaw rules points old → Run rules old events new → KeepsLaw rules points new

-- the root without points, with all points left, keeps it
abbrev pub BeginningKeepsLaw : Type 0
BeginningKeepsLaw =
    (rules : Rules) (points : List Point) → CanBeSampled rules points → KeepsLaw rules points (begun points)

-- and so does the sampling of the first points, with the others left, whichever of its nodes are resident
abbrev pub ResumedKeepsLaw : Type 0
ResumedKeepsLaw =
    (rules : Rules) (points first rest : List Point) (resident : VoxelKey → Bool) → CanBeSampled rules points → points ≡ first ++ rest → KeepsLaw rules points (resumed rules first rest resident)

-- if nothing is in flight, the nodes are the sampling of the points that were drawn
abbrev pub LandedIsSampled : Type 0
LandedIsSampled =
    (rules : Rules) (points first : List Point) (s : State) → KeepsLaw rules points s → s.flights ≡ [] → points ≡ first ++ s.left → map tile_of s.nodes ≡ sampled rules first

-- and an octant of a node is open if, and only if, its child is one of these nodes
abbrev pub LandedOpensToNodes : Type 0
LandedOpensToNodes =
    (rules : Rules) (points first : List Point) (s : State) (key : VoxelKey) (o : ℕ) → KeepsLaw rules points s → s.flights ≡ [] → points ≡ first ++ s.left → o < 8 → has_open (node_at s.nodes key) o ≡ is_node rules first (child key o)

-- Whatever events lead to a state, it holds points only at keys of the sampling. The sampling may be of any first
-- points that include all points drawn.
abbrev pub HeldKeysAreNodes : Type 0
HeldKeysAreNodes =
    (rules : Rules) (points first between rest : List Point) (old new : State) (events : List Event) (key : VoxelKey) (p : Point) → KeepsLaw rules points old → Run rules old events new → IsHeld new key p → points ≡ first ++ rest → new.left ≡ between ++ rest → is_node rules first key ≡ true

-- and so is the child of an open octant
abbrev pub OpenChildrenAreNodes : Type 0
OpenChildrenAreNodes =
    (rules : Rules) (points first between rest : List Point) (s : State) (key : VoxelKey) (o : ℕ) → KeepsLaw rules points s → o < 8 → has_open (node_at s.nodes key) o ≡ true → points ≡ first ++ rest → s.left ≡ between ++ rest → is_node rules first (child key o) ≡ true

-- the points of a flight and those of its node have different ids
abbrev pub ArrivalsHaveDistinctIds : Type 0
ArrivalsHaveDistinctIds =
    (rules : Rules) (points : List Point) (s : State) (f : Flight) → KeepsLaw rules points s → IsMember f s.flights → HasDistinctIds (f.points ++ (node_at s.nodes f.key).points)

-- Two states may differ in the order of the flights and of the points in each. Then both keep the law or neither does.
abbrev pub OrderIsFree : Type 0
OrderIsFree =
    (rules : Rules) (points : List Point) (one other : State) → FliesReordered one other → KeepsLaw rules points one ↔ KeepsLaw rules points other

-- The same holds if two states are the same, except for the flights in which the same points fly to the same nodes.
abbrev pub FlightsAreFree : Type 0
FlightsAreFree =
    (rules : Rules) (points : List Point) (one other : State) → FliesAlike one other → KeepsLaw rules points one ↔ KeepsLaw rules points other
