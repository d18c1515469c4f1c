-- A visit of a node by a flight of a worker.
use Rattle.std.specs.Prelude.{◌≡◌, ⊤, ℕ, ◌+◌, ◌<◌, ◌≤◌, ◌⊎◌, Bool, true, false, List, [], ◌++◌, length, Option, Some, None}
use Rattle.std.specs.Vec.{vec_capacity}
use Rattle.ept_space.specs.VoxelKey.{VoxelKey}
use Rattle.ept_sample.specs.Ids.{HasDistinctIds}
use Rattle.ept_sample.specs.Members.{IsMember}
use Rattle.ept_slots.specs.declared.view.View as slots
use Rattle.ept_slots.specs.declared.view.Held.{Held}
use Rattle.ept_node.specs.declared.error.NodeError.{NodeError}
use Rattle.ept_node.specs.declared.error.NodeError.TheVariants as node
use Rattle.ept_node.specs.declared.node.Node.{Node}
use Rattle.ept_node.specs.declared.state.NodeState.TheVariants.{Resident}
use Rattle.ept_node.specs.Shown.{file_of, state_of, node_of, children_of, empty_node, no_children, DoesTell}
use Rattle.ept_table.specs.declared.item.Item.{Item}
use Rattle.ept_table.specs.declared.note.Note.{Note}
use Rattle.ept_table.specs.declared.note.Told.{Told}
use Rattle.ept_table.specs.declared.note.Carried.{Carried}
use Rattle.ept_table.specs.declared.note.Draw.{Draw}
use Rattle.ept_table.specs.declared.taken.Cell.{Cell}
use Rattle.ept_table.specs.declared.taken.Taken.{Taken}
use Rattle.ept_table.specs.declared.taken.Taken.TheVariants.{Blank, Standing}
use Rattle.ept_table.specs.At.{At}
use Rattle.ept_table.specs.Item.{cell_of, broken_by}
use Rattle.ept_table.specs.Taken.{points_of}
use Rattle.ept_table.specs.Shown.{IsSoundFlight}
use Rattle.ept_table.specs.Steps.{holding, given_back, noting, noting_broken, arrived, lacks_slot, HasArrived, IsAlikeCell}
use Rattle.ept_table.specs.Tells.{IsTooMany, FitsChild}
use Rattle.ept_table.specs.View.{View, NotesFull}
use Rattle.ept_work.specs.declared.error.WorkError.{WorkError}
use Rattle.ept_work.specs.declared.error.WorkError.TheVariants.{SourceFault, SourceChanged, TooManyNodes, SpillFault, SpillDamaged, Memory}
use Rattle.ept_work.specs.declared.visit.Visit.{Visit}
use Rattle.ept_work.specs.declared.visit.Landing.{Landing}
use Rattle.ept_work.specs.declared.worker.Worker.{Worker}

-- The node of a key, in memory. It is the node that was taken, which may have come from its file. If that node was
-- blank, it is a new one without points.
pub record IsBegun {F : Type 0} (held : F → Option (List ℕ)) (told : Told) (taken : Taken) (key : VoxelKey) (node : Node F) (was_blank : Bool) : Type 0 where
  pub resident : state_of node ≡ Resident
  pub key_is : (node_of held node).key ≡ key
  pub rules_are : (node_of held node).rules ≡ told.rules
  pub as_taken : was_blank ≡ false → (c : Cell) × (taken ≡ Standing c) × IsAlikeCell told c (cell_of held node)
  pub blank : was_blank ≡ true → taken ≡ Blank
  pub begun : was_blank ≡ true → (node_of held node ≡ empty_node key told.rules) × (children_of node ≡ no_children)

-- A worker holds the node to which one of its flights goes. The flight has not arrived yet.
pub record IsVisit {F : Type 0} (held : F → Option (List ℕ)) (told : Told) (v : View) (visit : Visit F) : Type 0 where
  pub taken : Taken
  pub holds : v.hold ≡ Some (visit.slot, taken)
  pub share : 0 < v.parts
  pub undrawn : v.note.draws ≡ []
  pub unrefused : v.refused ≡ 0
  pub within : (c : Carried) → IsMember c v.note.flights → c.slot ≤ told.most
  pub is_node : 0 < visit.slot
  pub carried : Carried
  pub its : At v.note.flights visit.number carried
  pub goes_there : carried.slot ≡ visit.slot
  pub flight : IsSoundFlight told carried.flight
  pub different : told.tells ≡ true → HasDistinctIds (carried.flight.points ++ points_of taken)
  pub children : (o : ℕ) → o < 8 → FitsChild told taken o
  pub node : IsBegun held told taken carried.flight.key visit.node visit.was_blank
  pub telling : told.tells ≡ true → DoesTell held (file_of visit.node)

-- it has taken the node up
pub record TakesUp {F : Type 0} (held : F → Option (List ℕ)) (told : Told) (v w : View) (visit : Visit F) : Type 0 where
  pub visits : IsVisit held told w visit
  pub after : w ≡ holding v visit.slot visits.taken

-- The flight has arrived at the node, and the fresh flights leave it.
pub record IsLanding {F : Type 0} (held : F → Option (List ℕ)) (told : Told) (v : View) (landing : Landing F) : Type 0 where
  pub taken : Taken
  pub holds : v.hold ≡ Some (landing.slot, taken)
  pub share : 0 < v.parts
  pub within : (c : Carried) → IsMember c v.note.flights → c.slot ≤ told.most
  pub is_node : 0 < landing.slot
  pub carried : Carried
  pub its : At v.note.flights landing.number carried
  pub goes_there : carried.slot ≡ landing.slot
  pub resident : state_of landing.node ≡ Resident
  pub has_arrived : HasArrived told v taken carried.flight (cell_of held landing.node) landing.fresh.items
  pub fresh_within : (c : Carried) → IsMember c landing.fresh.items → c.slot ≤ told.most
  pub full : landing.is_full ≡ true → (0 < v.refused) × IsTooMany told
  pub not_full : landing.is_full ≡ false → v.refused ≡ 0
  pub telling : told.tells ≡ true → DoesTell held (file_of landing.node)

-- the worker has room for the flights that leave
abbrev pub HasRoom : {F S : Type 0} → Worker F S → Landing F → Type 0
HasRoom worker landing = length worker.flights.items + length landing.fresh.items ≤ vec_capacity worker.flights + 1

-- The cause of a refusal. Memory ran out. Or there are too many nodes, since a slot was refused or a flight of the
-- worker has none. Or a node is broken, whose refusal the seat notes.
abbrev pub IsVisitCause : Told → View → WorkError → Type 0
IsVisitCause told v SourceFault = ⊥
IsVisitCause told v (SourceChanged source number) = ⊥
IsVisitCause told v TooManyNodes = (NotesFull v × IsTooMany told) ⊎ (lacks_slot v.note.flights ≡ true)
IsVisitCause told v SpillFault = IsMember node.SpillFault v.note.broken
IsVisitCause told v (SpillDamaged kept found at) = IsMember (node.SpillDamaged kept found at) v.note.broken
IsVisitCause told v Memory = ⊤

-- the refusal by which a node is broken that stays for this reason: running out of memory breaks no node
abbrev pub breaking : Option NodeError → Option NodeError
breaking None = None
breaking (Some node.SpillFault) = Some node.SpillFault
breaking (Some (node.SpillDamaged kept found at)) = Some (node.SpillDamaged kept found at)
breaking (Some node.Memory) = None

-- why the node in the slot that is held is broken, if it is
abbrev pub held_fault : {F S : Type 0} → Option (Held (Item F S)) → Option NodeError
held_fault None = None
held_fault (Some held) = broken_by held.item

-- the seat holds no node that was broken when it was taken
abbrev pub HoldsWhole : {F S : Type 0} → slots.View (Item F S) Note → Type 0
HoldsWhole v = held_fault v.hold ≡ None

-- ---- how a view changes

-- not at all, except that the seat notes the refusal of a broken node
abbrev pub refused_by : WorkError → View → View
refused_by SourceFault v = v
refused_by (SourceChanged source number) v = v
refused_by TooManyNodes v = v
refused_by SpillFault v = noting v (noting_broken (Some node.SpillFault) v.note)
refused_by (SpillDamaged kept found at) v = noting v (noting_broken (Some (node.SpillDamaged kept found at)) v.note)
refused_by Memory v = v

-- the seat may note other draws, and another number of them may have been refused
abbrev pub opening : View → List Draw → ℕ → ℕ → View
opening v draws wish refused =
    record { parts = v.parts; refused = refused; hold = v.hold; note = record v.note { draws = draws; wish = wish } }

-- nothing else has changed
abbrev pub IsOpening : View → View → Type 0
IsOpening v w = w ≡ opening v w.note.draws w.note.wish w.refused

-- the flight of this number is gone, and these flights come after the others
abbrev pub leaving : View → ℕ → List Carried → View
leaving v number fresh = given_back v (arrived v.note number fresh)

-- A flight has arrived at the node of its slot, and other flights leave it.
pub record Visits (told : Told) (v w : View) : Type 0 where
  pub carried : Carried
  pub number : ℕ
  pub its : At v.note.flights number carried
  pub taken : Taken
  pub there : View
  pub opens : IsOpening (holding v carried.slot taken) there
  pub cell : Cell
  pub fresh : List Carried
  pub has_arrived : HasArrived told there taken carried.flight cell fresh
  pub after : w ≡ leaving there number fresh
