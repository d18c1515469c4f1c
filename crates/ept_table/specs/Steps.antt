-- What the steps on a table do to what a seat knows.
use Rattle.std.specs.Prelude.{◌≡◌, ℕ, ◌+◌, ◌<◌, Bool, true, false, ◌==◌, ◌||◌, ◌⊎◌, List, [], ◌∷◌, ◌++◌, map, length, take, drop, Option, Some, None}
use Rattle.std.specs.List.{remove, list_any}
use Rattle.ept_point.specs.declared.point.Point.{Point}
use Rattle.ept_space.specs.VoxelKey.{VoxelKey, root, child}
use Rattle.ept_space.specs.OctreeCube.{InCube}
use Rattle.ept_scan.specs.declared.read_error.ReadError.{ReadError}
use Rattle.ept_sample.specs.Place.{place, AllInBox}
use Rattle.ept_sample.specs.Ids.{HasDistinctIds, in_id_order}
use Rattle.ept_sample.specs.Members.{IsMember}
use Rattle.ept_core.specs.declared.flight.Flight.{Flight}
use Rattle.ept_core.specs.State.{flown}
use Rattle.ept_core.specs.Steps.{node_after, flights_after}
use Rattle.ept_core.specs.Flying.{EachIsReordered}
use Rattle.ept_grid.specs.Node.{is_open_in}
use Rattle.ept_node.specs.Batch.{seen}
use Rattle.ept_node.specs.declared.error.NodeError.{NodeError}
use Rattle.ept_table.specs.declared.note.Told.{Told}
use Rattle.ept_table.specs.declared.note.Carried.{Carried}
use Rattle.ept_table.specs.declared.note.Draw.{Draw}
use Rattle.ept_table.specs.declared.note.Note.{Note}
use Rattle.ept_table.specs.declared.taken.Cell.{Cell}
use Rattle.ept_table.specs.declared.taken.Progress.{Progress}
use Rattle.ept_table.specs.declared.taken.Taken.{Taken}
use Rattle.ept_table.specs.declared.taken.Taken.TheVariants.{Blank, Standing, Reading}
use Rattle.ept_table.specs.At.{At}
use Rattle.ept_table.specs.Taken.{points_of, is_open_at, slot_at, as_node}
use Rattle.ept_table.specs.View.{View}
use Rattle.ept_node.specs.Shown.{empty_node, IsAlike}
use Rattle.ept_sample.specs.SamplingLaws.{CanBeSampled}
use Rattle.ept_table.specs.Shown.{IsSound, IsSoundFlight, OpensOctant, FitsReader}

-- ---- a view after a step

-- the seat holds a slot
abbrev pub holding : View → ℕ → Taken → View
holding v k x = record { parts = v.parts; refused = v.refused; hold = Some (k, x); note = v.note }

-- the seat holds no slot, and notes this
abbrev pub given_back : View → Note → View
given_back v n = record { parts = v.parts; refused = v.refused; hold = None; note = n }

-- the seat notes this
abbrev pub noting : View → Note → View
noting v n = record { parts = v.parts; refused = v.refused; hold = v.hold; note = n }

-- one more draw of the seat was refused with `Full`
abbrev pub refused_more : View → View
refused_more v = record { parts = v.parts; refused = v.refused + 1; hold = v.hold; note = v.note }

-- the seat has this share of the seats
abbrev pub with_parts : View → ℕ → View
with_parts v n = record { parts = n; refused = v.refused; hold = v.hold; note = v.note }

-- ---- what a seat notes after a step

-- the octant for which a slot is drawn next
abbrev pub wishing : Note → ℕ → Note
wishing n o = record n { wish = o }

-- a slot was drawn for that octant
abbrev pub drawing : Note → ℕ → Note
drawing n slot = record n { draws = record { slot = slot; octant = n.wish } ∷ n.draws }

-- a flight arrived, and these left
abbrev pub arrived : Note → ℕ → List Carried → Note
arrived n number fresh = record n { flights = remove n.flights number ++ fresh; draws = [] }

-- the refusal by which a reader has failed, if it has
abbrev pub failures_of : Option ReadError → List ReadError
failures_of None = []
failures_of (Some e) = e ∷ []

-- the reader was returned, and these flights leave
abbrev pub read : Note → Progress → List Carried → Note
read n r fresh = record n { flights = n.flights ++ fresh; draws = []; given = r.drawn; failures = failures_of r.failed ++ n.failures }

-- a node was returned that is broken by this, if it is broken
abbrev pub noting_broken : Option NodeError → Note → Note
noting_broken None n = n
noting_broken (Some why) n = record n { broken = why ∷ n.broken }

-- some flight has no slot
abbrev pub lacks_slot : List Carried → Bool
lacks_slot flights = list_any (λ (c : Carried). c.slot == 0) flights

-- the flights are abandoned; if one has no slot, the seat notes that all are drawn
abbrev pub abandoned : Note → Note
abandoned n = record n { flights = []; gone = map (λ (c : Carried). c.flight) n.flights ++ n.gone; over = n.over || lacks_slot n.flights }

-- two flights as one: the points of the first, then those of the second
abbrev pub in_one : Carried → Carried → Carried
in_one c d = record { slot = c.slot; flight = record { actor = c.flight.actor; key = c.flight.key; points = c.flight.points ++ d.flight.points } }

-- the flights, of which the last two are one
unfoldable pub last_in_one : List Carried → List Carried
last_in_one [] = []
last_in_one (c ∷ []) = c ∷ []
last_in_one (c ∷ (d ∷ [])) = in_one c d ∷ []
last_in_one (c ∷ (d ∷ (e ∷ flights))) = c ∷ last_in_one (d ∷ (e ∷ flights))

-- the last two flights are one
abbrev pub merged : Note → Note
merged n = record n { flights = last_in_one n.flights }

-- the last two flights go to one slot and one key
pub record GoTogether (flights : List Carried) : Type 0 where
  pub front : List Carried
  pub first : Carried
  pub second : Carried
  pub last : flights ≡ front ++ first ∷ second ∷ []
  pub slot : first.slot ≡ second.slot
  pub key : first.flight.key ≡ second.flight.key

-- what a new seat notes, which knows what this one knows
abbrev pub beginning : Note → Note
beginning n = record n { flights = []; gone = []; draws = []; over = false; given = 0; failures = []; broken = [] }

-- what a seat notes that ended a further seat: it takes over the abandoned flights and the refusals of the reader and
-- of nodes
abbrev pub together : Note → Note → Note
together n m = record n { gone = n.gone ++ m.gone; over = n.over || m.over; failures = n.failures ++ m.failures; broken = n.broken ++ m.broken }

-- the seat that ended a further seat
abbrev pub joined : View → View → View
joined v w = record { parts = v.parts + w.parts; refused = v.refused + w.refused; hold = v.hold; note = together v.note w.note }

-- a new seat with this share, which knows what this one knows
abbrev pub new_seat : View → ℕ → View
new_seat v n = record { parts = n; refused = 0; hold = None; note = beginning v.note }

-- a seat that has ended
pub record IsSpent (v : View) : Type 0 where
  pub parts : v.parts ≡ 0
  pub refused : v.refused ≡ 0
  pub hold : v.hold ≡ None
  pub flights : v.note.flights ≡ []
  pub gone : v.note.gone ≡ []
  pub draws : v.note.draws ≡ []
  pub over : v.note.over ≡ false
  pub given : v.note.given ≡ 0
  pub failures : v.note.failures ≡ []

-- ---- a reader that is returned

-- It has drawn these points, or has failed, and is otherwise as it was.
pub record HasRead (told : Told) (old new : Progress) (points : List Point) : Type 0 where
  pub inputs : new.inputs ≡ old.inputs
  pub drawn : new.drawn ≡ old.drawn + length points
  pub left : new.left + length points ≡ old.left
  pub allowed : new.allowed + length points ≡ old.allowed
  pub failed : (e : ReadError) → old.failed ≡ Some e → new.failed ≡ Some e
  pub in_cube : (p : Point) → IsMember p points → InCube told.rules.cube (place p)
  pub next : told.tells ≡ true → points ≡ take (length points) (drop old.drawn told.points)

-- the flight of points to a key, by this slot; no points make none
abbrev pub carried_to : ℕ → ℕ → VoxelKey → List Point → List Carried
carried_to actor slot key [] = []
carried_to actor slot key (p ∷ points) =
    record { slot = slot; flight = record { actor = actor; key = key; points = p ∷ points } } ∷ []

-- ---- a draw

-- The seat may draw a slot for an octant that is closed in the node that it holds, and for which it has drawn none. If
-- contents are visible, a flight of it to that node opens the octant.
pub record MayDraw (told : Told) (v : View) (held : ℕ) (x : Taken) (o : ℕ) : Type 0 where
  pub is_node : 0 < held
  pub low : o < 8
  pub closed : is_open_at x o ≡ false
  pub not_yet : (d : Draw) → IsMember d v.note.draws → d.octant ≡ o → ⊥
  pub goes_there : (c : Carried) × IsMember c v.note.flights × (c.slot ≡ held)
  pub opens : told.tells ≡ true → OpensOctant told v.note.flights held x o

-- ---- a flight that arrives

-- An octant of the node afterwards has its child slot: the slot from before, or one drawn in this visit. It has none if
-- it is closed, or if a draw was refused with `Full`.
pub record HasChild (v : View) (x : Taken) (c : Cell) (o : ℕ) : Type 0 where
  pub kept : is_open_at x o ≡ true → slot_at (Standing c) o ≡ slot_at x o
  pub drawn : is_open_at x o ≡ false → is_open_in c.node o ≡ true → ((d : Draw) × IsMember d v.note.draws × (d.octant ≡ o) × (slot_at (Standing c) o ≡ d.slot)) ⊎ ((slot_at (Standing c) o ≡ 0) × (0 < v.refused))
  pub none : is_open_in c.node o ≡ false → slot_at (Standing c) o ≡ 0

-- points continue to the child of an open octant, by its slot
pub record GoesBelow (told : Told) (c : Cell) (g : Carried) : Type 0 where
  pub octant : ℕ
  pub low : octant < 8
  pub opened : is_open_in c.node octant ≡ true
  pub key : g.flight.key ≡ child c.node.key octant
  pub slot : g.slot ≡ slot_at (Standing c) octant
  pub sound : IsSoundFlight told g.flight

-- the machine's node afterwards, and its flights, except that the points in each may be in another order
pub record IsArrival (told : Told) (x : Taken) (f : Flight) (c : Cell) (fresh : List Carried) : Type 0 where
  pub node : seen c.node ≡ node_after told.rules f.key (as_node x) (in_id_order (f.points ++ points_of x))
  pub flights : EachIsReordered (flights_after f.actor told.rules f.key (as_node x) (in_id_order (f.points ++ points_of x))) (map (λ (g : Carried). g.flight) fresh)

-- The flight has arrived at the node that was taken, which is now the node of the cell, and the fresh flights leave it.
pub record HasArrived (told : Told) (v : View) (x : Taken) (f : Flight) (c : Cell) (fresh : List Carried) : Type 0 where
  pub key : c.node.key ≡ f.key
  pub sound : IsSound told c
  pub stays_open : (o : ℕ) → o < 8 → is_open_at x o ≡ true → is_open_in c.node o ≡ true
  pub children : (o : ℕ) → o < 8 → HasChild v x c o
  pub uses_draws : (d : Draw) → IsMember d v.note.draws → (is_open_in c.node d.octant ≡ true) × (slot_at (Standing c) d.octant ≡ d.slot)
  pub goes_below : (g : Carried) → IsMember g fresh → GoesBelow told c g
  pub fills : (o : ℕ) → o < 8 → is_open_at x o ≡ false → is_open_in c.node o ≡ true → (g : Carried) × IsMember g fresh × (g.flight.key ≡ child c.node.key o)
  pub adds_up : length f.points + length (points_of x) ≡ length c.node.points + length (flown (map (λ (g : Carried). g.flight) fresh))
  -- if contents are visible, and the ids are different, it is the arrival of the machine
  pub exact : told.tells ≡ true → HasDistinctIds (f.points ++ points_of x) → IsArrival told x f c fresh

-- ---- a node that moves to or from its file

-- The same node. If contents are not visible, its points may be the same number of other points in its box.
pub record IsAlikeCell (told : Told) (c d : Cell) : Type 0 where
  pub node : IsAlike c.node d.node
  pub children : d.children ≡ c.children
  pub inside : AllInBox d.node.rules.cube d.node.key d.node.points
  pub exact : told.tells ≡ true → d ≡ c

-- What lies in a slot is what lay there: as it was, or a node that moved to or from its file.
abbrev pub StaysAlike : Told → Taken → Taken → Type 0
StaysAlike told x y = (y ≡ x) ⊎ ((c d : Cell) × (x ≡ Standing c) × (y ≡ Standing d) × IsAlikeCell told c d)

-- ---- the beginning

-- what the first seat notes
abbrev pub first_note : Told → Note
first_note told = record {
  told = told;
  flights = [];
  gone = [];
  draws = [];
  wish = 0;
  over = false;
  given = 0;
  failures = [];
  broken = [];
}

abbrev pub first_seat : Told → ℕ → View
first_seat told parts = record { parts = parts; refused = 0; hold = None; note = first_note told }

-- The root without points in slot 1, no node in any further slot, and in slot 0 a reader that has drawn nothing.
pub record IsPlanted (told : Told) (items : List Taken) (r : Progress) (top : Cell) : Type 0 where
  pub size : length items ≡ told.most + 1
  pub begun : told.begun ≡ root ∷ []
  pub at_first : At items 0 (Reading r)
  pub fits : FitsReader told r
  pub undrawn : r.drawn ≡ 0
  pub sound : r.failed ≡ None
  pub at_top : At items 1 (Standing top)
  pub top_is : top.node ≡ empty_node root told.rules
  pub childless : (o : ℕ) → o < 8 → slot_at (Standing top) o ≡ 0
  pub blank : (k : ℕ) (x : Taken) → At items k x → 1 < k → x ≡ Blank
  pub points : told.tells ≡ true → CanBeSampled told.rules told.points × (length told.points ≡ told.total)
