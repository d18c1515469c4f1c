-- What steps on a table make known to a seat.
use Rattle.std.specs.Prelude.{◌≡◌, ℕ, ◌+◌, ◌<◌, ◌≤◌, true, false, ◌⊎◌, List, [], ◌++◌, map, length, take, drop, Some}
use Rattle.ept_point.specs.declared.point.Point.{Point}
use Rattle.ept_space.specs.VoxelKey.{VoxelKey, child}
use Rattle.ept_scan.specs.declared.read_error.ReadError.{ReadError}
use Rattle.ept_sample.specs.Ids.{HasDistinctIds}
use Rattle.ept_sample.specs.Sampling.{is_node}
use Rattle.ept_sample.specs.Nodes.{node_keys, sampled}
use Rattle.ept_sample.specs.Members.{IsMember}
use Rattle.ept_core.specs.declared.flight.Flight.{Flight}
use Rattle.ept_core.specs.State.{State, Entry, node_at, has_node, tile_of}
use Rattle.ept_core.specs.Law.{KeepsLaw}
use Rattle.ept_grid.specs.Node.{is_open_in}
use Rattle.ept_node.specs.Batch.{seen}
use Rattle.ept_table.specs.declared.note.Told.{Told}
use Rattle.ept_table.specs.declared.note.Carried.{Carried}
use Rattle.ept_table.specs.declared.taken.Cell.{Cell}
use Rattle.ept_table.specs.declared.taken.Progress.{Progress}
use Rattle.ept_table.specs.declared.taken.Taken.{Taken}
use Rattle.ept_table.specs.declared.taken.Taken.TheVariants.{Blank, Standing, Reading}
use Rattle.ept_table.specs.At.{At}
use Rattle.ept_table.specs.Taken.{points_of, is_open_at, slot_at}
use Rattle.ept_table.specs.View.{View, NotesFull}
use Rattle.ept_table.specs.Shown.{IsTold, IsSound, IsSoundFlight, FitsReader, Holds}

-- if contents are visible, the sampling of the points up to the end of the allowance has more nodes than there may be
abbrev pub IsTooMany : Told → Type 0
IsTooMany told = told.tells ≡ true → told.most < length (node_keys told.rules (take told.end told.points))

-- ---- at a take

-- A flight that goes to the slot may arrive at what was taken: it is sound, and the node has its key. If contents are
-- visible, the ids of its points differ from those of the node.
pub record FitsFlight (told : Told) (c : Carried) (x : Taken) : Type 0 where
  pub sound : IsSoundFlight told c.flight
  pub key : (d : Cell) → x ≡ Standing d → d.node.key ≡ c.flight.key
  pub different : told.tells ≡ true → HasDistinctIds (c.flight.points ++ points_of x)

-- a child of the node has a slot of a node, or has none if too many nodes are needed
pub record FitsChild (told : Told) (x : Taken) (o : ℕ) : Type 0 where
  pub within : slot_at x o ≤ told.most
  pub closed : is_open_at x o ≡ false → slot_at x o ≡ 0
  pub lacking : is_open_at x o ≡ true → slot_at x o ≡ 0 → IsTooMany told

-- What lies in a slot: the reader in slot 0, a node or a blank one in every further slot.
pub record Fits (told : Told) (v : View) (k : ℕ) (x : Taken) : Type 0 where
  pub is_told : IsTold told
  pub reader : k ≡ 0 → (r : Progress) × (x ≡ Reading r) × FitsReader told r × (v.note.given ≤ r.drawn)
  pub node : 0 < k → (x ≡ Blank) ⊎ ((d : Cell) × (x ≡ Standing d))
  pub sound : (d : Cell) → x ≡ Standing d → IsSound told d
  pub child : (o : ℕ) → o < 8 → FitsChild told x o
  pub flight : (c : Carried) → IsMember c v.note.flights → c.slot ≡ k → 0 < k → FitsFlight told c x

-- ---- at `look`

-- The seats and the slots show a state that keeps the law, with what the seat carries and holds.
pub record ShowsLaw (told : Told) (v : View) : Type 0 where
  pub state : State
  pub law : KeepsLaw told.rules told.points state
  pub carries : (c : Carried) → IsMember c v.note.flights → IsMember c.flight state.flights
  pub abandoned : (f : Flight) → IsMember f v.note.gone → IsMember f state.flights
  pub reads : (k : ℕ) (r : Progress) → v.hold ≡ Some (k, Reading r) → state.left ≡ drop r.drawn told.points
  pub holds : (k : ℕ) (d : Cell) → v.hold ≡ Some (k, Standing d) → (has_node state.nodes d.node.key ≡ true) × (node_at state.nodes d.node.key ≡ seen d.node)

-- ---- if no seat is at work

-- the rule with no seat: nothing is held, nothing flies, no draw was refused, and the reader has not failed
abbrev pub IsLanded : Told → ℕ → List Taken → Type 0
IsLanded told drawn items = Holds told drawn items []

-- The nodes are the sampling of the first points, and are in slots, each in one. An octant is open if, and only if, its
-- child is a node.
pub record IsSampling (told : Told) (items : List Taken) (first : List Point) : Type 0 where
  pub nodes : List Entry
  pub tiles : map tile_of nodes ≡ sampled told.rules first
  pub standing : (k : ℕ) (c : Cell) → At items k (Standing c) → (has_node nodes c.node.key ≡ true) × (node_at nodes c.node.key ≡ seen c.node)
  pub in_slot : (key : VoxelKey) → has_node nodes key ≡ true → (k : ℕ) × (c : Cell) × At items k (Standing c) × (c.node.key ≡ key)
  pub opened : (k : ℕ) (c : Cell) (o : ℕ) → At items k (Standing c) → o < 8 → is_open_in c.node o ≡ is_node told.rules first (child c.node.key o)

-- the seat carries no flight, has abandoned none, and notes neither `Full` nor a refusal
pub record HasNothing (v : View) : Type 0 where
  pub flights : v.note.flights ≡ []
  pub gone : v.note.gone ≡ []
  pub not_full : NotesFull v → ⊥
  pub failures : v.note.failures ≡ []

-- no other seat has a share
abbrev pub IsLast : List View → ℕ → Type 0
IsLast views i = (j : ℕ) (w : View) → At views j w → (j ≡ i → ⊥) → w.parts ≡ 0

-- How the table ended whose last seat this was.
pub record IsEnded (told : Told) (drawn : ℕ) (items : List Taken) (v : View) : Type 0 where
  pub size : length items ≡ told.most + 1
  pub reader : Progress
  pub at_first : At items 0 (Reading reader)
  pub fits : FitsReader told reader
  pub given : v.note.given ≤ reader.drawn
  pub failed : (e : ReadError) → reader.failed ≡ Some e → IsMember e v.note.failures
  pub noted : (e : ReadError) → IsMember e v.note.failures → reader.failed ≡ Some e
  pub landed : HasNothing v → IsLanded told drawn items
  pub full : NotesFull v → IsTooMany told
  pub fills : told.most < drawn → NotesFull v
