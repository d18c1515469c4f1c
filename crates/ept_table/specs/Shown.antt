-- The rule of a table of nodes: what holds at every moment of the slots and of what the seats know. And the state of
-- the machine that they show.
--
-- Slot 0 has the reader, the slots from 1 to the most are for nodes, and slot 1 is the root's. For a held slot the rule
-- refers to what lay there when it was taken.
--
-- The state: `shown` has the points from the reader's place on as those that are left, the flights of all seats, and
-- the nodes. Abandoned flights are included. A blank slot is no node (`Shows`).
--
-- Each rule and the field that carries it:
--
-- - A drawn slot is slot 1, the child of one octant of one node, or noted by the one seat that drew it: `Tree.born`,
--   `Tree.distinct`.
-- - The slots that a seat notes are for different octants of the node that it holds, each closed in it when it was
--   taken: `Tree.draws`.
-- - If contents are visible, the arrival of a flight of that seat opens each of these octants: `Tree.draws`.
-- - If contents are visible and a draw was refused, the sampling up to the end of the allowance has more nodes:
--   `Tree.full_over`.
-- - A flight in a seat's view has the slot of its key, or none once a draw was refused: `Tree.carried`.
-- - That slot is slot 1 or the child slot of an open octant: `Tree.lands`.
-- - The slots from 1 on have the keys of the nodes of the beginning, the root's first: `Tree.first`, `IsTold.top`.
-- - The slots of these keys still have nodes: `Tree.rooted`.
-- - The node of a drawn slot has that slot's key: `Base.keyed`.
-- - The node of a slot that is not drawn is blank: `Tree.undrawn`. So is the node of a slot noted as drawn:
--   `IsDraw.blank`.
-- - Each node has the rules of the forest, its points lie in its box, and it is no deeper than the greatest depth:
--   `IsSound`.
-- - At the greatest depth no octant is open: `IsSound`.
-- - No flight is empty, its points lie in the box of its key, which is no deeper than the greatest depth:
--   `Base.flying`.
-- - An open octant has its child slot, or a draw was refused: `Tree.children`. A closed octant has none: `Tree.closed`.
-- - A child slot whose node is blank has a flight to its key: `Tree.awaited`.
-- - If a seat notes that all slots are drawn, a draw was refused: `Seats.full_above`. If one was refused, some seat
--   notes it: `Seats.above_full`.
-- - The reader has failed by a refusal if, and only if, a seat notes that refusal: `Base.failed`, `Base.noted`.
-- - The reader has its first inputs, and its place and its allowance add up to what they were: `FitsReader`.
-- - Its place is not before the place at which any seat last returned the reader: `Base.given`.
-- - The points of the nodes and of the flights add up to those drawn: `Base.adds_up`.
use Rattle.std.specs.Prelude.{◌≡◌, ℕ, zero, suc, ◌+◌, ◌<◌, ◌≤◌, min, true, false, ◌⊎◌, List, [], ◌++◌, length, take, drop, Some, None, sum_by}
use Rattle.ept_point.specs.declared.point.Point.{Point}
use Rattle.ept_space.specs.declared.bounds.Bounds.{Bounds}
use Rattle.ept_space.specs.VoxelKey.{VoxelKey, root, child}
use Rattle.ept_space.specs.OctreeCube.{InCube}
use Rattle.ept_config.specs.Extents.{IsWithin}
use Rattle.ept_scan.specs.declared.read_error.ReadError.{ReadError}
use Rattle.ept_sample.specs.Place.{place, AllInBox}
use Rattle.ept_sample.specs.Ids.{in_id_order}
use Rattle.ept_sample.specs.Arrivals.{is_open}
use Rattle.ept_sample.specs.Nodes.{node_keys}
use Rattle.ept_sample.specs.Members.{IsMember}
use Rattle.ept_grid.specs.Node.{is_open_in}
use Rattle.ept_core.specs.declared.flight.Flight.{Flight}
use Rattle.ept_core.specs.State.{State, Entry, node_at, has_node, flown}
use Rattle.ept_core.specs.Law.{HasPoint, KeepsLaw}
use Rattle.ept_node.specs.Batch.{seen}
use Rattle.ept_table.specs.declared.note.Counted.{Counted}
use Rattle.ept_table.specs.declared.note.Told.{Told}
use Rattle.ept_table.specs.declared.note.Carried.{Carried}
use Rattle.ept_table.specs.declared.note.Draw.{Draw}
use Rattle.ept_table.specs.declared.taken.Cell.{Cell}
use Rattle.ept_table.specs.declared.taken.Progress.{Progress}
use Rattle.ept_table.specs.declared.taken.Taken.{Taken}
use Rattle.ept_table.specs.declared.taken.Taken.TheVariants.{Blank, Standing, Reading}
use Rattle.ept_table.specs.At.{At}
use Rattle.ept_table.specs.Taken.{points_of, count_of, is_open_at, slot_at}
use Rattle.ept_table.specs.View.{View, NotesFull, IsNothing, all_flights}

-- ---- the ghost input of a table

-- a point lies where the first reading has found points of its input
pub record LiesInInput (inputs : List Counted) (p : Point) : Type 0 where
  pub input : Counted
  pub among : IsMember input inputs
  pub origin : p.origin ≡ input.origin
  pub extent : Bounds
  pub limits : input.limits ≡ Some extent
  pub within : IsWithin extent p

-- there may be a node, the root is the first node of the beginning, and the points of the inputs lie in the cube
pub record IsTold (told : Told) : Type 0 where
  pub some : 0 < told.most
  pub top : At told.begun 0 root
  pub in_cube : (p : Point) → LiesInInput told.inputs p → InCube told.rules.cube (place p)

-- ---- slots

-- the drawn slot has this key: slot k has the key at place k - 1
unfoldable pub KeyOf : List VoxelKey → ℕ → VoxelKey → Type 0
KeyOf keys zero key = ⊥
KeyOf keys (suc i) key = At keys i key

-- all slots are drawn, and one more was asked for
abbrev pub IsOver : Told → ℕ → Type 0
IsOver told drawn = told.most < drawn

-- the slot is that of the key, or it is 0 and all slots are drawn
abbrev pub HasSlot : Told → ℕ → List VoxelKey → ℕ → VoxelKey → Type 0
HasSlot told drawn keys slot key = ((slot ≡ 0) × IsOver told drawn) ⊎ KeyOf keys slot key

-- ---- items

-- A node has the rules of the forest, its points lie in its box, and it is no deeper than the greatest depth. At that
-- depth no octant is open.
pub record IsSound (told : Told) (c : Cell) : Type 0 where
  pub rules : c.node.rules ≡ told.rules
  pub low : c.node.key.depth ≤ told.rules.cube.depth
  pub inside : AllInBox told.rules.cube c.node.key c.node.points
  pub deepest : (o : ℕ) → o < 8 → is_open_in c.node o ≡ true → c.node.key.depth < told.rules.cube.depth

-- a flight is not empty, its points lie in the box of its key, and that key is no deeper than the greatest depth
pub record IsSoundFlight (told : Told) (f : Flight) : Type 0 where
  pub some : HasPoint f.points
  pub low : f.key.depth ≤ told.rules.cube.depth
  pub inside : AllInBox told.rules.cube f.key f.points

-- The reader has the inputs and the end of the allowance of the ghost input. The points of the inputs are those drawn
-- and those left.
pub record FitsReader (told : Told) (r : Progress) : Type 0 where
  pub inputs : r.inputs ≡ told.inputs
  pub end : r.drawn + r.allowed ≡ told.end
  pub total : r.drawn + r.left ≡ told.total

-- ---- seats

-- Each seat that has a share knows the ghost input. A seat without a slot notes no draw, and a seat without a share
-- notes nothing. Some seat notes that all slots are drawn if, and only if, a draw was refused.
pub record Seats (told : Told) (drawn : ℕ) (views : List View) : Type 0 where
  pub knows : (i : ℕ) (v : View) → At views i v → 0 < v.parts → v.note.told ≡ told
  pub idle : (i : ℕ) (v : View) → At views i v → v.hold ≡ None → v.note.draws ≡ []
  pub spent : (i : ℕ) (v : View) → At views i v → v.parts ≡ 0 → IsNothing v
  pub full_above : (i : ℕ) (v : View) → At views i v → NotesFull v → IsOver told drawn
  pub above_full : IsOver told drawn → (i : ℕ) × (v : View) × At views i v × NotesFull v

-- ---- the reader and the nodes

pub record Base (told : Told) (reader : Progress) (keys : List VoxelKey) (items : List Taken) (views : List View) : Type 0 where
  pub size : length items ≡ told.most + 1
  pub at_first : At items 0 (Reading reader)
  pub one_reader : (k : ℕ) (r : Progress) → At items k (Reading r) → k ≡ 0
  pub fits : FitsReader told reader
  pub given : (i : ℕ) (v : View) → At views i v → v.note.given ≤ reader.drawn
  pub failed : (e : ReadError) → reader.failed ≡ Some e → (i : ℕ) × (v : View) × At views i v × IsMember e v.note.failures
  pub noted : (i : ℕ) (v : View) (e : ReadError) → At views i v → IsMember e v.note.failures → reader.failed ≡ Some e
  pub keyed : (k : ℕ) (c : Cell) → At items k (Standing c) → KeyOf keys k c.node.key
  pub sound : (k : ℕ) (c : Cell) → At items k (Standing c) → IsSound told c
  pub flying : (f : Flight) → IsMember f (all_flights views) → IsSoundFlight told f
  pub adds_up : sum_by count_of items + length (flown (all_flights views)) ≡ reader.drawn

-- ---- the drawn slots

-- the slot is the child slot of an open octant of a node
pub record IsChild (items : List Taken) (slot : ℕ) (key : VoxelKey) : Type 0 where
  pub parent : ℕ
  pub cell : Cell
  pub octant : ℕ
  pub at : At items parent (Standing cell)
  pub low : octant < 8
  pub opened : is_open_in cell.node octant ≡ true
  pub slot_is : slot_at (Standing cell) octant ≡ slot
  pub key_is : child cell.node.key octant ≡ key

-- the seat that holds a slot has noted a draw
pub record Drew (views : List View) (held : ℕ) (x : Taken) (d : Draw) : Type 0 where
  pub seat : ℕ
  pub view : View
  pub at : At views seat view
  pub hold : view.hold ≡ Some (held, x)
  pub noted : IsMember d view.note.draws

-- the slot is noted by the seat that drew it
pub record IsDrawn (keys : List VoxelKey) (views : List View) (slot : ℕ) (key : VoxelKey) : Type 0 where
  pub held : ℕ
  pub taken : Taken
  pub draw : Draw
  pub parent : VoxelKey
  pub drew : Drew views held taken draw
  pub held_is : KeyOf keys held parent
  pub slot_is : draw.slot ≡ slot
  pub key_is : child parent draw.octant ≡ key

-- a flight of the seat to the slot that it holds opens the octant
pub record OpensOctant (told : Told) (flights : List Carried) (held : ℕ) (x : Taken) (o : ℕ) : Type 0 where
  pub carried : Carried
  pub among : IsMember carried flights
  pub goes_there : carried.slot ≡ held
  pub opens : is_open told.rules carried.flight.key.depth (is_open_at x) (in_id_order (carried.flight.points ++ points_of x)) o ≡ true

-- a draw that a seat notes is for an octant of the node that it holds
pub record IsDraw (told : Told) (keys : List VoxelKey) (items : List Taken) (flights : List Carried) (held : ℕ) (x : Taken) (d : Draw) : Type 0 where
  pub parent : VoxelKey
  pub held_is : KeyOf keys held parent
  pub low : d.octant < 8
  pub closed : is_open_at x d.octant ≡ false
  pub key_is : KeyOf keys d.slot (child parent d.octant)
  pub blank : At items d.slot Blank
  pub opens : told.tells ≡ true → OpensOctant told flights held x d.octant

pub record Tree (told : Told) (drawn : ℕ) (keys : List VoxelKey) (items : List Taken) (views : List View) : Type 0 where
  pub counted : length keys ≡ min drawn told.most
  pub first : (i : ℕ) (key : VoxelKey) → At told.begun i key → KeyOf keys (suc i) key
  pub distinct : (j k : ℕ) (key : VoxelKey) → KeyOf keys j key → KeyOf keys k key → j ≡ k
  pub rooted : (i : ℕ) (key : VoxelKey) → At told.begun i key → (c : Cell) × At items (suc i) (Standing c)
  pub undrawn : (k : ℕ) (x : Taken) → At items k x → length keys < k → x ≡ Blank
  pub carried : (i : ℕ) (v : View) (c : Carried) → At views i v → IsMember c v.note.flights → HasSlot told drawn keys c.slot c.flight.key
  pub lands : (i : ℕ) (v : View) (c : Carried) → At views i v → IsMember c v.note.flights → 0 < c.slot → (c.slot ≡ 1) ⊎ IsChild items c.slot c.flight.key
  pub children : (k : ℕ) (c : Cell) (o : ℕ) → At items k (Standing c) → o < 8 → is_open_in c.node o ≡ true → HasSlot told drawn keys (slot_at (Standing c) o) (child c.node.key o)
  pub closed : (k : ℕ) (c : Cell) (o : ℕ) → At items k (Standing c) → o < 8 → is_open_in c.node o ≡ false → slot_at (Standing c) o ≡ 0
  pub awaited : (k : ℕ) (c : Cell) (o : ℕ) → At items k (Standing c) → o < 8 → is_open_in c.node o ≡ true → At items (slot_at (Standing c) o) Blank → (f : Flight) × IsMember f (all_flights views) × (f.key ≡ child c.node.key o)
  pub born : (k : ℕ) (key : VoxelKey) → KeyOf keys k key → (k ≡ 1) ⊎ (IsChild items k key ⊎ IsDrawn keys views k key)
  pub draws : (i : ℕ) (v : View) (held : ℕ) (x : Taken) (d : Draw) → At views i v → v.hold ≡ Some (held, x) → IsMember d v.note.draws → IsDraw told keys items v.note.flights held x d
  pub full_over : told.tells ≡ true → IsOver told drawn → told.most < length (node_keys told.rules (take told.end told.points))

-- ---- the state

-- the points from the reader's place on, the flights of all seats, and the nodes
abbrev pub shown : Told → Progress → List Entry → List View → State
shown told reader nodes views = record {
  left = drop reader.drawn told.points;
  flights = all_flights views;
  nodes = nodes;
}

-- If contents are visible, the state keeps the law: its nodes are those in the slots.
pub record Shows (told : Told) (reader : Progress) (items : List Taken) (views : List View) : Type 0 where
  pub nodes : List Entry
  pub law : KeepsLaw told.rules told.points (shown told reader nodes views)
  pub standing : (k : ℕ) (c : Cell) → At items k (Standing c) → (has_node nodes c.node.key ≡ true) × (node_at nodes c.node.key ≡ seen c.node)
  pub in_slot : (key : VoxelKey) → has_node nodes key ≡ true → (k : ℕ) × (c : Cell) × At items k (Standing c) × (c.node.key ≡ key)
  pub total : length told.points ≡ told.total

-- the rule
pub record Holds (told : Told) (drawn : ℕ) (items : List Taken) (views : List View) : Type 0 where
  pub keys : List VoxelKey
  pub reader : Progress
  pub is_told : IsTold told
  pub seats : Seats told drawn views
  pub base : Base told reader keys items views
  pub tree : Tree told drawn keys items views
  pub shows : told.tells ≡ true → Shows told reader items views

-- ---- what the locks show besides

-- What a seat notes of the slot that it holds is what lay there. No two seats hold one slot, and a seat without a share
-- holds none.
pub record AreLocked (items : List Taken) (views : List View) : Type 0 where
  pub as_taken : (i : ℕ) (v : View) (k : ℕ) (x : Taken) → At views i v → v.hold ≡ Some (k, x) → At items k x
  pub idle : (i : ℕ) (v : View) → At views i v → v.parts ≡ 0 → v.hold ≡ None
  pub one_holder : (i j : ℕ) (v w : View) (k : ℕ) (x y : Taken) → At views i v → At views j w → v.hold ≡ Some (k, x) → w.hold ≡ Some (k, y) → i ≡ j
