-- Slots are drawn for the octants that a flight opens.
use Rattle.std.specs.Prelude.{◌≡◌, ℕ, ◌<◌, ◌≤◌, Bool, true, false, List, Option, Some, None}
use Rattle.ept_sample.specs.Members.{IsMember}
use Rattle.ept_grid.specs.Mask.{opened}
use Rattle.ept_grid.specs.Node.{is_open_in}
use Rattle.ept_node.specs.declared.node.Node.{Node}
use Rattle.ept_node.specs.declared.state.NodeState.TheVariants.{Resident}
use Rattle.ept_node.specs.Shown.{state_of, node_of}
use Rattle.ept_table.specs.declared.note.Told.{Told}
use Rattle.ept_table.specs.declared.note.Carried.{Carried}
use Rattle.ept_table.specs.declared.note.Draw.{Draw}
use Rattle.ept_table.specs.declared.taken.Cell.{Cell}
use Rattle.ept_table.specs.declared.taken.Taken.{Taken}
use Rattle.ept_table.specs.declared.taken.Taken.TheVariants.{Blank, Standing}
use Rattle.ept_table.specs.Taken.{is_open_at, slot_at}
use Rattle.ept_table.specs.Shown.{OpensOctant}
use Rattle.ept_table.specs.Steps.{HasChild}
use Rattle.ept_table.specs.Tells.{IsTooMany}
use Rattle.ept_table.specs.View.{View}

abbrev pub taken_in : Option (ℕ × Taken) → Taken
taken_in None = Blank
taken_in (Some (slot, x)) = x

-- what the seat took from the slot that it holds
abbrev pub taken_by : View → Taken
taken_by v = taken_in v.hold

-- A flight of the seat goes to the slot that it holds. Its points have arrived at the node there, and have opened some
-- octants that were closed. The octants that were open before are known as bits.
pub record MayOpen {F : Type 0} (held : F → Option (List ℕ)) (told : Told) (v : View) (slot before : ℕ) (node : Node F) : Type 0 where
  pub holds : v.hold ≡ Some (slot, taken_by v)
  pub share : 0 < v.parts
  pub is_node : 0 < slot
  pub low : slot ≤ told.most
  pub resident : state_of node ≡ Resident
  pub was : (o : ℕ) → o < 8 → opened before o ≡ is_open_at (taken_by v) o
  pub stays : (o : ℕ) → o < 8 → is_open_at (taken_by v) o ≡ true → is_open_in (node_of held node) o ≡ true
  pub closed : (o : ℕ) → o < 8 → is_open_at (taken_by v) o ≡ false → slot_at (taken_by v) o ≡ 0
  pub goes_there : (c : Carried) × IsMember c v.note.flights × (c.slot ≡ slot)
  pub opens : (o : ℕ) → o < 8 → is_open_at (taken_by v) o ≡ false → is_open_in (node_of held node) o ≡ true → told.tells ≡ true → OpensOctant told v.note.flights slot (taken_by v) o

-- The node has slots for the children of the octants below a number, as the seat notes them. For the other octants it
-- has the slots that it had.
pub record HasOpened (told : Told) (v : View) (c : Cell) (below : ℕ) (is_full : Bool) : Type 0 where
  pub full : is_full ≡ true → (0 < v.refused) × IsTooMany told
  pub not_full : is_full ≡ false → v.refused ≡ 0
  pub children : (o : ℕ) → o < below → HasChild v (taken_by v) c o
  pub others : (o : ℕ) → below ≤ o → o < 8 → slot_at (Standing c) o ≡ slot_at (taken_by v) o
  pub draws : (d : Draw) → IsMember d v.note.draws → (d.octant < below) × (is_open_in c.node d.octant ≡ true) × (slot_at (Standing c) d.octant ≡ d.slot)
  pub within : (o : ℕ) → o < 8 → slot_at (Standing c) o ≤ told.most
