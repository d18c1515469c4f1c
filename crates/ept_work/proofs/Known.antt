-- What a seat knows as plain data, and what it holds.
use Rattle.std.proofs.Common.{◌≡◌, ℕ, List, refl, ap, Option, Some, None}
use Rattle.ept_slots.specs.declared.view.View as slots
use Rattle.ept_slots.specs.declared.view.Held.{Held}
use Rattle.ept_node.specs.declared.node.Node.{Node}
use Rattle.ept_table.specs.declared.item.Item.{Item}
use Rattle.ept_table.specs.declared.item.Item.TheVariants as items
use Rattle.ept_table.specs.declared.taken.Taken.{Taken}
use Rattle.ept_table.specs.declared.taken.Taken.TheVariants.{Blank, Reading}
use Rattle.ept_table.specs.declared.taken.Progress.{Progress}
use Rattle.ept_table.specs.declared.note.Note.{Note}
use Rattle.ept_node.specs.Shown.{state_of}
use Rattle.ept_node.specs.declared.state.NodeState.{NodeState}
use Rattle.ept_node.specs.declared.state.NodeState.TheVariants as states
use Rattle.ept_table.specs.declared.taken.Cell.{Cell}
use Rattle.ept_table.specs.Item.{taken_as, cell_of, seen, seen_reader}
use Rattle.ept_table.specs.Standing.{seen_hold, known}
use Rattle.ept_scan.specs.declared.second_reading.Reader.{Reader}

abbrev slot_in : Option (ℕ × Taken) → ℕ
slot_in None = 0
slot_in (Some (k, x)) = k

abbrev item_in : Option (ℕ × Taken) → Taken
item_in None = Blank
item_in (Some (k, x)) = x

pub not_reading : (s : NodeState) (c : Cell) (r : Progress) → taken_as s c ≡ Reading r → ⊥
not_reading states.Blank c r e = cc
not_reading states.Resident c r e = cc
not_reading states.Spilled c r e = cc
not_reading states.Broken c r e = cc

module _ {F S : Type 0} (held : F → Option (List ℕ)) (whole : S → Option (List ℕ)) where
  hold_item : (hold : Option (Held (Item F S))) (k : ℕ) (x : Taken) → seen_hold held whole hold ≡ Some (k, x) → (y : Item F S) × (hold ≡ Some (record { slot = k; item = y })) × (seen held whole y ≡ x)
  hold_item None k x e = absurd (cc)
  hold_item (Some h) k x e =
      (h.item, ap (λ (n : ℕ). let o : Option (Held (Item F S)) = Some (record { slot = n; item = h.item }) in o) (ap slot_in e), ap item_in e)

  -- the item that a seat holds, if it is known to hold this
  pub known-item : (v : slots.View (Item F S) Note) (k : ℕ) (x : Taken) → (known held whole v).hold ≡ Some (k, x) → (y : Item F S) × (v.hold ≡ Some (record { slot = k; item = y })) × (seen held whole y ≡ x)
  known-item v k x e = hold_item v.hold k x e

  hold_none : (hold : Option (Held (Item F S))) → seen_hold held whole hold ≡ None → hold ≡ None
  hold_none None e = refl
  hold_none (Some h) e = absurd (cc)

  -- a seat that is known to hold nothing holds nothing
  pub known-free : (v : slots.View (Item F S) Note) → (known held whole v).hold ≡ None → v.hold ≡ None
  known-free v e = hold_none v.hold e

  -- an item that is seen as a reader is a reader
  pub seen-reader : (x : Item F S) (r : Progress) → seen held whole x ≡ Reading r → (y : Reader S) × (x ≡ items.Reader y)
  seen-reader (items.Reader y) r e = (y, refl)
  seen-reader (items.Node node) r e = absurd (not_reading (state_of node) (cell_of held node) r e)

  -- an item that is seen as a node is a node
  pub seen-node : (x : Item F S) → ((r : Progress) → seen held whole x ≡ Reading r → ⊥) → (y : Node F) × (x ≡ items.Node y)
  seen-node (items.Reader y) not = absurd (not (seen_reader whole y) refl)
  seen-node (items.Node y) not = (y, refl)
