-- The rule over the items and the seats of a table.
use Rattle.std.specs.Prelude.{◌≡◌, ℕ, List, map, Option, Some, None}
use Rattle.ept_sample.specs.Members.{IsMember}
use Rattle.ept_node.specs.declared.error.NodeError.{NodeError}
use Rattle.ept_slots.specs.declared.view.View as slots
use Rattle.ept_slots.specs.declared.view.Held.{Held}
use Rattle.ept_table.specs.declared.item.Item.{Item}
use Rattle.ept_table.specs.declared.note.Note.{Note}
use Rattle.ept_table.specs.declared.note.Told.{Told}
use Rattle.ept_table.specs.declared.taken.Taken.{Taken}
use Rattle.ept_table.specs.At.{At}
use Rattle.ept_table.specs.View.{View}
use Rattle.ept_table.specs.Item.{seen, broken_by, Filed}
use Rattle.ept_table.specs.Shown.{Holds}

module _ {F S : Type 0} (held : F → Option (List ℕ)) (whole : S → Option (List ℕ)) where
  abbrev pub seen_hold : Option (Held (Item F S)) → Option (ℕ × Taken)
  seen_hold None = None
  seen_hold (Some it) = Some (it.slot, seen held whole it.item)

  -- what a seat knows, with what it holds as plain data
  abbrev pub known : slots.View (Item F S) Note → View
  known v = record { parts = v.parts; refused = v.refused; hold = seen_hold v.hold; note = v.note }

-- a node in the slots is broken by this refusal
abbrev pub HasBroken : {F S : Type 0} → List (Item F S) → NodeError → Type 0
HasBroken {F} {S} items why = (k : ℕ) × (x : Item F S) × At items k x × (broken_by x ≡ Some why)

-- each refusal of a node that a seat notes is one by which a node in the slots is broken
abbrev pub HaveBroken : {F S : Type 0} → List (Item F S) → List (slots.View (Item F S) Note) → Type 0
HaveBroken {F} {S} items views = (i : ℕ) (v : slots.View (Item F S) Note) (why : NodeError) → At views i v → IsMember why v.note.broken → HasBroken items why

-- The rule holds of what lies in the slots, as plain data. What is to be known of each item is known. For each refusal
-- of a node that a seat notes, a node is broken by it.
pub record Stands {F S : Type 0} (held : F → Option (List ℕ)) (node_faults keeps : F → ℕ) (whole left : S → Option (List ℕ)) (given faults : S → ℕ) (told : Told) (drawn : ℕ) (items : List (Item F S)) (views : List (slots.View (Item F S) Note)) : Type 0 where
  pub rule : Holds told drawn (map (seen held whole) items) (map (known held whole) views)
  pub filed : (k : ℕ) (x : Item F S) → At items k x → Filed held node_faults keeps whole left given faults told x
  pub broken : HaveBroken items views
