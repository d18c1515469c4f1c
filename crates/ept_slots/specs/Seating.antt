-- What a clause states of a table of slots and of its seats.
use Rattle.std.specs.Prelude.{◌≡◌, ℕ, List, [], ◌∷◌, Option, Some, None}
use Rattle.atomic_table.specs.declared.shared.Seat.{Seat}
use Rattle.ept_slots.specs.declared.slot.Slot.{Slot}
use Rattle.ept_slots.specs.declared.slot.Slot.TheVariants.{Out}
use Rattle.ept_slots.specs.declared.slots.Slots.{Slots}
use Rattle.ept_slots.specs.declared.view.Held.{Held}
use Rattle.ept_slots.specs.declared.view.View.{View}
use Rattle.ept_slots.specs.Views.{At}
use Rattle.ept_slots.specs.Seats.{Seats, IsAlone}

abbrev pub SlotSeat : Type 0 → Type 0 → Type 0 → Type 0
SlotSeat T N W = Seat (Slot T W) (View T N)

module _ {T N W : Type 0} where
  -- what the seat knows
  abbrev pub view : SlotSeat T N W → View T N
  view seat = seat.me.0

-- the hand of a seat: the slot that it holds, whose item it has moved out
module _ {T W : Type 0} where
  abbrev pub emptied : Option (Held T) → List (ℕ × Slot T W)
  emptied None = []
  emptied (Some h) = (h.slot, Out) ∷ []

module _ {T N W K R : Type 0} where
  -- how many slots there are
  abbrev pub count_of : Slots T N W K R → ℕ
  count_of slots = slots.count

  -- the key of the rule, fixed when the table was made
  abbrev pub key_of : Slots T N W K R → K
  key_of slots = slots.table.shared.key

  -- a seat of this table, in which slots are drawn up to the number `most`
  abbrev pub IsSeatOf : (K → ℕ) → Slots T N W K R → SlotSeat T N W → Type 0
  IsSeatOf most slots seat = (seat.table_id ≡ slots.table.shared.table_id) × (seat.me.0.most ≡ most (key_of slots)) × (slots.last ≡ most (key_of slots)) × (seat.me.1 ≡ emptied seat.me.0.hold)

-- How a table ended: this number of slots was drawn, these items lay in it, and the seat id has the view v. No other
-- seat has a part.
abbrev pub Ended : {T N : Type 0} → (ℕ → List T → List (View T N) → Type 0) → ℕ → ℕ → View T N → ℕ → List T → Type 0
Ended {T} {N} holds most id v drawn items = (views : List (View T N)) × Seats most drawn items views × holds drawn items views × At views id v × IsAlone views id
