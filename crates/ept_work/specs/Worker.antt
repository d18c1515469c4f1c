-- A worker, as clauses have it.
use Rattle.std.specs.Prelude.{◌≡◌, ℕ, List, Option}
use Rattle.ept_sample.specs.Members.{IsMember}
use Rattle.ept_slots.specs.Seating.{SlotSeat, view}
use Rattle.ept_table.specs.declared.done.Said.{Said}
use Rattle.ept_table.specs.declared.item.Item.{Item}
use Rattle.ept_table.specs.declared.note.Carried.{Carried}
use Rattle.ept_table.specs.declared.note.Note.{Note}
use Rattle.ept_table.specs.Standing.{known}
use Rattle.ept_table.specs.View.{View}
use Rattle.ept_work.specs.declared.worker.Worker.{Worker}

module _ {F S : Type 0} where
  -- its seat
  abbrev pub seat_of : Worker F S → SlotSeat (Item F S) Note Said
  seat_of worker = worker.seat

  -- its number
  abbrev pub number_of : Worker F S → ℕ
  number_of worker = worker.number

  -- what it knows, including its flights
  abbrev pub knows : (F → Option (List ℕ)) → (S → Option (List ℕ)) → Worker F S → View
  knows held whole worker = known held whole (view worker.seat)

-- one of these flights goes to this slot
abbrev pub IsGoal : List Carried → ℕ → Type 0
IsGoal flights slot = (c : Carried) × IsMember c flights × (c.slot ≡ slot)
