-- What the seats of a table know.
use Rattle.std.specs.Prelude.{◌≡◌, ◌<◌, ℕ, true, ◌⊎◌, List, [], ◌++◌, map, Option}
use Rattle.std.specs.List.{flat_map}
use Rattle.ept_core.specs.declared.flight.Flight.{Flight}
use Rattle.ept_table.specs.declared.note.Carried.{Carried}
use Rattle.ept_table.specs.declared.note.Note.{Note}
use Rattle.ept_table.specs.declared.taken.Taken.{Taken}

-- Its share of the seats, and how many draws of it were refused with `Full`. The slot that it holds, with what lay
-- there when it was taken. What it notes.
pub record View : Type 0 where
  pub parts : ℕ
  pub refused : ℕ
  pub hold : Option (ℕ × Taken)
  pub note : Note

-- it notes that all slots are drawn
abbrev pub NotesFull : View → Type 0
NotesFull v = (0 < v.refused) ⊎ (v.note.over ≡ true)

-- its flights, including abandoned ones
abbrev pub flights_of : View → List Flight
flights_of v = map (λ (c : Carried). c.flight) v.note.flights ++ v.note.gone

-- it has no flight, and notes neither that all slots are drawn nor a refusal
abbrev pub IsNothing : View → Type 0
IsNothing v = (flights_of v ≡ []) × (NotesFull v → ⊥) × (v.note.failures ≡ [])

-- the flights of all seats, seat after seat
abbrev pub all_flights : List View → List Flight
all_flights views = flat_map flights_of views
