-- A table and its seats, as clauses have them.
use Rattle.std.specs.Prelude.{ℕ}
use Rattle.ept_space.specs.declared.cube.Rules.{Rules}
use Rattle.ept_slots.specs.Seating.{SlotSeat, count_of, IsSeatOf}
use Rattle.ept_table.specs.declared.done.Said.{Said}
use Rattle.ept_table.specs.declared.item.Item.{Item}
use Rattle.ept_table.specs.declared.note.Note.{Note}
use Rattle.ept_table.specs.declared.note.Told.{Told}
use Rattle.ept_table.specs.declared.table.NodeTable.{NodeTable}

module _ {F S J : Type 0} where
  -- how many slots it has, including the slot of the reader
  abbrev pub slots_of : NodeTable F S J → ℕ
  slots_of table = count_of table.slots

  -- the rules of the sampling
  abbrev pub rules_of : NodeTable F S J → Rules
  rules_of table = table.rules

  -- how many nodes may be in memory at a time
  abbrev pub cache_of : NodeTable F S J → ℕ
  cache_of table = table.cache

  -- the seat is one of this table, in which slots are drawn up to the most of the ghost input
  abbrev pub IsSeat : Told → NodeTable F S J → SlotSeat (Item F S) Note Said → Type 0
  IsSeat told table seat = IsSeatOf (λ _. told.most) table.slots seat
