-- Tables at which no worker has worked yet.
use Rattle.std.specs.Prelude.{◌≡◌, ◌+◌}
use Rattle.ept_slots.specs.Seating.{SlotSeat, view}
use Rattle.ept_slots.specs.Views.{first_view}
use Rattle.ept_table.specs.declared.done.Said.{Said}
use Rattle.ept_table.specs.declared.item.Item.{Item}
use Rattle.ept_table.specs.declared.note.Note.{Note}
use Rattle.ept_table.specs.declared.note.Told.{Told}
use Rattle.ept_table.specs.declared.table.NodeTable.{NodeTable}
use Rattle.ept_table.specs.Steps.{first_note}
use Rattle.ept_table.specs.Table.{slots_of, rules_of, IsSeat}

-- a table of which this is known, with its first seat
pub record IsNewTable {F S J : Type 0} (told : Told) (table : NodeTable F S J) (seat : SlotSeat (Item F S) Note Said) : Type 0 where
  pub is_seat : IsSeat told table seat
  pub first : view seat ≡ first_view told.most (first_note told)
  pub slots : slots_of table ≡ told.most + 1
  pub rules : rules_of table ≡ told.rules
