-- Several workers at a table.
use Rattle.std.specs.Prelude.{◌≡◌, ℕ, ◌+◌, ◌≤◌, List, [], Option, IfErr, OnOk}
use Rattle.ept_slots.specs.Seating.{SlotSeat, view}
use Rattle.ept_table.specs.declared.done.Said.{Said}
use Rattle.ept_table.specs.declared.item.Item.{Item}
use Rattle.ept_table.specs.declared.note.Note.{Note}
use Rattle.ept_table.specs.declared.note.Told.{Told}
use Rattle.ept_table.specs.declared.table.NodeTable.{NodeTable}
use Rattle.ept_table.specs.Standing.{known}
use Rattle.ept_table.specs.Table.{slots_of, rules_of, IsSeat}
use Rattle.ept_work.specs.declared.inserting.Ended.{Ended}
use Rattle.ept_work.specs.Rest.{IsAtRest}
use Rattle.ept_work.specs.Working.{HasWorked, HasEnded, IsCause}

module _ {F S J : Type 0} (held : F → Option (List ℕ)) (told : Told) (whole : S → Option (List ℕ)) (table : NodeTable F S J) where
  -- `workers` workers, numbered from the first on, may work; each has a part of the seat's share
  pub record MayWork (seat : SlotSeat (Item F S) Note Said) (first workers : ℕ) : Type 0 where
    pub is_seat : IsSeat told table seat
    pub rest : IsAtRest told (known held whole (view seat))
    pub empty : (view seat).note.flights ≡ []
    pub slots : slots_of table ≡ told.most + 1
    pub rules : rules_of table ≡ told.rules
    pub some : 1 ≤ workers
    pub share : workers ≤ (view seat).parts
    pub numbers : first + workers ≤ 64

  -- they have worked, each to its end
  pub record HaveWorked (seat : SlotSeat (Item F S) Note Said) (ended : Ended F S) : Type 0 where
    pub is_seat : IsSeat told table ended.seat
    pub ends : HasEnded (known held whole (view seat)) (known held whole (view ended.seat))
    pub ok : OnOk ended.result (HasWorked told (known held whole (view seat)) (known held whole (view ended.seat)))
    pub refused : IfErr ended.result (IsCause told (known held whole (view ended.seat)))
