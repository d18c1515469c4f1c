-- How items lie in the slots of the underlying table: one after another, and after them the empty list that they were
-- in.
use Rattle.std.specs.Prelude.{◌≡◌, ℕ, ◌+◌, ◌≤◌, List, [], length}
use Rattle.std.specs.Vec.{vec_capacity}
use Rattle.std.specs.declared.alloc.Global.{Global}
use Rattle.std.specs.declared.vec.Vec.{Vec}
use Rattle.ept_slots.specs.declared.slot.Slot.{Slot}
use Rattle.ept_slots.specs.declared.slot.Slot.TheVariants.{Here, Spare}
use Rattle.ept_slots.specs.Views.{At}

pub record IsLaid {T W : Type 0} (items : List T) (slots : List (Slot T W)) : Type 0 where
  pub long : length slots ≡ length items + 1
  pub here : (k : ℕ) (x : T) → At items k x → At slots k (Here x)
  pub list : Vec T Global
  pub last : At slots (length items) (Spare list)
  pub empty : list.items ≡ []
  pub room : length items ≤ vec_capacity list
