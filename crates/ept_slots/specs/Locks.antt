-- The words and the slots of the underlying table. Word 0 counts the slots that were drawn, and word 1 the permits that
-- are free. Word k + 2 is the lock of slot k: 1 while a seat holds it, and any other number while it is free.
use Rattle.std.specs.Prelude.{◌≡◌, ◌≢◌, ℕ, ◌+◌, ◌<◌, ◌≤◌, ◌^◌, List, [], length, slice_index}
use Rattle.std.specs.Vec.{vec_capacity}
use Rattle.std.specs.declared.alloc.Global.{Global}
use Rattle.std.specs.declared.vec.Vec.{Vec}
use mathlib.Core.Option.{some}
use mathlib.Core.Option as maybe
use Rattle.atomic_table.specs.Table.{State}
use Rattle.ept_slots.specs.declared.slot.Slot.{Slot}
use Rattle.ept_slots.specs.declared.slot.Slot.TheVariants.{Here, Spare}
use Rattle.ept_slots.specs.declared.view.View.{View}
use Rattle.ept_slots.specs.Views.{At, Holds, whole}
use Rattle.ept_slots.specs.Seats.{Seats, Permits}

abbrev pub drawn_of : List ℕ → ℕ
drawn_of words = slice_index words 0

abbrev pub free_of : List ℕ → ℕ
free_of words = slice_index words 1

abbrev pub lock_of : List ℕ → ℕ → ℕ
lock_of words k = slice_index words (k + 2)

-- some seat holds the slot
abbrev pub HasHolder : {T N : Type 0} → List (View T N) → ℕ → Type 0
HasHolder {T} {N} views k = (id : ℕ) × (v : View T N) × (x : T) × At views id v × Holds v k x

pub record Locks {T N W : Type 0} (words : List ℕ) (homes : List (maybe.Option (Slot T W))) (items : List T) (views : List (View T N)) : Type 0 where
  pub wide : length words ≡ length items + 2
  pub deep : length homes ≡ length items + 1
  pub at_home : (k : ℕ) (x : T) → At items k x → lock_of words k ≢ 1 → At homes k (some (Here x))
  pub marked : (id k : ℕ) (v : View T N) (x : T) → At views id v → Holds v k x → lock_of words k ≡ 1
  pub taken_by : (k : ℕ) → k < length items → lock_of words k ≡ 1 → HasHolder views k
  -- the slot after the last one has the empty list that the items were in
  pub list : Vec T Global
  pub spare : At homes (length items) (some (Spare list))
  pub empty : list.items ≡ []
  pub room : length items ≤ vec_capacity list

-- The rule of the table: there are items for which all of this holds. The table has `all` permits, and an item takes
-- its weight in permits.
pub record Lies {T N W : Type 0} (weight : T → ℕ) (all most : ℕ) (holds : ℕ → List T → List (View T N) → Type 0) (s : State (Slot T W) (View T N)) : Type 0 where
  pub items : List T
  pub small : most < whole
  pub few : all < 2 ^ 64
  pub locks : Locks s.words s.homes items s.views
  pub seats : Seats most (drawn_of s.words) items s.views
  pub permits : Permits weight all (free_of s.words) items s.views
  pub kept : holds (drawn_of s.words) items s.views
