-- What a seat knows, and what each step makes of it.
use Rattle.std.specs.Prelude.{◌≡◌, ℕ, ◌+◌, ◌-◌, ◌/◌, List, Option, Some, None}
use mathlib.Core.Option.{some}
use lib.ListN.{get_elem?}
use Rattle.ept_slots.specs.declared.view.Held.{Held}
use Rattle.ept_slots.specs.declared.view.View.{View}

-- x is at the place i
abbrev pub At : {X : Type 0} → List X → ℕ → X → Type 0
At xs i x = get_elem? xs i ≡ some x

-- the parts of all seats together
abbrev pub whole : ℕ
whole = 4294967296

-- how many permits the item took that lay in the slot that is held
abbrev pub held_weight : {T : Type 0} → (T → ℕ) → Option (Held T) → ℕ
held_weight weight None = 0
held_weight weight (Some held) = weight held.item

module _ {T N : Type 0} where
  -- the seat holds the slot k, where it took x
  abbrev pub Holds : View T N → ℕ → T → Type 0
  Holds v k x = v.hold ≡ Some (record { slot = k; item = x })

  abbrev pub HoldsNothing : View T N → Type 0
  HoldsNothing v = v.hold ≡ None

  abbrev pub parts_of : View T N → ℕ
  parts_of v = v.parts

  abbrev pub refused_of : View T N → ℕ
  refused_of v = v.refused

  abbrev pub permits_of : View T N → ℕ
  permits_of v = v.permits

  -- How many permits the seat has once it has returned y. It gets those of the item that it took, and y takes its own.
  abbrev pub permits_after : (T → ℕ) → View T N → T → ℕ
  permits_after weight v y = v.permits + held_weight weight v.hold - weight y

  -- the view of the seat that a table is made with
  abbrev pub first_view : ℕ → N → View T N
  first_view most n = record { most = most; parts = whole; refused = 0; permits = 0; hold = None; note = n }

  -- after x was taken from the slot k
  abbrev pub taken : View T N → ℕ → T → N → View T N
  taken v k x n = record { most = v.most; parts = v.parts; refused = v.refused; permits = v.permits; hold = Some (record { slot = k; item = x }); note = n }

  -- after the slot was returned: the seat has p permits then
  abbrev pub given : View T N → ℕ → N → View T N
  given v p n = record { most = v.most; parts = v.parts; refused = v.refused; permits = p; hold = None; note = n }

  -- after a step that changes its permits alone
  abbrev pub with_permits : View T N → ℕ → View T N
  with_permits v p = record { most = v.most; parts = v.parts; refused = v.refused; permits = p; hold = v.hold; note = v.note }

  -- after a step that changes the note alone
  abbrev pub noted : View T N → N → View T N
  noted v n = record { most = v.most; parts = v.parts; refused = v.refused; permits = v.permits; hold = v.hold; note = n }

  -- after a draw that was refused
  abbrev pub refused : View T N → N → View T N
  refused v n = record { most = v.most; parts = v.parts; refused = v.refused + 1; permits = v.permits; hold = v.hold; note = n }

  -- after a split: what the seat keeps, including its permits, and what the new seat has
  abbrev pub left_of : View T N → N → View T N
  left_of v n = record { most = v.most; parts = v.parts - v.parts / 2; refused = v.refused; permits = v.permits; hold = v.hold; note = n }

  abbrev pub right_of : View T N → N → View T N
  right_of v n = record { most = v.most; parts = v.parts / 2; refused = 0; permits = 0; hold = None; note = n }

  -- after a join: what the seat has, and what the seat that ended leaves
  abbrev pub both_of : View T N → View T N → N → View T N
  both_of v w n = record { most = v.most; parts = v.parts + w.parts; refused = v.refused + w.refused; permits = v.permits + w.permits; hold = v.hold; note = n }

  abbrev pub spent_view : N → View T N
  spent_view n = record { most = 0; parts = 0; refused = 0; permits = 0; hold = None; note = n }
