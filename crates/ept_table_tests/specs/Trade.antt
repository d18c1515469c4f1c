-- A table of numbers: what is in it and what the seats carry always add up to the same number. One slot may be drawn.
use Rattle.std.specs.Prelude.{◌≡◌, ℕ, ◌+◌, List}
use Rattle.std.specs.List.{sum_by}
use Rattle.ept_slots.specs.declared.view.View.{View}
use Rattle.ept_slots.specs.Views.{At, HoldsNothing}

abbrev pub Known : Type 0
Known = View ℕ ℕ

abbrev pub carried_of : Known → ℕ
carried_of v = v.note

abbrev pub number : ℕ → ℕ
number x = x

-- a seat without a part carries nothing
abbrev pub IsDone : Known → Type 0
IsDone v = v.parts ≡ 0 → v.note ≡ 0

pub record AddsUp (total drawn : ℕ) (items : List ℕ) (views : List Known) : Type 0 where
  pub adds : sum_by number items + sum_by carried_of views ≡ total
  pub done : (id : ℕ) (v : Known) → At views id v → IsDone v

abbrev pub one : ℕ → ℕ
one total = 1

abbrev pub KeepsNote : Known → ℕ → Type 0
KeepsNote v n = n ≡ v.note

-- the seat holds nothing, has its parts as before, and carries this number
abbrev pub IsFreeWith : Known → Known → ℕ → Type 0
IsFreeWith old new n = HoldsNothing new × (new.parts ≡ old.parts) × (new.refused ≡ old.refused) × (new.note ≡ n)
