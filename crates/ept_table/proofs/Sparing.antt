-- The permits of a seat, step by step.
use Rattle.std.proofs.Common.{◌≡◌, ℕ, ◌+◌, ◌-◌, ◌≤◌, ap, arith}
use Rattle.ept_slots.specs.declared.view.View as slots
use Rattle.ept_slots.specs.Views.{HoldsNothing, held_weight, permits_after, taken, given, noted}
use Rattle.ept_table.specs.declared.item.Item.{Item}
use Rattle.ept_table.specs.declared.note.Note.{Note}
use Rattle.ept_table.specs.Permits.{weight_of, spare_of}

module _ (F S : Type 0) where
  abbrev ViewOf : Type 0
  ViewOf = slots.View (Item F S) Note

  pub spare-taken : (v w : ViewOf) (k : ℕ) (x : Item F S) (n : Note) → w ≡ taken v k x n → HoldsNothing v → spare_of w ≡ spare_of v + weight_of x
  spare-taken v w k x n is free =
      let after : spare_of w ≡ v.permits + weight_of x = ap (λ (z : ViewOf). spare_of z) is in
      let none : held_weight weight_of v.hold ≡ 0 = ap (held_weight weight_of) free in omega (arith, after, none)

  pub spare-given : (v w : ViewOf) (y : Item F S) (n : Note) → w ≡ given v (permits_after weight_of v y) n → weight_of y ≤ spare_of v → spare_of w + weight_of y ≡ spare_of v
  spare-given v w y n is enough =
      let after : spare_of w ≡ v.permits + held_weight weight_of v.hold - weight_of y + 0 = ap (λ (z : ViewOf). spare_of z) is in omega (arith, after, enough)

  pub spare-noted : (v w : ViewOf) (n : Note) → w ≡ noted v n → spare_of w ≡ spare_of v
  spare-noted v w n is = ap (λ (z : ViewOf). spare_of z) is
