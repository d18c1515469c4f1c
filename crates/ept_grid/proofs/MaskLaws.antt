-- Sets of octants.
use Rattle.std.proofs.Common.{◌≡◌, ◌∙◌, ℕ, ◌<◌, ◌/◌, ◌*◌, ◌%◌, ◌^◌, Bool, true, false, ◌||◌, ◌==◌, refl, sym, ap, arith, bit_and, bit_or, inl, inr, ◌≢◌, w8}
use Rattle.std.proofs.lemmas.Nat.Bits.{shr_and_one, bit_at_set_same, bit_at_set_other, bit_at-zero}
use Rattle.std.specs.Int.{bit_at}
use Rattle.std.proofs.lemmas.Bool.Decides.{nat_tests}
use Rattle.ept_sample.proofs.Choices.{either}
use Rattle.ept_grid.specs.Mask.{opened}

pub opened-shift : (mask o : ℕ) → (bit_and (mask / 2 ^ o) 1 == 1) ≡ opened mask o
unfolding opened
opened-shift mask o = ap (λ n. n == 1) (shr_and_one mask o)

same : (a b : ℕ) → (a == b) ≡ true → a ≡ b
same a b e = grind (arith, nat_tests)

other : (a b : ℕ) → (a == b) ≡ false → a ≢ b
other a b e = grind (arith, nat_tests)

or_true : (b : Bool) → (b || true) ≡ true
or_true true = refl
or_true false = refl

or_false : (b : Bool) → (b || false) ≡ b
or_false true = refl
or_false false = refl

pub opened-set : (mask k : ℕ) → k < 8 → (o : ℕ) → opened (bit_or mask (1 * 2 ^ k % 256)) o ≡ (opened mask o || (o == k))
unfolding opened
opened-set mask k small o =
    elim (either (o == k)) [
      | inl is ↦
          ap (λ n. n == 1) (ap (λ n. bit_at (bit_or mask (1 * 2 ^ k % 256)) n) (same o k is) ∙ bit_at_set_same w8 mask k small) ∙ sym (ap (λ b. opened mask o || b) is ∙ or_true (opened mask o))
      | inr apart ↦
          ap (λ n. n == 1) (bit_at_set_other w8 mask k small o (other o k apart)) ∙ sym (ap (λ b. opened mask o || b) apart ∙ or_false (opened mask o))
    ]

pub opened-none : (o : ℕ) → opened 0 o ≡ false
unfolding opened
opened-none o = ap (λ n. n == 1) (bit_at-zero o)
