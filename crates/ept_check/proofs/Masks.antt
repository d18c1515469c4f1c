-- Sets of octants.
use Rattle.std.proofs.Common.{◌≡◌, ◌∙◌, ℕ, ◌+◌, ◌<◌, ◌≤◌, ◌*◌, ◌%◌, ◌^◌, Bool, true, false, ◌||◌, ◌&&◌, ◌==◌, refl, sym, ap, arith, bit_or, inl, inr, ◌⊎◌, ◌≢◌, w8}
use Rattle.std.specs.Prelude.{nat_lt}
use Rattle.std.proofs.lemmas.Nat.Bits.{bit_at_set_same, bit_at_set_other, bit_at-zero}
use Rattle.std.specs.Int.{bit_at}
use Rattle.std.proofs.lemmas.Bool.{cases_lt}
use Rattle.std.proofs.lemmas.Bool.Decides.{nat_tests}
use Rattle.ept_grid.specs.Mask.{opened}

-- the octants below a number that pass a test are open, and no others
pub record AreOpen (mask : ℕ) (test : ℕ → Bool) (below : ℕ) : Type 0 where
  pub opens : (o : ℕ) → o < below → opened mask o ≡ test o
  pub shut : (o : ℕ) → below ≤ o → opened mask o ≡ false

pub open-none : (test : ℕ → Bool) → AreOpen 0 test 0
unfolding opened
open-none test = record {
  opens = λ o less. absurd (omega (arith, less));
  shut = λ o more. ap (λ n. n == 1) (bit_at-zero o);
}

same-bit : (mask k : ℕ) → k < 8 → opened (bit_or mask (1 * 2 ^ k % 256)) k ≡ true
unfolding opened
same-bit mask k small = ap (λ n. n == 1) (bit_at_set_same w8 mask k small)

other-bit : (mask k : ℕ) → k < 8 → (o : ℕ) → o ≢ k → opened (bit_or mask (1 * 2 ^ k % 256)) o ≡ opened mask o
unfolding opened
other-bit mask k small o apart = ap (λ n. n == 1) (bit_at_set_other w8 mask k small o apart)

pub open-more : (mask : ℕ) (test : ℕ → Bool) (k : ℕ) → k < 8 → AreOpen mask test k → test k ≡ true → AreOpen (bit_or mask (1 * 2 ^ k % 256)) test (k + 1)
open-more mask test k small is passes = record {
  opens = λ o less. by_case o (cases_lt o k) less;
  shut = λ o more. other-bit mask k small o (omega arith) ∙ is.shut o (omega (arith, more));
}
  where
    by_case : (o : ℕ) → (o < k) ⊎ (k ≤ o) → o < k + 1 → opened (bit_or mask (1 * 2 ^ k % 256)) o ≡ test o
    by_case o (inl below) less = other-bit mask k small o (omega arith) ∙ is.opens o below
    by_case o (inr above) less =
        let here : o ≡ k = omega (arith, above, less) in
        ap (λ (n : ℕ). opened (bit_or mask (1 * 2 ^ k % 256)) n) here ∙ (same-bit mask k small ∙ (sym passes ∙ ap test (sym here)))

pub open-less : (mask : ℕ) (test : ℕ → Bool) (k : ℕ) → AreOpen mask test k → test k ≡ false → AreOpen mask test (k + 1)
open-less mask test k is fails = record {
  opens = λ o less. by_case o (cases_lt o k) less;
  shut = λ o more. is.shut o (omega (arith, more));
}
  where
    by_case : (o : ℕ) → (o < k) ⊎ (k ≤ o) → o < k + 1 → opened mask o ≡ test o
    by_case o (inl below) less = is.opens o below
    by_case o (inr above) less =
        let here : o ≡ k = omega (arith, above, less) in
        ap (λ (n : ℕ). opened mask n) here ∙ (is.shut k (omega arith) ∙ (sym fails ∙ ap test (sym here)))
