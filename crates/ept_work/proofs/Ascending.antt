-- Lists of slots that ascend.
use Rattle.std.proofs.Common.{◌≡◌, ◌⊎◌, ℕ, ◌+◌, ◌-◌, ◌<◌, ◌≤◌, inl, inr, List, [], ◌∷◌, ◌++◌, length, get_or, sym, ap, subst, arith, length-append}
use Rattle.std.specs.List.{remove}
use Rattle.std.specs.List.Sorted.{IsNonDecreasing}
use Rattle.std.proofs.Math.ListN.{get_or-append}
use Rattle.std.proofs.lemmas.List.{get_or_push}
use Rattle.std.proofs.lemmas.List.Edits.{length-remove, get_or-remove_below, get_or-remove_above}
use Rattle.std.proofs.lemmas.List.Sorted.{IsNonDecreasingBy-push}

below_or_not : (i n : ℕ) → (i < n) ⊎ (n ≤ i)
below_or_not i n = grind arith

-- without one of the slots
pub without-one : (xs ys : List ℕ) (at : ℕ) → at < length xs → ys ≡ remove xs at → IsNonDecreasing xs → IsNonDecreasing ys
without-one xs ys at low are up i j d le less = elim (below_or_not j at) [
  | inl behind ↦ (
      let before : i < at = omega (arith, le, behind) in
      omega (arith, here i, here j, get_or-remove_below xs at d i before low, get_or-remove_below xs at d j behind low, up i j d le (omega (arith, behind, low))))
  | inr above ↦ elim (below_or_not i at) [
    | inl before ↦ omega (arith, here i, here j, get_or-remove_below xs at d i before low, get_or-remove_above xs at d j above low, up i (j + 1) d (omega (arith, le)) (omega (arith, less, many)))
    | inr behind ↦ omega (arith, here i, here j, get_or-remove_above xs at d i behind low, get_or-remove_above xs at d j above low, up (i + 1) (j + 1) d (omega (arith, le)) (omega (arith, less, many)))
  ]
]
  where
    many : length ys + 1 ≡ length xs
    many = omega (arith, ap length are, length-remove xs at low)

    here : (k : ℕ) → get_or ys k d ≡ get_or (remove xs at) k d
    here k = ap (λ (zs : List ℕ). get_or zs k d) are

-- no slot of the list is above a number
pub record IsUpTo (xs : List ℕ) (limit : ℕ) : Type 0 where
  pub ascend : IsNonDecreasing xs
  pub below : (k d : ℕ) → k < length xs → get_or xs k d ≤ limit

-- with one more slot at its end
pub with-one : (xs ys : List ℕ) (limit : ℕ) → ys ≡ xs ++ ((limit + 1) ∷ []) → IsUpTo xs limit → IsUpTo ys (limit + 1)
with-one xs ys limit are up = subst (λ (zs : List ℕ). IsUpTo zs (limit + 1)) (sym are) (record {
  ascend = IsNonDecreasingBy-push (λ x. x) xs (limit + 1) up.ascend (λ d some. omega (arith, up.below (length xs - 1) d (omega (arith, some))));
  below = λ k d low. elim (below_or_not k (length xs)) [
    | inl before ↦ omega (arith, get_or-append xs ((limit + 1) ∷ []) d k before, up.below k d before)
    | inr above ↦ (
        let last : length xs ≡ k = omega (arith, above, low, length-append xs ((limit + 1) ∷ [])) in
        omega (arith, get_or_push xs (limit + 1) d k last))
  ];
})

pub same-up : (xs ys : List ℕ) (limit : ℕ) → ys ≡ xs → IsUpTo xs limit → IsUpTo ys (limit + 1)
same-up xs ys limit are up = subst (λ (zs : List ℕ). IsUpTo zs (limit + 1)) (sym are) (record { ascend = up.ascend; below = λ k d low. omega (arith, up.below k d low) })
