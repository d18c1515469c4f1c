-- Sums over a list of which one place changes.
use Rattle.std.proofs.Common.{◌≡◌, ℕ, zero, suc, ◌+◌, ◌≤◌, List, [], ◌∷◌, set, sym, refl, ap, arith, le_refl}
use Rattle.std.proofs.lemmas.List.Sums.{sum_by-cons}
use Rattle.std.specs.List.{sum_by}
use mathlib.Core.Option.{some-ne-none, some-injective}
use Rattle.ept_slots.specs.Views.{At}

module _ {A : Type 0} (f : A → ℕ) where
  pub sum-put : (l : List A) (i : ℕ) (a b : A) → At l i a → sum_by f (set l i b) + f a ≡ sum_by f l + f b
  sum-put [] i a b e = absurd (some-ne-none a (sym e))
  sum-put (x ∷ xs) zero a b e = omega (arith, sum_by-cons f b xs, sum_by-cons f x xs, ap f (some-injective x a e))
  sum-put (x ∷ xs) (suc i) a b e = omega (arith, sum_by-cons f x (set xs i b), sum_by-cons f x xs, sum-put xs i a b e)

  pub at-le-sum : (l : List A) (i : ℕ) (a : A) → At l i a → f a ≤ sum_by f l
  at-le-sum [] i a e = absurd (some-ne-none a (sym e))
  at-le-sum (x ∷ xs) zero a e = omega (arith, sum_by-cons f x xs, ap f (some-injective x a e))
  at-le-sum (x ∷ xs) (suc i) a e = omega (arith, sum_by-cons f x xs, at-le-sum xs i a e)

-- if no item weighs anything
pub sum-none : {A : Type 0} (l : List A) → sum_by (λ _. 0) l ≡ 0
sum-none [] = refl
sum-none (x ∷ xs) = omega (arith, sum_by-cons (λ _. 0) x xs, sum-none xs)

pub sum-le : {A : Type 0} (f g : A → ℕ) (l : List A) → ((i : ℕ) (a : A) → At l i a → f a ≤ g a) → sum_by f l ≤ sum_by g l
sum-le f g [] each = le_refl 0
sum-le f g (x ∷ xs) each = omega (arith, sum_by-cons f x xs, sum_by-cons g x xs, each 0 x refl, sum-le f g xs (λ i a e. each (suc i) a e))
