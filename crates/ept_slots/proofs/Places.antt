-- Lists read by place.
use Rattle.std.proofs.Common.{ℕ, zero, suc, ◌<◌, List, [], ◌∷◌, length, set, sym, refl, arith}
use mathlib.Core.Option.{some-ne-none}
use Rattle.atomic_table.proofs.Lists.{set_here}
use Rattle.ept_slots.specs.Views.{At}

module _ {A : Type 0} where
  pub at-below : (l : List A) (i : ℕ) (a : A) → At l i a → i < length l
  at-below [] i a e = absurd (some-ne-none a (sym e))
  at-below (x ∷ xs) zero a e = omega arith
  at-below (x ∷ xs) (suc i) a e = let h = at-below xs i a e in omega arith

  pub there : (l : List A) (i : ℕ) → i < length l → (a : A) × At l i a
  there [] i h = absurd (omega arith)
  there (x ∷ xs) zero h = (x, refl)
  there (x ∷ xs) (suc i) h = there xs i (omega arith)

  pub put-here : (l : List A) (i : ℕ) (a b : A) → At l i a → At (set l i b) i b
  put-here l i a b e = set_here l i b (at-below l i a e)
