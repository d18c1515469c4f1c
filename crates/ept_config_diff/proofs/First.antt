-- The first field that differs.
use Rattle.std.proofs.Common.{◌≡◌, ◌∙◌, ℕ, zero, suc, ◌<◌, List, [], ◌∷◌, ◌++◌, take, drop, length, get_or, refl, ap, subst, arith}
use Rattle.std.specs.Prelude.{All, ◌≤◌}
use Rattle.std.proofs.lemmas.List.{take_all}
use Rattle.ept_config.specs.declared.kept.Kept.{Kept}
use Rattle.ept_meta.specs.declared.fields.Field.{Field}
use Rattle.ept_config_diff.specs.Differing.{IsAsKept, in_order, IsFirst}

split-at : (xs : List Field) (i : ℕ) (d : Field) → i < length xs → xs ≡ take i xs ++ get_or xs i d ∷ drop (suc i) xs
split-at [] i d inside = absurd (omega (arith, inside))
split-at (x ∷ xs) zero d inside = refl
split-at (x ∷ xs) (suc i) d inside = ap (λ (w : List Field). x ∷ w) (split-at xs i d (omega (arith, inside)))

pub first-at : (kept given : Kept) (i : ℕ) (d : Field) → i < length in_order → All (IsAsKept kept given) (take i in_order) → ¬ IsAsKept kept given (get_or in_order i d) → IsFirst kept given (get_or in_order i d)
first-at kept given i d inside alike not = record {
  before = take i in_order;
  behind = drop (suc i) in_order;
  among = split-at in_order i d inside;
  alike = alike;
  differs = not;
}

pub all-taken : (P : Field → Type 0) (xs : List Field) (i : ℕ) → length xs ≤ i → All P (take i xs) → All P xs
all-taken P xs i past all = subst (All P) (take_all i xs past) all
