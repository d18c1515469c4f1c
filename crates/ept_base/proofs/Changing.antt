-- What changed files read as.
use Rattle.std.proofs.Common.{◌≡◌, ◌≢◌, ℕ, List, Option, Bool, true, false, cond, refl, ap, inl, inr, ◌⊎◌}
use Rattle.std.specs.Prelude.{bytes_eq}
use Rattle.std.proofs.lemmas.Slice.Eq.{bytes_eq-Decides}
use Rattle.ept_base.specs.Files.{Files, changed}

bytes_eq_true : (xs ys : List ℕ) → xs ≡ ys → bytes_eq xs ys ≡ true
bytes_eq_true xs ys same = (bytes_eq-Decides xs ys).1 same

bytes_eq_false : (xs ys : List ℕ) → xs ≢ ys → bytes_eq xs ys ≡ false
bytes_eq_false xs ys differ = by_cases (bytes_eq xs ys) (bytes_eq-Decides xs ys).0 differ
  where
    by_cases : (b : Bool) → (b ≡ true → xs ≡ ys) → xs ≢ ys → b ≡ false
    by_cases true told differ = absurd (differ (told refl))
    by_cases false told differ = refl

pub changed_same : (files : Files) (name : List ℕ) (content : Option (List ℕ)) → changed files name content name ≡ content
changed_same files name content = ap (λ (b : Bool). cond b content (files name)) (bytes_eq_true name name refl)

pub changed_other : (files : Files) (name : List ℕ) (content : Option (List ℕ)) (other : List ℕ) → other ≢ name → changed files name content other ≡ files other
changed_other files name content other differ = ap (λ (b : Bool). cond b content (files other)) (bytes_eq_false other name differ)

-- two names are the same, or not
pub same_name : (one other : List ℕ) → (one ≡ other) ⊎ (one ≢ other)
same_name one other = by_cases (bytes_eq one other) (bytes_eq-Decides one other)
  where
    differ : false ≡ true → ⊥
    differ wrong = cc

    by_cases : (b : Bool) → (b ≡ true → one ≡ other) × (one ≡ other → b ≡ true) → (one ≡ other) ⊎ (one ≢ other)
    by_cases true told = inl (told.0 refl)
    by_cases false told = inr (λ same. absurd (differ (told.1 same)))
