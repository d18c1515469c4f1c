-- Distinct numbers below `n` are at most `n` in number.
use Rattle.std.proofs.Common.{◌≡◌, ◌≢◌, ℕ, zero, suc, ◌<◌, ◌≤◌, List, [], ◌∷◌, length, get_or, filter, ltb, Bool, true, false, refl, ap, ◌∙◌, arith}
use Rattle.std.specs.Prelude.{⊤}
use Rattle.std.specs.List.{AllByRecursion}
use Rattle.std.proofs.lemmas.Bool.Decides.{Decides-ltb, not_from_Decides}
use Rattle.std.proofs.lemmas.List.{get_or_default}
use Rattle.std.proofs.lemmas.List.Elements.{recursion_from_All}

abbrev Distinct : List ℕ → Type 0
Distinct [] = ⊤
Distinct (x ∷ xs) = AllByRecursion (λ y. x ≢ y) xs × Distinct xs

distinct : (xs : List ℕ) → ((i k : ℕ) → i < k → k < length xs → get_or xs i 0 ≢ get_or xs k 0) → Distinct xs
distinct [] differ = tt
distinct (x ∷ xs) differ = (
  recursion_from_All (λ y. x ≢ y) xs (λ k d inside e. differ 0 (suc k) (omega arith) (omega arith) (e ∙ get_or_default xs k d 0 inside)),
  distinct xs (λ i k less inside. differ (suc i) (suc k) (omega arith) (omega arith)),
)

abbrev below : ℕ → List ℕ → List ℕ
below n xs = filter (λ x. ltb x n) xs

-- what holds of all numbers holds of those below `n`
kept : (P : ℕ → Type 0) (n : ℕ) (xs : List ℕ) → AllByRecursion P xs → AllByRecursion P (below n xs)
kept P n [] all = tt
kept P n (x ∷ xs) all = by (ltb x n) refl (kept P n xs all.1)
  where
    by : (test : Bool) → ltb x n ≡ test → AllByRecursion P (below n xs) → AllByRecursion P (below n (x ∷ xs))
    by true e later = rw e (all.0, later)
    by false e later = rw e later

still-distinct : (n : ℕ) (xs : List ℕ) → Distinct xs → Distinct (below n xs)
still-distinct n [] d = tt
still-distinct n (x ∷ xs) d = by (ltb x n) refl (still-distinct n xs d.1)
  where
    by : (test : Bool) → ltb x n ≡ test → Distinct (below n xs) → Distinct (below n (x ∷ xs))
    by true e later = rw e (kept (λ y. x ≢ y) n xs d.0, later)
    by false e later = rw e later

all-below : (n : ℕ) (xs : List ℕ) → AllByRecursion (λ x. x < n) (below n xs)
all-below n [] = tt
all-below n (x ∷ xs) = by (ltb x n) refl (all-below n xs)
  where
    by : (test : Bool) → ltb x n ≡ test → AllByRecursion (λ y. y < n) (below n xs) → AllByRecursion (λ y. y < n) (below n (x ∷ xs))
    by true e later = rw e ((Decides-ltb x n).0 e, later)
    by false e later = rw e later

-- if no number is `n`, all are kept
none-greatest : (n : ℕ) (xs : List ℕ) → AllByRecursion (λ x. x < suc n) xs → AllByRecursion (λ x. n ≢ x) xs → length (below n xs) ≡ length xs
none-greatest n [] all other = refl
none-greatest n (x ∷ xs) all other =
    let less : x < n = omega (arith, all.0, other.0) in
    let test : ltb x n ≡ true = (Decides-ltb x n).1 less in
    rw test (ap suc (none-greatest n xs all.1 other.1))

one-less : (n : ℕ) (xs : List ℕ) → AllByRecursion (λ x. x < suc n) xs → Distinct xs → length xs ≤ suc (length (below n xs))
one-less n [] all d = omega arith
one-less n (x ∷ xs) all d = by (ltb x n) refl (one-less n xs all.1 d.1)
  where
    by : (test : Bool) → ltb x n ≡ test → length xs ≤ suc (length (below n xs)) → length (x ∷ xs) ≤ suc (length (below n (x ∷ xs)))
    by true e later = rw e (omega arith)
    by false e later =
        let greatest : x ≡ n = omega (arith, all.0, not_from_Decides (ltb x n) (Decides-ltb x n) e) in
        rw e (omega (arith, none-greatest n xs all.1 (rw greatest at d.0)))

few : (n : ℕ) (xs : List ℕ) → AllByRecursion (λ x. x < n) xs → Distinct xs → length xs ≤ n
few zero [] all d = omega arith
few zero (x ∷ xs) all d = absurd (omega (arith, all.0))
few (suc n) xs all d =
    omega (arith, one-less n xs all d, few n (below n xs) (all-below n xs) (still-distinct n xs d))

pub few-distinct : (n : ℕ) (xs : List ℕ) → ((i : ℕ) → i < length xs → get_or xs i 0 < n) → ((i k : ℕ) → i < k → k < length xs → get_or xs i 0 ≢ get_or xs k 0) → length xs ≤ n
few-distinct n xs inside differ =
    few n xs (recursion_from_All (λ x. x < n) xs (λ k d here. omega (arith, inside k here, get_or_default xs k d 0 here))) (distinct xs differ)
