-- What a crash leaves of the names that were not touched.
use Rattle.std.proofs.Common.{◌≡◌, ◌≢◌, ℕ, suc, List, [], ◌∷◌, Bool, true, false, cond, refl, sym, ◌∙◌, ap, arith}
use Rattle.std.specs.Prelude.{◌||◌, Contains, bytes_eq}
use Rattle.std.specs.List.{list_any}
use Rattle.std.proofs.lemmas.Slice.Eq.{bytes_eq-Decides}
use Rattle.ept_mem.specs.declared.crash.Crash.{Crash}
use Rattle.ept_mem.specs.Disk.{Disk, left_of, crashed}

bytes_differ : (one other : List ℕ) → one ≢ other → bytes_eq one other ≡ false
bytes_differ one other differ = by_cases (bytes_eq one other) (bytes_eq-Decides one other).0
  where
    by_cases : (b : Bool) → (b ≡ true → one ≡ other) → b ≡ false
    by_cases true told = absurd (differ (told refl))
    by_cases false told = refl

not_among : (names : List (List ℕ)) (name : List ℕ) → ¬ Contains names name → list_any (λ written. bytes_eq name written) names ≡ false
not_among [] name free = refl
not_among (first ∷ names) name free =
    ap (λ (b : Bool). b || list_any (λ written. bytes_eq name written) names) (bytes_differ name first (λ same. free (0, omega arith, sym same)))
    ∙ not_among names name (λ had. free (suc had.0, omega (arith, had.1), had.2))

-- a name that was not touched is as it was at the last sync
pub crash_spares : (how : Crash) (disk : Disk) (name : List ℕ) → ¬ Contains disk.touched name → crashed how disk name ≡ disk.stable name
crash_spares how disk name free = ap (λ (b : Bool). cond b (left_of how disk name) (disk.stable name)) (not_among disk.touched name free)
