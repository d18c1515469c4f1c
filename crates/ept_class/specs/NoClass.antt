-- The set without a member.
use Rattle.std.proofs.Common.{◌≡◌, ℕ, zero, suc, ◌<◌, ◌^◌, List, [], ◌∷◌, get_or, refl, sym, subst, lit<}
use Rattle.std.specs.List.{AllByRecursion}
use Rattle.ept_class.specs.declared.class_set.ClassSet.{ClassSet}
use Rattle.ept_class.specs.Bytes.{AreSetBytes}

-- its 32 bytes
abbrev pub no_bytes : List ℕ
no_bytes = 0 ∷ 0 ∷ 0 ∷ 0 ∷ 0 ∷ 0 ∷ 0 ∷ 0 ∷ 0 ∷ 0 ∷ 0 ∷ 0 ∷ 0 ∷ 0 ∷ 0 ∷ 0 ∷ 0 ∷ 0 ∷ 0 ∷ 0 ∷ 0 ∷ 0 ∷ 0 ∷ 0 ∷ 0 ∷ 0 ∷ 0 ∷ 0 ∷ 0 ∷ 0 ∷ 0 ∷ 0 ∷ []

reads_zero : (bytes : List ℕ) (k : ℕ) → AllByRecursion (λ b. b ≡ 0) bytes → get_or bytes k 0 ≡ 0
reads_zero [] k none = refl
reads_zero (b ∷ bytes) zero none = none.0
reads_zero (b ∷ bytes) (suc k) none = reads_zero bytes k none.1

pub no_bytes_read : (k : ℕ) → get_or no_bytes k 0 ≡ 0
no_bytes_read k = reads_zero no_bytes k (refl, (refl, (refl, (refl, (refl, (refl, (refl, (refl, (refl, (refl, (refl, (refl, (refl, (refl, (refl, (refl, (refl, (refl, (refl, (refl, (refl, (refl, (refl, (refl, (refl, (refl, (refl, (refl, (refl, (refl, (refl, (refl, tt))))))))))))))))))))))))))))))))

pub no_bytes-set_bytes : AreSetBytes no_bytes
no_bytes-set_bytes = record { len = refl; widths = λ k. subst (λ (n : ℕ). n < 2 ^ 8) (sym (no_bytes_read k)) (lit< tt) }

abbrev pub no_class : ClassSet
no_class = record { bytes = no_bytes; set_bytes = no_bytes-set_bytes }
