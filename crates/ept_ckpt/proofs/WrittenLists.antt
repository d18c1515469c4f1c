-- Values of one form, written one after another, read back.
use Rattle.std.proofs.Common.{◌≡◌, ℕ, List, [], ◌∷◌, ◌++◌, length, Ok, refl, append_assoc}
use Rattle.std.specs.List.{All, flat_map}
use Rattle.std.proofs.lemmas.List.Elements.{All-head, All-tail}
use Rattle.ept_ckpt.specs.Fields.{Reading, times}
use Rattle.ept_ckpt.proofs.WrittenNumbers.{read_then}

-- bytes one after another, before the rest
pub three_then : (a b c rest : List ℕ) → ((a ++ b) ++ c) ++ rest ≡ a ++ (b ++ (c ++ rest))
three_then a b c rest = simp append_assoc

pub four_then : (a b c d rest : List ℕ) → (((a ++ b) ++ c) ++ d) ++ rest ≡ a ++ (b ++ (c ++ (d ++ rest)))
four_then a b c d rest = simp append_assoc

pub eight_then : (a b c d e f g h rest : List ℕ) → (((((((a ++ b) ++ c) ++ d) ++ e) ++ f) ++ g) ++ h) ++ rest ≡ a ++ (b ++ (c ++ (d ++ (e ++ (f ++ (g ++ (h ++ rest)))))))
eight_then a b c d e f g h rest = simp append_assoc

pub nine_then : (a b c d e f g h i rest : List ℕ) → ((((((((a ++ b) ++ c) ++ d) ++ e) ++ f) ++ g) ++ h) ++ i) ++ rest ≡ a ++ (b ++ (c ++ (d ++ (e ++ (f ++ (g ++ (h ++ (i ++ rest))))))))
nine_then a b c d e f g h i rest = simp append_assoc

-- the bytes of this value, with any bytes after them, are read as this value
abbrev pub ReadsBack : {A : Type 0} → Reading A → (A → List ℕ) → ℕ → A → Type 0
ReadsBack form written total a = (rest : List ℕ) → form total (written a ++ rest) ≡ Ok (a, rest)

pub times_written : {A : Type 0} (form : Reading A) (written : A → List ℕ) (total : ℕ) (xs : List A) (rest : List ℕ) → All (ReadsBack form written total) xs → times (length xs) form total (flat_map written xs ++ rest) ≡ Ok (xs, rest)
times_written form written total [] rest each = refl
times_written form written total (x ∷ xs) rest each =
    rw (append_assoc (written x) (flat_map written xs) rest)
    (read_then _ (All-head (ReadsBack form written total) x xs each (flat_map written xs ++ rest))
    (read_then _ (times_written form written total xs rest (All-tail (ReadsBack form written total) x xs each)) refl))
