-- Lists of three and of six numbers by their items.
use Rattle.std.proofs.Common.{ℕ, ℤ, pos, ◌≡◌, List, [], ◌∷◌, length, take, drop, Some, refl, arith}
use Rattle.std.specs.Prelude.{slice_index_or}
use Rattle.ept_config_text.specs.Numbers.{coordinate_of, place_of}

abbrev item : List ℤ → ℕ → ℤ
item xs i = slice_index_or xs i (pos 0)

pub three_items : (xs : List ℤ) → length xs ≡ 3 → xs ≡ item xs 0 ∷ item xs 1 ∷ item xs 2 ∷ []
three_items [] e = absurd (omega arith)
three_items (a ∷ []) e = absurd (omega arith)
three_items (a ∷ b ∷ []) e = absurd (omega arith)
three_items (a ∷ b ∷ c ∷ []) e = refl
three_items (a ∷ b ∷ c ∷ d ∷ xs) e = absurd (omega arith)

pub first_three : (xs : List ℤ) → length xs ≡ 6 → take 3 xs ≡ item xs 0 ∷ item xs 1 ∷ item xs 2 ∷ []
first_three [] e = absurd (omega arith)
first_three (a ∷ []) e = absurd (omega arith)
first_three (a ∷ b ∷ []) e = absurd (omega arith)
first_three (a ∷ b ∷ c ∷ xs) e = refl

pub last_three : (xs : List ℤ) → length xs ≡ 6 → drop 3 xs ≡ item xs 3 ∷ item xs 4 ∷ item xs 5 ∷ []
last_three [] e = absurd (omega arith)
last_three (a ∷ []) e = absurd (omega arith)
last_three (a ∷ b ∷ []) e = absurd (omega arith)
last_three (a ∷ b ∷ c ∷ xs) e = three_items xs (omega arith)

-- each coordinate of a place has 32 bits
pub place_of-three : (a b c x y z : ℤ) → Some x ≡ coordinate_of a → Some y ≡ coordinate_of b → Some z ≡ coordinate_of c
    → Some (x ∷ y ∷ z ∷ []) ≡ place_of (a ∷ b ∷ c ∷ [])
unfolding place_of
place_of-three a b c x y z ex ey ez = rw (← ex, ← ey, ← ez)
