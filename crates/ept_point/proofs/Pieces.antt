-- Lists of bytes, cut into pieces.
use Rattle.std.proofs.Common.{subst, Bool, Option, leb, true, false, ◌^◌, ◌%◌, ◌≡◌, ℕ, ◌+◌, ◌<◌, List, [], ◌∷◌, ◌++◌, length, get_or, take, drop, refl, ap, ◌∙◌, arith, take-append-drop, drop-drop, ℤ, FitsSigned}
use Rattle.std.specs.Bool.{then_some}
use Rattle.std.specs.Option.{IfSome, IsNone}
use Rattle.std.specs.Int.{Width, w8, w16, w32, w64, to_le_bytes, from_le_bytes, cast_signed, cast_unsigned}
use Rattle.std.proofs.lemmas.List.{drop_more}
use Rattle.std.proofs.lemmas.Nat.{le_bytes_2, le_bytes_4, le_bytes_8}
use Rattle.std.proofs.lemmas.Int.{to_z-of_z}
use Rattle.std.proofs.lemmas.Bool.Decides.{nat_tests}
use Rattle.ept_point.specs.Packed.{little_endian, number_in}

-- the cells of a number's bytes, one after another, are those bytes
pub cells_1 : (n v : ℕ) {rest tail : List ℕ} → n < 2 ^ 8 → v ≡ n → rest ≡ tail → v ∷ rest ≡ little_endian 1 n ++ tail
unfolding little_endian
cells_1 n v {rest} {tail} h e t =
    let low : n % 256 ≡ n = omega arith in
    rw (e, t, low) refl

pub cells_2 : (n : ℕ) (x : List ℕ) {rest tail : List ℕ} → x ≡ to_le_bytes w16 n → rest ≡ tail → get_or x 0 0 ∷ get_or x 1 0 ∷ rest ≡ little_endian 2 n ++ tail
unfolding little_endian
cells_2 n x {rest} {tail} e t = rw (e, t) refl

pub cells_4 : (n : ℕ) (x : List ℕ) {rest tail : List ℕ} → x ≡ to_le_bytes w32 n → rest ≡ tail → get_or x 0 0 ∷ get_or x 1 0 ∷ get_or x 2 0 ∷ get_or x 3 0 ∷ rest ≡ little_endian 4 n ++ tail
unfolding little_endian
cells_4 n x {rest} {tail} e t = rw (e, t) refl

pub cells_of_8 : (n : ℕ) (x : List ℕ) {rest tail : List ℕ} → x ≡ to_le_bytes w64 n → rest ≡ tail → get_or x 0 0 ∷ get_or x 1 0 ∷ get_or x 2 0 ∷ get_or x 3 0 ∷ get_or x 4 0 ∷ get_or x 5 0 ∷ get_or x 6 0 ∷ get_or x 7 0 ∷ rest ≡ little_endian 8 n ++ tail
unfolding little_endian
cells_of_8 n x {rest} {tail} e t = rw (e, t) refl

-- eight cells are the list of length eight that they are read from
pub cells_8 : (x : List ℕ) {rest tail : List ℕ} → length x ≡ 8 → rest ≡ tail → get_or x 0 0 ∷ get_or x 1 0 ∷ get_or x 2 0 ∷ get_or x 3 0 ∷ get_or x 4 0 ∷ get_or x 5 0 ∷ get_or x 6 0 ∷ get_or x 7 0 ∷ rest ≡ x ++ tail
cells_8 (a ∷ b ∷ c ∷ d ∷ e ∷ f ∷ g ∷ h ∷ []) len t = rw t refl
cells_8 [] len t = absurd (omega arith)
cells_8 (a ∷ []) len t = absurd (omega arith)
cells_8 (a ∷ b ∷ []) len t = absurd (omega arith)
cells_8 (a ∷ b ∷ c ∷ []) len t = absurd (omega arith)
cells_8 (a ∷ b ∷ c ∷ d ∷ []) len t = absurd (omega arith)
cells_8 (a ∷ b ∷ c ∷ d ∷ e ∷ []) len t = absurd (omega arith)
cells_8 (a ∷ b ∷ c ∷ d ∷ e ∷ f ∷ []) len t = absurd (omega arith)
cells_8 (a ∷ b ∷ c ∷ d ∷ e ∷ f ∷ g ∷ []) len t = absurd (omega arith)
cells_8 (a ∷ b ∷ c ∷ d ∷ e ∷ f ∷ g ∷ h ∷ i ∷ s) len t = absurd (omega arith)

-- a piece of a list, and what follows it
pub cut : (b : List ℕ) (at n : ℕ) {piece rest : List ℕ} → piece ≡ take n (drop at b) → rest ≡ drop (at + n) b → piece ++ rest ≡ drop at b
cut b at n {piece} {rest} p r = rw (p, r, ← drop-drop n at b) (take-append-drop n (drop at b))

-- the number in one byte, in two, in four, and in eight
pub word_1 : (b : List ℕ) (at : ℕ) → at < length b → ((i : ℕ) → get_or b i 0 < 2 ^ 8) → little_endian 1 (get_or b at 0) ≡ take 1 (drop at b)
unfolding little_endian
word_1 b at h bytes =
    let low : get_or b at 0 % 256 ≡ get_or b at 0 = omega (arith, bytes at) in
    rw (low, drop_more b at 0 h) refl

-- the number in the piece of one byte
pub number_of_one : (n : ℕ) (piece : List ℕ) → n < 2 ^ 8 → little_endian 1 n ≡ piece → number_in piece ≡ n
unfolding little_endian
number_of_one n piece h e =
    let low : n % 256 ≡ n = omega arith in
    rw (← e, low) (omega arith)

-- a number that is kept if it is at most the greatest value
pub some_is_number : (n greatest : ℕ) (kept : Option ℕ) (number : ℕ) → number ≡ n → kept ≡ then_some (leb n greatest) n → IfSome kept (λ k. number ≡ k)
some_is_number n greatest kept number e is =
    rw is (elim (leb n greatest) as (λ b. IfSome (then_some b n) (λ k. number ≡ k)) [ true ↦ e | false ↦ tt ])

above_test : (n greatest : ℕ) (test : Bool) → leb n greatest ≡ test → IsNone (then_some test n) → greatest < n
above_test n greatest true e none = cc
above_test n greatest false e none = grind (arith, nat_tests)

pub none_is_more : (n greatest : ℕ) (kept : Option ℕ) (number : ℕ) → number ≡ n → kept ≡ then_some (leb n greatest) n → IsNone kept → greatest < number
none_is_more n greatest kept number e is none =
    rw e (above_test n greatest (leb n greatest) refl (subst (λ (o : Option ℕ). IsNone o) is none))

pub word_2 : (x : List ℕ) (n : ℕ) → length x ≡ 2 → ((i : ℕ) → get_or x i 0 < 2 ^ 8) → n ≡ from_le_bytes w16 x → little_endian 2 n ≡ x
unfolding little_endian
word_2 x n len bytes e = le_bytes_2 x n len bytes e

pub word_4 : (x : List ℕ) (n : ℕ) → length x ≡ 4 → ((i : ℕ) → get_or x i 0 < 2 ^ 8) → n ≡ from_le_bytes w32 x → little_endian 4 n ≡ x
unfolding little_endian
word_4 x n len bytes e = le_bytes_4 x n len bytes e

pub word_8 : (x : List ℕ) (n : ℕ) → length x ≡ 8 → ((i : ℕ) → get_or x i 0 < 2 ^ 8) → n ≡ from_le_bytes w64 x → little_endian 8 n ≡ x
unfolding little_endian
word_8 x n len bytes e = le_bytes_8 x n len bytes e

-- a signed number is what is read from its bits
pub signed : (w : Width) (z : ℤ) (x : List ℕ) → FitsSigned w z → x ≡ to_le_bytes w (cast_unsigned w (cast_signed w (cast_unsigned w z))) → x ≡ to_le_bytes w (cast_unsigned w z)
signed w z x fits e = e ∙ ap (λ (y : ℤ). to_le_bytes w (cast_unsigned w y)) (to_z-of_z w z fits)

pub signed_byte : (z : ℤ) (v : ℕ) → FitsSigned w8 z → v ≡ cast_unsigned w8 (cast_signed w8 (cast_unsigned w8 z)) → v ≡ cast_unsigned w8 z
signed_byte z v fits e = e ∙ ap (cast_unsigned w8) (to_z-of_z w8 z fits)

pub signed_piece : (w : Width) (z : ℤ) (k : ℕ) {piece : List ℕ} → FitsSigned w z → little_endian k (cast_unsigned w z) ≡ piece → little_endian k (cast_unsigned w (cast_signed w (cast_unsigned w z))) ≡ piece
signed_piece w z k fits e = ap (λ (y : ℤ). little_endian k (cast_unsigned w y)) (to_z-of_z w z fits) ∙ e

pub signed_bits : (z : ℤ) {n : ℕ} → FitsSigned w8 z → cast_unsigned w8 z ≡ n → cast_unsigned w8 (cast_signed w8 (cast_unsigned w8 z)) ≡ n
signed_bits z fits e = ap (cast_unsigned w8) (to_z-of_z w8 z fits) ∙ e
