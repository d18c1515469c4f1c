-- The texts of keys: their parts, their length, and that no two keys have the same text.
use Rattle.std.proofs.Common.{◌≡◌, ◌≢◌, ℕ, zero, suc, ◌^◌, ◌<◌, ◌≤◌, List, [], ◌∷◌, ◌++◌, length, get_or, Option, Some, None, Result, Ok, Err, MatchOption, MatchResult, Bor, decimal, refl, sym, ap, subst, ◌∙◌, arith, append_assoc, lit<}
use Rattle.std.specs.Str.{IsAscii, IsUtf8}
use Rattle.std.specs.Result.{result_ok}
use Rattle.std.proofs.lemmas.Fmt.{length-decimal-le, decimal_is_IsNumeral, IsAscii-decimal, decimal_injective}
use Rattle.std.proofs.lemmas.Str.{IsAscii-append}
use Rattle.std.proofs.lemmas.Str.Parse.{digit_at}
use Rattle.std.proofs.lemmas.Str.Pattern.{IsSplitOnceResult, split_after}
use Rattle.std.proofs.Math.Pow.{pow_mono}
use Rattle.ept_space.specs.VoxelKey.{VoxelKey, IsKey}
use Rattle.ept_space.specs.KeyText.{key_text}
use Rattle.ept_space.proofs.Family.{same-parts}

-- ---- the numbers of a key

pub index-small : (n depth : ℕ) → n < 2 ^ depth → depth ≤ 31 → n < 2 ^ 31
index-small n depth small low = let bound : 2 ^ depth ≤ 2 ^ 31 = pow_mono low in omega arith

pub length-depth : (n : ℕ) → n ≤ 31 → length (decimal n) ≤ 2
length-depth n small = length-decimal-le 2 n (lit< tt) (omega arith) (omega arith)

pub length-index : (n depth : ℕ) → n < 2 ^ depth → depth ≤ 31 → length (decimal n) ≤ 10
length-index n depth small low =
    let bound = index-small n depth small low in length-decimal-le 10 n (lit< tt) (omega arith) (omega arith)

-- ---- the parts of a text

-- what follows the first dash, the second and the third
abbrev pub after_depth : VoxelKey → List ℕ
after_depth key = decimal key.x ++ 45 ∷ (decimal key.y ++ 45 ∷ decimal key.z)

abbrev pub after_x : VoxelKey → List ℕ
after_x key = decimal key.y ++ 45 ∷ decimal key.z

pub key_text-parts : (key : VoxelKey) → key_text key ≡ decimal key.depth ++ 45 ∷ after_depth key
unfolding key_text
key_text-parts key = simp append_assoc

-- ---- reading

-- no digit is a dash
pub no_dash : (n : ℕ) → n < 2 ^ 32 → (i : ℕ) → i < length (decimal n) → get_or (decimal n) i 0 ≢ 45
no_dash n small i inside same =
    let digit = digit_at (decimal n) i (decimal_is_IsNumeral n (omega arith)).0.1 inside in omega (arith, digit.0)

-- a text is split after its first number
pub split-number : (n : ℕ) (rest text : List ℕ) (r : Option (Bor (List ℕ) × Bor (List ℕ))) → n < 2 ^ 32 → text ≡ decimal n ++ 45 ∷ rest → IsSplitOnceResult 45 text r → MatchOption r ⊥ (λ x. (x.0.now ≡ decimal n) × (x.1.now ≡ rest))
split-number n rest text r small spelled h =
    split_after 45 text (decimal n) rest r h (lit< tt) spelled (no_dash n small)

-- a key's text is UTF-8
IsAscii-dash : IsAscii (45 ∷ [])
IsAscii-dash zero = lit< tt
IsAscii-dash (suc i) = lit< tt

pub IsAscii-key_text : (key : VoxelKey) → IsKey key → IsAscii (key_text key)
unfolding key_text
IsAscii-key_text key h =
    let small_x = index-small key.x key.depth h.x_in h.shallow in
    let small_y = index-small key.y key.depth h.y_in h.shallow in
    let small_z = index-small key.z key.depth h.z_in h.shallow in
    let x = IsAscii-decimal key.x (omega arith) in
    let y = IsAscii-decimal key.y (omega arith) in
    let z = IsAscii-decimal key.z (omega arith) in
    let dash = IsAscii-dash in
    IsAscii-append _ _ (IsAscii-append _ _ (IsAscii-append _ _ (IsAscii-append _ _ (IsAscii-append _ _ (IsAscii-append _ _ (IsAscii-decimal key.depth (omega arith)) dash) x) dash) y) dash) z

pub unread : {E : Type 0} (text : List ℕ) (r : Result (Bor (List ℕ)) E) (P : Bor (List ℕ) → Type 0) (Q : E → Type 0) → MatchResult r P (λ e. ¬ (IsUtf8 text) × Q e) → result_ok r ≡ None → ¬ (IsUtf8 text)
unread text (Ok s) P Q h none = cc
unread text (Err e) P Q h none = h.0

-- ---- one spelling for a key

-- a list without a dash, followed by a dash, is found again
same-front : (xs ys s t : List ℕ) → ((i : ℕ) → i < length xs → get_or xs i 0 ≢ 45) → ((i : ℕ) → i < length ys → get_or ys i 0 ≢ 45) → xs ++ 45 ∷ s ≡ ys ++ 45 ∷ t → (xs ≡ ys) × (s ≡ t)
same-front [] [] s t no_x no_y same = (refl, cc)
same-front [] (y ∷ ys) s t no_x no_y same = absurd (no_y 0 (omega arith) cc)
same-front (x ∷ xs) [] s t no_x no_y same = absurd (no_x 0 (omega arith) cc)
same-front (x ∷ xs) (y ∷ ys) s t no_x no_y same =
    let rest : (xs ≡ ys) × (s ≡ t) = same-front xs ys s t (λ i h. no_x (suc i) (omega arith)) (λ i h. no_y (suc i) (omega arith)) cc in
    let fronts = rest.0 in
    (cc, rest.1)

same-number : (m n : ℕ) (s t : List ℕ) → m < 2 ^ 32 → n < 2 ^ 32 → decimal m ++ 45 ∷ s ≡ decimal n ++ 45 ∷ t → (m ≡ n) × (s ≡ t)
same-number m n s t small_m small_n same =
    let parts = same-front (decimal m) (decimal n) s t (no_dash m small_m) (no_dash n small_n) same in
    (decimal_injective m n (omega arith) (omega arith) parts.0, parts.1)

pub key_text-injective : (a b : VoxelKey) → IsKey a → IsKey b → key_text a ≡ key_text b → a ≡ b
key_text-injective a b is_a is_b same =
    let ax = index-small a.x a.depth is_a.x_in is_a.shallow in
    let ay = index-small a.y a.depth is_a.y_in is_a.shallow in
    let az = index-small a.z a.depth is_a.z_in is_a.shallow in
    let bx = index-small b.x b.depth is_b.x_in is_b.shallow in
    let by = index-small b.y b.depth is_b.y_in is_b.shallow in
    let bz = index-small b.z b.depth is_b.z_in is_b.shallow in
    let depths = same-number a.depth b.depth (after_depth a) (after_depth b) (omega arith) (omega arith) (sym (key_text-parts a) ∙ same ∙ key_text-parts b) in
    let xs = same-number a.x b.x (after_x a) (after_x b) (omega arith) (omega arith) depths.1 in
    let ys = same-number a.y b.y (decimal a.z) (decimal b.z) (omega arith) (omega arith) xs.1 in
    same-parts a b depths.0 xs.0 ys.0 (decimal_injective a.z b.z (omega arith) (omega arith) ys.1)

-- the key of numbers that are a key's
pub read-key : (key : VoxelKey) (depth x y z : ℕ) (r : Option VoxelKey) → IsKey key → depth ≡ key.depth → x ≡ key.x → y ≡ key.y → z ≡ key.z → (let seen : VoxelKey = record { depth = depth; x = x; y = y; z = z } in IsKey seen → r ≡ Some seen) → r ≡ Some key
read-key key depth x y z r h same_depth same_x same_y same_z read =
    let seen : VoxelKey = record { depth = depth; x = x; y = y; z = z } in
    let same = same-parts seen key same_depth same_x same_y same_z in
    read (subst IsKey (sym same) h) ∙ ap Some same
