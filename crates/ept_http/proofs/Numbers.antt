-- Whole numbers and their texts.
use Rattle.std.proofs.Common.{◌≡◌, ◌≢◌, ℕ, suc, ◌^◌, ◌<◌, List, ℤ, pos, negsuc, FitsSigned, w64, sym, ◌∙◌, arith, decimal}
use Rattle.std.specs.Fmt.{signed_decimal}
use Rattle.std.specs.List.{AllByRecursion}
use Rattle.std.proofs.lemmas.Fmt.{decimal_is_IsNumeral, signed_decimal_injective}
use Rattle.std.proofs.lemmas.List.{get_or_default}
use Rattle.std.proofs.lemmas.List.Elements.{recursion_from_All}
use Rattle.std.proofs.lemmas.Str.Parse.{digit_at}

pub digits-lack : (mark n : ℕ) → mark < 45 → n < 2 ^ 64 → AllByRecursion (λ b. b ≢ mark) (decimal n)
digits-lack mark n low small =
    recursion_from_All (λ b. b ≢ mark) (decimal n) (λ k d inside same.
    let digit = digit_at (decimal n) k (decimal_is_IsNumeral n small).0.1 inside in
    omega (arith, digit.0, get_or_default (decimal n) k d 0 inside))

-- a number lacks the bytes below its sign and its digits, such as the comma and the ampersand
pub number-lacks : (mark : ℕ) (n : ℤ) → mark < 45 → FitsSigned w64 n → AllByRecursion (λ b. b ≢ mark) (signed_decimal n)
number-lacks mark (pos n) low fits = digits-lack mark n low (omega (arith, fits.sfits))
number-lacks mark (negsuc n) low fits = ((omega arith), digits-lack mark (suc n) low (omega (arith, fits.sfits)))

-- a text spells one number
pub one-number : (m n : ℤ) (text : List ℕ) → FitsSigned w64 m → FitsSigned w64 n → text ≡ signed_decimal m → text ≡ signed_decimal n → m ≡ n
one-number m n text fits_m fits_n a b = signed_decimal_injective m n fits_m.sfits fits_n.sfits (sym a ∙ b)
