-- Whole numbers and their texts.
use Rattle.std.proofs.Common.{◌≡◌, ℕ, ◌^◌, ◌<◌, List, ℤ, pos, FitsSigned, w64, sym, ◌∙◌, arith, Option, Some, None, IfNone}
use Rattle.std.specs.Fmt.{signed_decimal}
use Rattle.std.proofs.lemmas.Fmt.{signed_decimal_injective}

-- a text spells one number
pub one-number : (m n : ℤ) (text : List ℕ) → FitsSigned w64 m → FitsSigned w64 n → text ≡ signed_decimal m → text ≡ signed_decimal n → m ≡ n
one-number m n text fits_m fits_n a b = signed_decimal_injective m n fits_m.sfits fits_n.sfits (sym a ∙ b)

pub small-count : (n : ℕ) → n < 2 ^ 32 → FitsSigned w64 (pos n)
small-count n small = record { sfits = omega arith }

-- what is known if there is no result, stated in another way
pub if-none : {T : Type 0} (r : Option T) (P Q : Type 0) → IfNone r P → (P → Q) → IfNone r Q
if-none None P Q h f = f h
if-none (Some x) P Q h f = tt
