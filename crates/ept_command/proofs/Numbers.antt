-- Whole numbers and their texts.
use Rattle.std.proofs.Common.{◌≡◌, ℕ, ◌≤◌, ◌<◌, ◌^◌, List, ℤ, pos, FitsSigned, w64, sym, ◌∙◌, arith, Option, Some, None, IfNone}
use Rattle.std.specs.Fmt.{signed_decimal}
use Rattle.std.proofs.lemmas.Fmt.{signed_decimal_injective}

-- a text spells one number
pub one_number : (m n : ℤ) (text : List ℕ) → FitsSigned w64 m → FitsSigned w64 n → text ≡ signed_decimal m → text ≡ signed_decimal n → m ≡ n
one_number m n text fits_m fits_n a b = signed_decimal_injective m n fits_m.sfits fits_n.sfits (sym a ∙ b)

pub small : (n most : ℕ) → n ≤ most → most < 2 ^ 32 → FitsSigned w64 (pos n)
small n most few fits = record { sfits = omega (arith, few, fits) }

-- what is known if nothing is found, in another form
pub if_none : {T : Type 0} (r : Option T) (P Q : Type 0) → IfNone r P → (P → Q) → IfNone r Q
if_none None P Q h f = f h
if_none (Some x) P Q h f = tt
