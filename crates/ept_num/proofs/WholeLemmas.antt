-- The one spelling of a signed number, and what `parse` reads from it.
use Rattle.std.proofs.Common.{◌≡◌, ◌∙◌, ℕ, List, Result, Ok, sym, ap, subst, ℤ, FitsSigned, w64}
use Rattle.std.proofs.lemmas.Fmt.{IsAscii-signed, parse-signed_decimal}
use Rattle.std.proofs.lemmas.Int.{to_z-of_z}
use Rattle.std.proofs.lemmas.Str.{IsUtf8-from_ascii}
use Rattle.std.specs.Fmt.{signed_decimal}
use Rattle.std.specs.Str.{IsUtf8}
use Rattle.std.specs.Str.Parse.{ParsesSigned}
use mir.Val.{to_z, of_z}

-- it is text
pub utf8_of_spelling : (n : ℤ) (bs : List ℕ) → FitsSigned w64 n → bs ≡ signed_decimal n → IsUtf8 bs
utf8_of_spelling n bs fits e = subst IsUtf8 (sym e) (IsUtf8-from_ascii _ (IsAscii-signed n fits.sfits))

-- `parse` returns the number
pub read_of_spelling : {E : Type 0} (n : ℤ) (bs : List ℕ) (r : Result ℤ E) → FitsSigned w64 n → bs ≡ signed_decimal n → ParsesSigned w64 10 bs r → r ≡ Ok n
read_of_spelling n bs r fits e h = parse-signed_decimal w64 n bs r fits fits.sfits e h

-- which is printed as it was spelled
pub printed_spelling : {E : Type 0} (n m : ℤ) (bs text : List ℕ) (r : Result ℤ E) → FitsSigned w64 n → bs ≡ signed_decimal n → r ≡ Ok n → r ≡ Ok m → text ≡ signed_decimal (to_z w64 (of_z w64 m)) → text ≡ bs
printed_spelling n m bs text r fits e was now printed =
    let same : m ≡ n = cc in
    let back : to_z w64 (of_z w64 n) ≡ n = to_z-of_z w64 n fits in
    printed ∙ (ap (λ (x : ℤ). signed_decimal (to_z w64 (of_z w64 x))) same ∙ (ap signed_decimal back ∙ sym e))
