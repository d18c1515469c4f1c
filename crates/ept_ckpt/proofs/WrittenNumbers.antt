-- Numbers that are written read back.
use Rattle.std.proofs.Common.{◌≡◌, ℕ, suc, ◌+◌, ◌^◌, ◌<◌, ◌≤◌, ℤ, Bool, true, List, ◌∷◌, ◌++◌, length, Ok, refl, arith, length-append, FitsSigned, Result}
use Rattle.std.specs.Int.{Width, w32, w64, cast_unsigned}
use Rattle.std.proofs.lemmas.Bool.{le-leb}
use Rattle.std.proofs.lemmas.Int.{ints, to_z-of_z}
use Rattle.std.proofs.lemmas.List.{take_at, drop_at}
use Rattle.byteorder.specs.Endian.{little_bytes}
use Rattle.byteorder.specs.Numbers.{length-bytes_low_first, little_number-reads_back}
use Rattle.ept_ckpt.specs.declared.field_error.FieldError.{FieldError}
use Rattle.ept_ckpt.specs.Fields.{Reading, go_on, bytes, number, signed, field, within}

-- what is read continues with the next field
pub read_then : {A B : Type 0} {first : Result (A × List ℕ) FieldError} {a : A} {left : List ℕ} {last : Result (B × List ℕ) FieldError} (next : A → List ℕ → Result (B × List ℕ) FieldError) → first ≡ Ok (a, left) → next a left ≡ last → go_on first next ≡ last
read_then next read more = rw read more

-- a value that passes the test
pub field_read : {A : Type 0} (test : A → Bool) (form : Reading A) (total : ℕ) (rest left : List ℕ) (a : A) → form total rest ≡ Ok (a, left) → test a ≡ true → field test form total rest ≡ Ok (a, left)
field_read test form total rest left a read passes = rw (read, passes) refl

-- a number of the range
pub within_read : (least most : ℕ) (form : Reading ℕ) (total : ℕ) (rest left : List ℕ) (n : ℕ) → form total rest ≡ Ok (n, left) → least ≤ n → n ≤ most → within least most form total rest ≡ Ok (n, left)
within_read least most form total rest left n read low high = rw (read, le-leb least n low, le-leb n most high) refl

pub bytes_written : (total width : ℕ) (written rest : List ℕ) → length written ≡ width → bytes width total (written ++ rest) ≡ Ok (written, rest)
unfolding bytes
bytes_written total width written rest same = rw (le-leb width (length (written ++ rest)) (omega (arith, length-append written rest, same)), take_at written rest width same, drop_at written rest width same) refl

pub number_written : (total width n : ℕ) (rest : List ℕ) → n < 256 ^ width → number width total (little_bytes width n ++ rest) ≡ Ok (n, rest)
unfolding number
number_written total width n rest small = rw (le-leb width (length (little_bytes width n ++ rest)) (omega (arith, length-append (little_bytes width n) rest, length-bytes_low_first 0 width n)), little_number-reads_back width n rest small, drop_at (little_bytes width n) rest width (length-bytes_low_first 0 width n)) refl

-- a byte is a number of one byte
pub byte_written : (total n : ℕ) (rest : List ℕ) → number 1 total (n ∷ rest) ≡ Ok (n, rest)
unfolding number
byte_written total n rest = rw (le-leb 1 (suc (length rest)) (omega arith), same) refl
  where
    same : n + 0 ≡ n
    same = omega arith

-- a byte of the range
pub byte_within : (total least most n : ℕ) (rest : List ℕ) → least ≤ n → n ≤ most → within least most (number 1) total (n ∷ rest) ≡ Ok (n, rest)
byte_within total least most n rest low high = within_read least most (number 1) total (n ∷ rest) rest n (byte_written total n rest) low high

pub signed_written : (total width : ℕ) (w : Width) (z : ℤ) (rest : List ℕ) → FitsSigned w z → cast_unsigned w z < 256 ^ width → signed w width total (little_bytes width (cast_unsigned w z) ++ rest) ≡ Ok (z, rest)
unfolding signed
signed_written total width w z rest fits small = rw (number_written total width (cast_unsigned w z) rest small, to_z-of_z w z fits) refl

bits_32 : (z : ℤ) → FitsSigned w32 z → cast_unsigned w32 z < 256 ^ 4
bits_32 z fits = omega (arith, ints)

bits_64 : (z : ℤ) → FitsSigned w64 z → cast_unsigned w64 z < 256 ^ 8
bits_64 z fits = omega (arith, ints)

pub i32_written : (total : ℕ) (z : ℤ) (rest : List ℕ) → FitsSigned w32 z → signed w32 4 total (little_bytes 4 (cast_unsigned w32 z) ++ rest) ≡ Ok (z, rest)
i32_written total z rest fits = signed_written total 4 w32 z rest fits (bits_32 z fits)

pub i64_written : (total : ℕ) (z : ℤ) (rest : List ℕ) → FitsSigned w64 z → signed w64 8 total (little_bytes 8 (cast_unsigned w64 z) ++ rest) ≡ Ok (z, rest)
i64_written total z rest fits = signed_written total 8 w64 z rest fits (bits_64 z fits)
