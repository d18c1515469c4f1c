-- Bytes that are cut after their first ones: what is read from the first ones, and what is left.
use Rattle.std.proofs.Common.{◌≡◌, ◌∙◌, ◌/◌, ◌%◌, ℕ, zero, suc, ◌+◌, ◌*◌, ◌<◌, ◌≤◌, ◌^◌, Bool, true, false, List, [], ◌∷◌, ◌++◌, length, take, drop, slice_index, Result, Ok, Err, refl, sym, ap, subst, arith, append_assoc, take-append-drop, length-take}
use Rattle.std.specs.Prelude.{ℤ, ◌&&◌, nat_le, if◌then◌else◌}
use Rattle.std.proofs.Math.Nat.{div-div-eq-div-mul, pow-succ'}
use Rattle.std.specs.Int.{Width, w32, w64, cast_signed, cast_unsigned, byte_at, bytes_low_first}
use Rattle.std.proofs.lemmas.Int.{of_z-to_z}
use Rattle.std.proofs.lemmas.Bool.{leb-true}
use Rattle.byteorder.specs.Endian.{little_number, little_bytes}
use Rattle.byteorder.specs.Numbers.{little_from-cons, little_from-lt}
use Rattle.ept_ckpt.specs.declared.field_error.FieldError.{FieldError}
use Rattle.ept_ckpt.specs.Fields.{Reading, go_on, bytes, number, signed, field, within}

-- each place has a byte
abbrev pub HasBytes : List ℕ → Type 0
HasBytes all = (i : ℕ) → slice_index all i < 2 ^ 8

-- all bytes are the first ones, and then those that are left
pub record Cut (all front left : List ℕ) : Type 0 where
  pub is : all ≡ front ++ left
  pub fit : HasBytes left

-- the low byte of a number, and the bytes above it
low_byte : (b m : ℕ) → b < 2 ^ 8 → byte_at 0 (b + 256 * m) ≡ b
low_byte b m fits = omega arith

high_byte : (i b m : ℕ) → b < 2 ^ 8 → byte_at (suc i) (b + 256 * m) ≡ byte_at i m
high_byte zero b m fits = omega arith
high_byte (suc i) b m fits =
    let above : (b + 256 * m) / 256 ≡ m = omega arith in
    ap (λ (p : ℕ). (b + 256 * m) / p % 256) (pow-succ' 256 (suc i))
    ∙ ap (λ (n : ℕ). n % 256) (sym (div-div-eq-div-mul (b + 256 * m) 256 (256 ^ suc i)))
    ∙ ap (λ (n : ℕ). n / 256 ^ suc i % 256) above

high_bytes : (i n b m : ℕ) → b < 2 ^ 8 → bytes_low_first (suc i) n (b + 256 * m) ≡ bytes_low_first i n m
high_bytes i zero b m fits = refl
high_bytes i (suc n) b m fits = rw (high_byte i b m fits, high_bytes (suc i) n b m fits) refl

-- the number in some bytes has these bytes
pub number_bytes : (n : ℕ) (all : List ℕ) → HasBytes all → n ≤ length all → little_bytes n (little_number n all) ≡ take n all
number_bytes zero all fit whole = refl
number_bytes (suc n) [] fit whole = absurd (omega arith)
number_bytes (suc n) (b ∷ all) fit whole =
    rw (little_from-cons 0 n b all, low_byte b (little_number n all) (fit 0), high_bytes 0 n b (little_number n all) (fit 0))
    (ap (λ (w : List ℕ). b ∷ w) (number_bytes n all (λ i. fit (suc i)) (omega arith)))

-- if both of two fields are read, the first is read, and then the next
pub steps : {A B Q : Type 0} (read : Result (A × List ℕ) FieldError) (next : A → List ℕ → Result (B × List ℕ) FieldError) {b : B} {left : List ℕ} → go_on read next ≡ Ok (b, left) → ((a : A) (mid : List ℕ) → read ≡ Ok (a, mid) → next a mid ≡ Ok (b, left) → Q) → Q
steps (Ok read) next whole more = more read.0 read.1 refl whole
steps (Err e) next whole more = absurd (cc)

-- what is read if a test passes
pub tested : {A : Type 0} (test : Bool) (result : Result A FieldError) (e : FieldError) {a : A} → (if test then result else Err e) ≡ Ok a → (test ≡ true) × (result ≡ Ok a)
tested true result e is = (refl, is)
tested false result e is = absurd (cc)

-- what is left of bytes is bytes too
pub right_bytes : (front left : List ℕ) → HasBytes (front ++ left) → HasBytes left
right_bytes [] left fit = fit
right_bytes (b ∷ front) left fit = right_bytes front left (λ i. fit (suc i))

-- all that is read by a form is the bytes of its value, before those that are left
pub record CutsOff (A : Type 0) (form : Reading A) (f : A → List ℕ) : Type 0 where
  pub cut : (total : ℕ) (rest left : List ℕ) (a : A) → HasBytes rest → form total rest ≡ Ok (a, left) → rest ≡ f a ++ left

-- no byte is read yet
pub uncut : (all : List ℕ) → HasBytes all → Cut all [] all
uncut all fit = record { is = refl; fit = fit }

-- one more field is read
pub cut_by : {A : Type 0} {form : Reading A} {f : A → List ℕ} (total : ℕ) {all front rest mid : List ℕ} {a : A} → CutsOff A form f → Cut all front rest → form total rest ≡ Ok (a, mid) → Cut all (front ++ f a) mid
cut_by {f} total {all} {front} {rest} {mid} {a} cuts so_far read =
    let next : rest ≡ f a ++ mid = cuts.cut total rest mid a so_far.fit read in
    record {
      is = so_far.is ∙ ap (λ (w : List ℕ). front ++ w) next ∙ sym (append_assoc front (f a) mid);
      fit = right_bytes (f a) mid (subst HasBytes next so_far.fit);
    }

-- what was read has one value, and one rest
pub same_read : {A : Type 0} {a b : A} {mid left : List ℕ} → (let r : Result (A × List ℕ) FieldError = Ok (a, mid) in r) ≡ Ok (b, left) → (a ≡ b) × (mid ≡ left)
same_read {A} {a} {b} {mid} {left} is =
    let pair : (let p : A × List ℕ = (a, mid) in p) ≡ (b, left) = cc in
    (ap (λ (p : A × List ℕ). p.0) pair, ap (λ (p : A × List ℕ). p.1) pair)

-- the `width` bytes are cut off
pub bytes_read : (width total : ℕ) (rest left x : List ℕ) → bytes width total rest ≡ Ok (x, left) → rest ≡ x ++ left
unfolding bytes
bytes_read width total rest left x read =
    let t = tested (nat_le width (length rest)) _ _ read in
    let piece : take width rest ≡ x = (same_read t.1).0 in
    let behind : drop width rest ≡ left = (same_read t.1).1 in
    sym (take-append-drop width rest) ∙ ap (λ (w : List ℕ). w ++ drop width rest) piece ∙ ap (λ (w : List ℕ). x ++ w) behind

-- a number is cut off
pub number_read : (width total : ℕ) (rest left : List ℕ) (n : ℕ) → HasBytes rest → number width total rest ≡ Ok (n, left) → rest ≡ little_bytes width n ++ left
unfolding number
number_read width total rest left n fit read =
    let t = tested (nat_le width (length rest)) _ _ read in
    let whole : width ≤ length rest = leb-true width (length rest) t.0 in
    let value : little_number width rest ≡ n = (same_read t.1).0 in
    let behind : drop width rest ≡ left = (same_read t.1).1 in
    sym (take-append-drop width rest) ∙ ap (λ (w : List ℕ). w ++ drop width rest) (sym (number_bytes width rest fit whole))
    ∙ ap (λ (m : ℕ). little_bytes width m ++ drop width rest) value ∙ ap (λ (w : List ℕ). little_bytes width n ++ w) behind

-- and it is below the number of values that its bytes have
pub number_below : (width total : ℕ) (rest left : List ℕ) (n : ℕ) → HasBytes rest → number width total rest ≡ Ok (n, left) → n < 256 ^ width
unfolding number
number_below width total rest left n fit read =
    let t = tested (nat_le width (length rest)) _ _ read in
    let value : little_number width rest ≡ n = (same_read t.1).0 in
    subst (λ (m : ℕ). m < 256 ^ width) value (little_from-lt 0 width rest fit)

-- a number of one byte is this byte
pub byte_read : (total : ℕ) (rest left : List ℕ) (n : ℕ) → HasBytes rest → number 1 total rest ≡ Ok (n, left) → rest ≡ n ∷ left
byte_read total rest left n fit read =
    let below : n < 256 = number_below 1 total rest left n fit read in
    let low : n % 256 ≡ n = omega arith in
    number_read 1 total rest left n fit read ∙ ap (λ (b : ℕ). b ∷ left) low

-- `width` bytes are read
pub bytes_length : (width total : ℕ) (rest left x : List ℕ) → bytes width total rest ≡ Ok (x, left) → length x ≡ width
unfolding bytes
bytes_length width total rest left x read =
    let t = tested (nat_le width (length rest)) _ _ read in
    let whole : width ≤ length rest = leb-true width (length rest) t.0 in
    let piece : length (take width rest) ≡ length x = ap length (same_read t.1).0 in
    omega (arith, whole, piece, length-take width rest)

-- a signed number is cut off
signed_of : (w : Width) (width total : ℕ) (rest left : List ℕ) (z : ℤ) → ((n : ℕ) → n < 256 ^ width → cast_unsigned w (cast_signed w n) ≡ n) → HasBytes rest → signed w width total rest ≡ Ok (z, left) → rest ≡ little_bytes width (cast_unsigned w z) ++ left
unfolding signed
signed_of w width total rest left z same fit read = steps _ _ read (λ n mid first last.
    let value : cast_signed w n ≡ z = (same_read last).0 in
    let behind : mid ≡ left = (same_read last).1 in
    let below : n < 256 ^ width = number_below width total rest mid n fit first in
    number_read width total rest mid n fit first
    ∙ ap (λ (m : ℕ). little_bytes width m ++ mid) (sym (same n below) ∙ ap (cast_unsigned w) value)
    ∙ ap (λ (v : List ℕ). little_bytes width (cast_unsigned w z) ++ v) behind)

pub i32_read : (total : ℕ) (rest left : List ℕ) (z : ℤ) → HasBytes rest → signed w32 4 total rest ≡ Ok (z, left) → rest ≡ little_bytes 4 (cast_unsigned w32 z) ++ left
i32_read total rest left z fit read = signed_of w32 4 total rest left z (λ n below. of_z-to_z w32 n (omega arith)) fit read

pub i64_read : (total : ℕ) (rest left : List ℕ) (z : ℤ) → HasBytes rest → signed w64 8 total rest ≡ Ok (z, left) → rest ≡ little_bytes 8 (cast_unsigned w64 z) ++ left
i64_read total rest left z fit read = signed_of w64 8 total rest left z (λ n below. of_z-to_z w64 n (omega arith)) fit read

-- a field is read by its form, and passes its test
pub field_read : {A : Type 0} (test : A → Bool) (form : Reading A) (total : ℕ) (rest left : List ℕ) (a : A) → field test form total rest ≡ Ok (a, left) → (form total rest ≡ Ok (a, left)) × (test a ≡ true)
field_read {A} test form total rest left a read = steps _ _ read (λ value mid first last.
    let t = tested (test value) _ _ last in
    let same : value ≡ a = (same_read t.1).0 in
    (first ∙ t.1, ap test (sym same) ∙ t.0))

-- a number that is read within a range is at most its end
pub most_of : (least most : ℕ) (form : Reading ℕ) (total : ℕ) (rest left : List ℕ) (n : ℕ) → within least most form total rest ≡ Ok (n, left) → n ≤ most
most_of least most form total rest left n read =
    let passed : (nat_le least n && nat_le n most) ≡ true = (field_read (λ m. nat_le least m && nat_le m most) form total rest left n read).1 in
    grind (arith, passed)

-- the last field is read, and these are the fields of the value
pub all_cut : {A : Type 0} (f : A → List ℕ) {all front mid left : List ℕ} {a b : A} → Cut all front mid → front ≡ f a → (let r : Result (A × List ℕ) FieldError = Ok (a, mid) in r) ≡ Ok (b, left) → all ≡ f b ++ left
all_cut {A} f {all} {front} {mid} {left} {a} {b} so_far fields_are last =
    so_far.is ∙ ap (λ (w : List ℕ). front ++ w) (same_read last).1 ∙ ap (λ (w : List ℕ). w ++ left) (fields_are ∙ ap f (same_read last).0)

-- a field whose value is tested
pub field_cut : {A : Type 0} {form : Reading A} {f : A → List ℕ} (test : A → Bool) → CutsOff A form f → CutsOff A (field test form) f
field_cut {form = form} test cuts = record { cut = λ total rest left a fit read. cuts.cut total rest left a fit (field_read test form total rest left a read).0 }

pub number_cut : (width : ℕ) → CutsOff ℕ (number width) (little_bytes width)
number_cut width = record { cut = λ total rest left n fit read. number_read width total rest left n fit read }

pub byte_cut : CutsOff ℕ (number 1) (λ n. n ∷ [])
byte_cut = record { cut = λ total rest left n fit read. byte_read total rest left n fit read }

pub bytes_cut : (width : ℕ) → CutsOff (List ℕ) (bytes width) (λ x. x)
bytes_cut width = record { cut = λ total rest left x fit read. bytes_read width total rest left x read }

pub i32_cut : CutsOff ℤ (signed w32 4) (λ z. little_bytes 4 (cast_unsigned w32 z))
i32_cut = record { cut = λ total rest left z fit read. i32_read total rest left z fit read }

pub i64_cut : CutsOff ℤ (signed w64 8) (λ z. little_bytes 8 (cast_unsigned w64 z))
i64_cut = record { cut = λ total rest left z fit read. i64_read total rest left z fit read }
