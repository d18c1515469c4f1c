-- How fields are read, one after another.
use Rattle.std.specs.Prelude.{ℕ, zero, suc, ℤ, ◌-◌, Bool, true, false, ◌&&◌, nat_le, ⊤, List, [], ◌∷◌, length, take, drop, Option, Some, None, Result, Ok, Err, if◌then◌else◌}
use Rattle.std.specs.Int.{Width, cast_signed}
use Rattle.byteorder.specs.Endian.{little_number}
use Rattle.ept_ckpt.specs.declared.field_error.FieldError.{FieldError}
use Rattle.ept_ckpt.specs.declared.field_error.FieldError.TheVariants.{Length, Field}

-- What is read from the bytes that are left, given the number of all bytes. The result is a value and the bytes after
-- it, or the refusal.
abbrev pub Reading : Type 0 → Type 0
Reading A = ℕ → List ℕ → Result (A × List ℕ) FieldError

abbrev pub go_on : {A B : Type 0} → Result (A × List ℕ) FieldError → (A → List ℕ → Result (B × List ℕ) FieldError) → Result (B × List ℕ) FieldError
go_on (Ok read) next = next read.0 read.1
go_on (Err e) next = Err e

-- the next field, if this one was read
infixl 10 ◌>>=◌
abbrev pub ◌>>=◌ : {A B : Type 0} → Reading A → (A → Reading B) → Reading B
(first >>= next) total rest = go_on (first total rest) (λ a left. next a total left)

-- the value of what was read
abbrev pub give : {A : Type 0} → A → Reading A
give a total rest = Ok (a, rest)

-- nothing, if the test passes
abbrev pub unless : FieldError → Bool → Reading ⊤
unless e test total rest = if test then Ok (tt, rest) else Err e

-- the value, if there is one
abbrev pub known : {A : Type 0} → FieldError → Option A → Reading A
known e None total rest = Err e
known e (Some a) total rest = Ok (a, rest)

-- `width` bytes
unfoldable pub bytes : ℕ → Reading (List ℕ)
bytes width total rest = if nat_le width (length rest) then Ok (take width rest, drop width rest) else Err Length

-- a number of `width` bytes
unfoldable pub number : ℕ → Reading ℕ
number width total rest = if nat_le width (length rest) then Ok (little_number width rest, drop width rest) else Err Length

-- a signed number
unfoldable pub signed : Width → ℕ → Reading ℤ
signed w width = do
  n ← number width
  give (cast_signed w n)

-- a field whose value passes the test
abbrev pub field : {A : Type 0} → (A → Bool) → Reading A → Reading A
field test form total rest = go_on (form total rest) (λ a left. if test a then Ok (a, left) else Err (Field (total - length rest)))

-- a number from `least` to `most`
abbrev pub within : ℕ → ℕ → Reading ℕ → Reading ℕ
within least most form = field (λ n. nat_le least n && nat_le n most) form

-- three values of the same form
unfoldable pub three : {A : Type 0} → Reading A → Reading (List A)
three form = do
  x ← form
  y ← form
  z ← form
  give (x ∷ y ∷ z ∷ [])

-- the value if it is there, or nothing
abbrev pub optional : {A : Type 0} → Bool → Reading A → Reading (Option A)
optional false form = give None
optional true form = do
  a ← form
  give (Some a)

-- n values of the same form
abbrev pub times : {A : Type 0} → ℕ → Reading A → Reading (List A)
times zero form = give []
times (suc n) form = do
  first ← form
  more ← times n form
  give (first ∷ more)
