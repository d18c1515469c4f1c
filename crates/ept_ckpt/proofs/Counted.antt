-- Reading a number of values of one form, one by one.
use Rattle.std.proofs.Common.{◌≡◌, ◌≢◌, ℕ, zero, suc, ◌+◌, ◌-◌, ◌<◌, List, [], ◌∷◌, ◌++◌, Result, Ok, Err, refl, sym, ap, subst, arith, append-nil, append_assoc}
use Rattle.ept_ckpt.specs.declared.field_error.FieldError.{FieldError}
use Rattle.ept_ckpt.specs.declared.field_error.FieldError.TheVariants.{Memory}
use Rattle.ept_ckpt.specs.declared.cursor.Cursor.{Cursor}
use Rattle.ept_ckpt.specs.Fields.{Reading, go_on, times}
use Rattle.ept_ckpt.specs.Reads.{ReadsAs}

-- the values so far, before those that are still to come
abbrev pub after : {A : Type 0} → List A → Result (List A × List ℕ) FieldError → Result (List A × List ℕ) FieldError
after done read = go_on read (λ more left. Ok (done ++ more, left))

module _ {A : Type 0} (form : Reading A) (total : ℕ) where
  after_after : (done : List A) (a : A) (read : Result (List A × List ℕ) FieldError) → after done (go_on read (λ more left. Ok (a ∷ more, left))) ≡ after (done ++ a ∷ []) read
  after_after done a (Ok read) = ap (λ (w : List A). Ok (w, read.1)) (sym (append_assoc done (a ∷ []) read.0))
  after_after done a (Err e) = refl

  after_none : (read : Result (List A × List ℕ) FieldError) → after [] read ≡ read
  after_none (Ok read) = refl
  after_none (Err e) = refl

  -- no value is read yet
  pub none_read : (number : ℕ) (rest : List ℕ) → times number form total rest ≡ after [] (times (number - 0) form total rest)
  none_read number rest = rw (whole) (sym (after_none (times number form total rest)))
    where
      whole : number - 0 ≡ number
      whole = omega arith

  -- one more value is read
  pub one_more : (done : List A) (number at : ℕ) (rest left : List ℕ) (a : A) → at < number → form total rest ≡ Ok (a, left)
      → after done (times (number - at) form total rest) ≡ after (done ++ a ∷ []) (times (number - (at + 1)) form total left)
  one_more done number at rest left a below read = rw (counted, read) (after_after done a (times (number - (at + 1)) form total left))
    where
      counted : number - at ≡ suc (number - (at + 1))
      counted = omega (arith, below)

  -- one value is refused
  pub one_refused : (done : List A) (number at : ℕ) (rest : List ℕ) (e : FieldError) → at < number → form total rest ≡ Err e
      → after done (times (number - at) form total rest) ≡ Err e
  one_refused done number at rest e below refused = rw (counted, refused) refl
    where
      counted : number - at ≡ suc (number - (at + 1))
      counted = omega (arith, below)

  -- all values are read
  pub all_read : (done : List A) (number : ℕ) (rest : List ℕ) → after done (times (number - number) form total rest) ≡ Ok (done, rest)
  all_read done number rest = rw (none) (ap (λ (w : List A). Ok (w, rest)) (append-nil done))
    where
      none : number - number ≡ zero
      none = omega arith

-- a refusal is read if the form has it
pub refused_reads : {A B : Type 0} (form : Reading A) (facts : B → A) (old new : Cursor) (result : Result B FieldError) (e : FieldError) → result ≡ Err e → (e ≢ Memory → form old.total old.rest.now ≡ Err e) → ReadsAs form facts old new result
refused_reads {B = B} form facts old new result e is refused = subst (λ (r : Result B FieldError). ReadsAs form facts old new r) (sym is) refused
