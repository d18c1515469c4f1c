-- What a cursor has read.
use Rattle.std.specs.Prelude.{◌≡◌, ◌≢◌, Result, Ok, Err}
use Rattle.ept_ckpt.specs.declared.field_error.FieldError.{FieldError}
use Rattle.ept_ckpt.specs.declared.field_error.FieldError.TheVariants.{Memory}
use Rattle.ept_ckpt.specs.declared.cursor.Cursor.{Cursor}
use Rattle.ept_ckpt.specs.Fields.{Reading}

-- The form is read from the old place on. Either the value has these facts and the new place is after it, or this is
-- the refusal, unless memory ran out.
abbrev pub ReadsAs : {A B : Type 0} → Reading A → (B → A) → Cursor → Cursor → Result B FieldError → Type 0
ReadsAs form facts old new (Ok b) = (form old.total old.rest.now ≡ Ok (facts b, new.rest.now)) × (new.total ≡ old.total)
ReadsAs form facts old new (Err e) = e ≢ Memory → form old.total old.rest.now ≡ Err e

-- the same, if the value is what is read
abbrev pub Reads : {A : Type 0} → Reading A → Cursor → Cursor → Result A FieldError → Type 0
Reads form old new result = ReadsAs form (λ a. a) old new result
