-- What a header without a fault has.
use Rattle.std.proofs.Common.{ℕ, ◌<◌, ◌≤◌, List, Option, Bool, true, false, IsTrue, length, refl, arith, inl, inr}
use Rattle.std.proofs.lemmas.Bool.{cases_lt}
use Rattle.ept_las.specs.declared.las_error.LasError.TheVariants.{HeaderSize, Format, RecordLength}
use Rattle.ept_las.specs.Format.{IsFormat, is_format, record_length}
use Rattle.ept_las.specs.LasHeader.{HasNoneBelow, least_size, minor_of, format_of, stated_length_of}

true_from_double : (b : Bool) → ¬ ¬ IsTrue b → IsTrue b
true_from_double true h = refl
true_from_double false h = absurd (h (λ e. cc))

le_from_not : (m n : ℕ) → ¬ (m < n) → n ≤ m
le_from_not m n h = elim (cases_lt m n) [ inl below ↦ absurd (h below) | inr above ↦ above ]

module _ (head : List ℕ) (expect : Option (List ℕ)) (none : HasNoneBelow head expect 10) where
  pub sound_size : least_size (minor_of head) ≤ length head
  sound_size = le_from_not (length head) (least_size (minor_of head)) (λ h. none HeaderSize (omega arith) (inr h))

  pub sound_format : IsFormat (format_of head)
  sound_format = true_from_double (is_format (format_of head)) (none Format (omega arith))

  pub sound_length : record_length (format_of head) ≤ stated_length_of head
  sound_length = le_from_not (stated_length_of head) (record_length (format_of head)) (none RecordLength (omega arith))
