-- Tests, by cases.
use Rattle.std.proofs.Common.{◌≡◌, ◌∙◌, Bool, true, false, ◌&&◌, ◌||◌, refl, sym}
use Rattle.std.proofs.lemmas.Bool.{false≢true, and_parts}
pub use Rattle.std.proofs.lemmas.Bool.{cases_Bool as either, false_from_ne_true as is_false, not-true as not_true, and_from as and_both, or_left, or_right, or_cases, or_parts as or_false}

pub not_both : (b : Bool) → b ≡ true → b ≡ false → ⊥
not_both b is isn't = false≢true (sym isn't ∙ is)

pub and_left : (b c : Bool) → (b && c) ≡ true → b ≡ true
and_left b c e = (and_parts b c e).0

pub and_right : (b c : Bool) → (b && c) ≡ true → c ≡ true
and_right b c e = (and_parts b c e).1

pub first_of_two : (b c : Bool) → (b || c) ≡ true → c ≡ false → b ≡ true
first_of_two true c some none = refl
first_of_two false c some none = absurd (not_both c some none)
