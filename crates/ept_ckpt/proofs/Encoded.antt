-- Bytes that are not UTF-8 are not one of the texts of a body.
use Rattle.std.proofs.Common.{◌≡◌, ℕ, Bool, true, false, List, refl}
use Rattle.std.specs.Str.{is_utf8, IsUtf8}
use Rattle.std.proofs.lemmas.Str.{IsUtf8-from_is_utf8}
use Rattle.ept_config.specs.Texts.{is_plain, is_path, is_srs_text}

refuted : (b : Bool) → (b ≡ true → ⊥) → b ≡ false
refuted true other = absurd (other refl)
refuted false other = refl

no_utf8 : (text : List ℕ) → ¬ IsUtf8 text → is_utf8 text ≡ false
no_utf8 text other = refuted (is_utf8 text) (λ is. other (IsUtf8-from_is_utf8 text is))

no_plain : (text : List ℕ) → ¬ IsUtf8 text → is_plain text ≡ false
unfolding is_plain
no_plain text other = rw (no_utf8 text other) refl

pub no_path : (text : List ℕ) → ¬ IsUtf8 text → is_path text ≡ false
unfolding is_path
no_path text other = rw (no_plain text other) refl

pub no_srs_text : (text : List ℕ) → ¬ IsUtf8 text → is_srs_text text ≡ false
unfolding is_srs_text
no_srs_text text other = rw (no_plain text other) refl
