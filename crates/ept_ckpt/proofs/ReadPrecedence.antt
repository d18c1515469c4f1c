-- Which points come first and last, and the mark of a version, are the bytes that they are read from.
use Rattle.std.proofs.Common.{◌≡◌, ◌∙◌, ℕ, Bool, true, false, List, [], ◌∷◌, ◌++◌, length, take, ◌⊎◌, inl, inr, Some, Ok, find, refl, sym, ap, arith}
use Rattle.std.specs.Prelude.{nat_eq, ◌==◌, if◌then◌else◌}
use Rattle.std.specs.List.{starts_with}
use Rattle.std.proofs.lemmas.List.{take_all}
use Rattle.std.proofs.lemmas.Slice.Eq.{bytes_eq-Decides}
use Rattle.ept_ckpt.specs.declared.field_error.FieldError.TheVariants as error
use Rattle.ept_ckpt.specs.declared.version.BodyVersion.{BodyVersion}
use Rattle.ept_ckpt.specs.declared.version.BodyVersion.TheVariants.{V1, V2, V3}
use Rattle.ept_ckpt.specs.Facts.{PrecedenceFacts}
use Rattle.ept_ckpt.specs.Body.{mark_bytes, precedence_bytes}
use Rattle.ept_ckpt.specs.Fields.{Reading, bytes, number, within, known, give}
use Rattle.ept_ckpt.specs.Forms.{mark, no_precedence, precedence_form}
use Rattle.ept_ckpt.proofs.ReadNumbers.{CutsOff, steps, same_read, uncut, cut_by, all_cut, field_cut, most_of, bytes_length, byte_cut, bytes_cut}
use Rattle.ept_ckpt.proofs.ReadSettings.{one_or_none}

-- eight bytes that start with a mark are the mark
mark_is : (version : BodyVersion) (front : List ℕ) → length front ≡ 8 → starts_with nat_eq front (mark_bytes version) ≡ true → front ≡ mark_bytes version
unfolding mark_bytes
mark_is V1 front eight passed =
    let same : mark_bytes V1 ≡ take 8 front = (bytes_eq-Decides (mark_bytes V1) (take 8 front)).0 passed in
    sym (same ∙ take_all 8 front (omega (arith, eight)))
mark_is V2 front eight passed =
    let same : mark_bytes V2 ≡ take 8 front = (bytes_eq-Decides (mark_bytes V2) (take 8 front)).0 passed in
    sym (same ∙ take_all 8 front (omega (arith, eight)))
mark_is V3 front eight passed =
    let same : mark_bytes V3 ≡ take 8 front = (bytes_eq-Decides (mark_bytes V3) (take 8 front)).0 passed in
    sym (same ∙ take_all 8 front (omega (arith, eight)))

-- the version among these whose mark the bytes begin with, as it is read
abbrev version_read : List ℕ → List BodyVersion → Reading BodyVersion
version_read front versions = known error.Version (find (λ version. starts_with nat_eq front (mark_bytes version)) versions)

-- the version that is read is one whose mark was found
found_is : (front : List ℕ) (versions : List BodyVersion) (total : ℕ) (rest left : List ℕ) (version : BodyVersion) → length front ≡ 8 → version_read front versions total rest ≡ Ok (version, left) → (front ≡ mark_bytes version) × (rest ≡ left)
found_is front [] total rest left version eight read = absurd cc
found_is front (first ∷ versions) total rest left version eight read =
    by (starts_with nat_eq front (mark_bytes first)) refl read (λ later. found_is front versions total rest left version eight later)
  where
    by : (passed : Bool) → starts_with nat_eq front (mark_bytes first) ≡ passed → known error.Version (if passed then Some first else find (λ version. starts_with nat_eq front (mark_bytes version)) versions) total rest ≡ Ok (version, left)
        → (version_read front versions total rest ≡ Ok (version, left) → (front ≡ mark_bytes version) × (rest ≡ left)) → (front ≡ mark_bytes version) × (rest ≡ left)
    by true is read later = let same = same_read read in (mark_is first front eight is ∙ ap mark_bytes same.0, same.1)
    by false is read later = later read

pub mark_cut : CutsOff BodyVersion mark mark_bytes
unfolding mark
mark_cut = record {
  cut = λ total rest left version fit read.
      steps (bytes 8 total rest) _ read (λ front m1 r1 last.
      let found = found_is front (V1 ∷ V2 ∷ V3 ∷ []) total m1 left version (bytes_length 8 total rest m1 front r1) last in
      (cut_by total (bytes_cut 8) (uncut rest fit) r1).is ∙ ap (λ (w : List ℕ). w ++ m1) found.0 ∙ ap (λ (w : List ℕ). mark_bytes version ++ w) found.1);
}

-- before version 3 nothing is read
pub form_before : (version : BodyVersion) → (version ≡ V1) ⊎ (version ≡ V2) → precedence_form version ≡ give no_precedence
unfolding precedence_form
form_before V1 before = refl
form_before V2 before = refl
form_before V3 before = absurd (elim before [ inl same ↦ cc | inr same ↦ cc ])

-- which points come first and last
pub precedence_cut : (version : BodyVersion) → CutsOff PrecedenceFacts (precedence_form version) (precedence_bytes version)
unfolding precedence_form
precedence_cut V1 = record { cut = λ total rest left precedence fit read. (same_read read).1 }
precedence_cut V2 = record { cut = λ total rest left precedence fit read. (same_read read).1 }
precedence_cut V3 = record {
  cut = λ total rest left precedence fit read.
      steps (bytes 32 total rest) _ read (λ first m1 r1 read1.
      steps (within 0 1 (number 1) total m1) _ read1 (λ last m2 r2 ending.
      let few = most_of 0 1 (number 1) total m1 m2 last r2 in
      let told : last ≡ (if last == 1 then 1 else 0) = sym (one_or_none last (omega (arith, few))) in
      all_cut (precedence_bytes V3) (cut_by total (field_cut _ byte_cut) (cut_by total (bytes_cut 32) (uncut rest fit) r1) r2)
      (ap (λ (n : ℕ). first ++ (n ∷ [])) told) ending));
}
