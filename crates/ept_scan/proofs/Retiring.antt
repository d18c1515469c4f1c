-- Sources that are returned one after the other.
use Rattle.std.proofs.Common.{◌≡◌, ◌≢◌, ◌⊎◌, ⊎_elim, inl, inr, ℕ, ◌<◌, ◌≤◌, List, [], ◌∷◌, ◌++◌, length, get_or, sym, ◌∙◌, ap, arith, length-append}
use Rattle.std.proofs.lemmas.Bool.{cases_lt}
use Rattle.std.proofs.lemmas.List.{get_or_append_left}
use Rattle.std.proofs.Math.Seq.{get_or-append_seam}
use Rattle.ept_base.specs.Causes.{Rose}
use Rattle.ept_scan.specs.declared.part.Part.{Part}
use Rattle.ept_scan.specs.Opening.{HasFailed}

module _ {S : Type 0} (faults : S → ℕ) (all rest : List (Part S)) (part : Part S) (is : all ≡ rest ++ part ∷ []) where
  failed_split : HasFailed faults all → HasFailed faults rest ⊎ (faults part.source ≢ 0)
  failed_split any =
      let here : get_or (rest ++ part ∷ []) any.0 any.1 ≡ any.1 = ap (λ (l : List (Part S)). get_or l any.0 any.1) (sym is) ∙ any.3 in
      ⊎_elim (λ (before : any.0 < length rest). inl (any.0, any.1, before, sym (get_or_append_left rest (part ∷ []) any.1 any.0 before) ∙ here, any.4))
      (λ (past : length rest ≤ any.0).
      let last : any.0 ≡ length rest = omega (arith, past, any.2, ap length is, length-append rest (part ∷ [])) in
      let same : part ≡ any.1 = sym (ap (λ (k : ℕ). get_or (rest ++ part ∷ []) k any.1) last ∙ get_or-append_seam rest part [] any.1) ∙ here in
      inr (λ none. any.4 (ap (λ (q : Part S). faults q.source) (sym same) ∙ none))) (cases_lt any.0 (length rest))

  failed_rest : HasFailed faults rest → HasFailed faults all
  failed_rest any = (any.0, any.1, omega (arith, any.2, ap length is, length-append rest (part ∷ [])), ap (λ (l : List (Part S)). get_or l any.0 any.1) is ∙ get_or_append_left rest (part ∷ []) any.1 any.0 any.2 ∙ any.3, any.4)

  failed_last : faults part.source ≢ 0 → HasFailed faults all
  failed_last failed = (length rest, part, omega (arith, ap length is, length-append rest (part ∷ [])), ap (λ (l : List (Part S)). get_or l (length rest) part) is ∙ get_or-append_seam rest part [] part, failed)

  module _ (h0 h h' : ℕ) (later : h0 ≤ h) (on : h ≤ h') where
    pub retired_failed : (faults part.source ≢ 0 → Rose h h') → (HasFailed faults all ⊎ Rose h0 h) → HasFailed faults rest ⊎ Rose h0 h'
    retired_failed rises was =
        ⊎_elim (λ any. ⊎_elim (λ some. inl some) (λ failed. inr (first (rises failed))) (failed_split any)) (λ (rose : Rose h0 h). inr (second rose)) was
      where
        first : Rose h h' → Rose h0 h'
        first rose = omega (arith, rose, later)

        second : Rose h0 h → Rose h0 h'
        second rose = omega (arith, rose, on)

    pub retired_sound : (faults part.source ≡ 0 → h' ≡ h) → (HasFailed faults all → ⊥) × (h ≡ h0) → (HasFailed faults rest → ⊥) × (h' ≡ h0)
    retired_sound same was =
        let none : faults part.source ≡ 0 = ⊎_elim (λ (some : 0 < faults part.source). absurd (was.0 (failed_last (λ zero. omega (arith, some, zero))))) (λ (zero : faults part.source ≤ 0). omega (arith, zero)) (cases_lt 0 (faults part.source)) in
        (λ any. was.0 (failed_rest any), same none ∙ was.1)

pub nothing_failed : {S : Type 0} (faults : S → ℕ) (parts : List (Part S)) → length parts ≡ 0 → HasFailed faults parts → ⊥
nothing_failed faults parts none any = omega (arith, none, any.2)
