-- The words of a selection ask for one.
use Rattle.std.proofs.Common.{◌≡◌, ℕ, List, [], ◌∷◌, Option, Some, ap, sym, ◌∙◌, subst}
use Rattle.std.specs.Prelude.{codes}
use Rattle.ept_base.specs.Files.{Files}
use Rattle.ept_space.specs.declared.box3.Box3.{Box3}
use Rattle.ept_http.specs.QueryWords.{IsBoxText, IsDepthsText}
use Rattle.ept_http.specs.Laws.{TextHasOneBox, TextHasOneRange}
use Rattle.ept_filter.specs.declared.sift.Sift.{Sift}
use Rattle.ept_filter.specs.SiftText.{IsSiftText}
use Rattle.ept_filter.specs.Laws.{TextsHaveOneSift}
use Rattle.ept_command.specs.declared.ended.Failure.{Failure}
use Rattle.ept_command.specs.Words.{IsSelect}
use Rattle.ept_run.specs.Queries.{query_failure, EndsSelect}
use Rattle.ept_run.proofs.Queried.{asked_same}

module _ (one_box : TextHasOneBox) (one_range : TextHasOneRange) (one_sift : TextsHaveOneSift) (words : List (List ℕ)) where
  same_words : (a b c d e f u v w x y z : List ℕ) → codes "select" ∷ a ∷ b ∷ c ∷ d ∷ e ∷ f ∷ [] ≡ codes "select" ∷ u ∷ v ∷ w ∷ x ∷ y ∷ z ∷ [] → (b ≡ v) × (c ≡ w) × (d ≡ x) × (e ≡ y) × (f ≡ z)
  same_words a b c d e f u v w x y z same = (cc, cc, cc, cc, cc)

  same_texts : (classes time dims a b c : List ℕ) (sift : Sift) → classes ≡ a → time ≡ b → dims ≡ c → IsSiftText classes time dims sift → IsSiftText a b c sift
  same_texts classes time dims a b c sift same_classes same_time same_dims is =
      subst (λ (t : List ℕ). IsSiftText t b c sift) same_classes
      (subst (λ (t : List ℕ). IsSiftText classes t c sift) same_time
      (subst (λ (t : List ℕ). IsSiftText classes time t sift) same_dims is))

  select_once : (out other : List ℕ) (area found : Box3) (first last least most : ℕ) (sift kept : Sift) → IsSelect words out area first last sift → IsSelect words other found least most kept → (area ≡ found) × (first ≡ least) × (last ≡ most) × (sift ≡ kept)
  select_once out other area found first last least most sift kept one two =
      let same = same_words out one.box one.depths one.classes one.time one.dims other two.box two.depths two.classes two.time two.dims (sym one.words_are ∙ two.words_are) in
      let depths = one_range two.depths first last least most (subst (λ (t : List ℕ). IsDepthsText t first last) same.1 one.depths_are) two.depths_are in (
        one_box two.box area found (subst (λ (t : List ℕ). IsBoxText t area) same.0 one.area_is) two.area_is,
        depths.0,
        depths.1,
        one_sift two.classes two.time two.dims sift kept (same_texts one.classes one.time one.dims two.classes two.time two.dims sift same.2 same.3 same.4 one.sift_is) two.sift_is,
      )

  pub select_ends : (out other : List ℕ) (area found : Box3) (first last least most : ℕ) (sift kept : Sift) (status : ℕ) (failure : Option Failure) (files : Option Files) (old new : Option (List ℕ)) (store sink : Type 0) → IsSelect words out area first last sift → IsSelect words other found least most kept
      → ((ends : EndsSelect sift area first last status files old new store sink) × (failure ≡ query_failure ends.answer)) → (ends : EndsSelect kept found least most status files old new store sink) × (failure ≡ query_failure ends.answer)
  select_ends out other area found first last least most sift kept status failure files old new store sink one two ends =
      let same = select_once out other area found first last least most sift kept one two in
      asked_same (Some sift) (Some kept) area found first last least most status failure files old new store sink (ap (λ (s : Sift). Some s) same.3) same.0 same.1 same.2 ends
