-- The words of a query are those of no other command, and what its status says.
use Rattle.std.proofs.Common.{◌≡◌, ◌≢◌, ◌⊎◌, inl, inr, ℕ, List, [], ◌∷◌, Option, None, Some, Ok, Err, refl, sym, ◌∙◌, subst, arith}
use Rattle.std.specs.Prelude.{◌↔◌, Result, codes}
use Rattle.ept_base.specs.Files.{Files}
use Rattle.ept_space.specs.declared.box3.Box3.{Box3}
use Rattle.ept_http.specs.QueryWords.{IsBoxText, IsDepthsText}
use Rattle.ept_http.specs.Laws.{TextHasOneBox, TextHasOneRange}
use Rattle.ept_query.specs.declared.query_error.QueryError.{QueryError}
use Rattle.ept_query.specs.declared.query_error.QueryError.TheVariants.{NotComplete, StoreFault, Damaged, SinkFault, Memory}
use Rattle.ept_command.specs.declared.ended.Failure.{Failure}
use Rattle.ept_command.specs.declared.ended.Failure.TheVariants.{QueryRefused}
use Rattle.ept_command.specs.declared.refusal.Refusal.{Refusal}
use Rattle.ept_filter.specs.declared.sift.Sift.{Sift}
use Rattle.ept_command.specs.Words.{IsBuild, IsInfo, IsQuery}
use Rattle.ept_run.specs.Answers.{AsksDataset, IsFaulty}
use Rattle.ept_run.specs.Queries.{query_status, query_failure, EndsSelection, EndsQuery}
use Rattle.ept_run.proofs.Runs.{some_or_none}

-- ---- one command

module _ (words : List (List ℕ)) (out : List ℕ) (area : Box3) (first last : ℕ) (is : IsQuery words out area first last) where
  pub query_or_build : (a b : List ℕ) → IsBuild words a b → ⊥
  query_or_build a b other = apart (sym other.words_are ∙ is.words_are)
    where
      apart : codes "build" ∷ a ∷ b ∷ [] ≡ codes "query" ∷ out ∷ is.box ∷ is.depths ∷ [] → ⊥
      apart same = cc

  pub query_or_info : (las : List ℕ) → IsInfo words las → ⊥
  query_or_info las other = apart (sym other.words_are ∙ is.words_are)
    where
      apart : codes "info" ∷ las ∷ [] ≡ codes "query" ∷ out ∷ is.box ∷ is.depths ∷ [] → ⊥
      apart same = cc

  pub query_asked : AsksDataset words
  query_asked = inl (record { folder = out; area = area; first = first; last = last; words_are = is })

  pub query_unrefused : (all : Files) (r : Refusal) → IsFaulty words all r → ⊥
  query_unrefused all r (inl usage) = usage.1.not_query out area first last is
  query_unrefused all r (inr (inl asks)) = query_or_build asks.path asks.out asks.words_are
  query_unrefused all r (inr (inr asks)) = query_or_info asks.path asks.words_are

-- how a query or a selection ends is how it does that asks for the same, with its failure
abbrev pub EndsAsked : Option Sift → Box3 → ℕ → ℕ → ℕ → Option Failure → Option Files → Option (List ℕ) → Option (List ℕ) → Type 0 → Type 0 → Type 0
EndsAsked sift area first last status failure files old new store sink =
    (ends : EndsSelection sift area first last status files old new store sink) × (failure ≡ query_failure ends.answer)

pub asked_same : (sift kept : Option Sift) (area found : Box3) (first last least most status : ℕ) (failure : Option Failure) (files : Option Files) (old new : Option (List ℕ)) (store sink : Type 0)
    → sift ≡ kept → area ≡ found → first ≡ least → last ≡ most → EndsAsked sift area first last status failure files old new store sink → EndsAsked kept found least most status failure files old new store sink
asked_same sift kept area found first last least most status failure files old new store sink same_sift same_area same_first same_last ends =
    subst (λ (s : Option Sift). EndsAsked s found least most status failure files old new store sink) same_sift
    (subst (λ (a : Box3). EndsAsked sift a least most status failure files old new store sink) same_area
    (subst (λ (n : ℕ). EndsAsked sift area n most status failure files old new store sink) same_first
    (subst (λ (n : ℕ). EndsAsked sift area first n status failure files old new store sink) same_last ends)))

-- words ask for one box and one range
module _ (one_box : TextHasOneBox) (one_range : TextHasOneRange) (words : List (List ℕ)) where
  same_words : (a b c x y z : List ℕ) → codes "query" ∷ a ∷ b ∷ c ∷ [] ≡ codes "query" ∷ x ∷ y ∷ z ∷ [] → (b ≡ y) × (c ≡ z)
  same_words a b c x y z same = (cc, cc)

  pub query_once : (out other : List ℕ) (area found : Box3) (first last least most : ℕ) → IsQuery words out area first last → IsQuery words other found least most → (area ≡ found) × (first ≡ least) × (last ≡ most)
  query_once out other area found first last least most one two =
      let same = same_words out one.box one.depths other two.box two.depths (sym one.words_are ∙ two.words_are) in
      let depths = one_range two.depths first last least most (subst (λ (t : List ℕ). IsDepthsText t first last) same.1 one.depths_are) two.depths_are in
      (one_box two.box area found (subst (λ (t : List ℕ). IsBoxText t area) same.0 one.area_is) two.area_is, depths.0, depths.1)

  pub query_ends : (out other : List ℕ) (area found : Box3) (first last least most status : ℕ) (failure : Option Failure) (files : Option Files) (old new : Option (List ℕ)) (store sink : Type 0) → IsQuery words out area first last → IsQuery words other found least most
      → ((ends : EndsQuery area first last status files old new store sink) × (failure ≡ query_failure ends.answer)) → (ends : EndsQuery found least most status files old new store sink) × (failure ≡ query_failure ends.answer)
  query_ends out other area found first last least most status failure files old new store sink one two ends =
      let same = query_once out other area found first last least most one two in
      asked_same None None area found first last least most status failure files old new store sink refl same.0 same.1 same.2 ends

-- ---- its status

status_is_own : (answer : Result ℕ QueryError) → query_status answer ≢ 2
status_is_own (Ok count) = omega arith
status_is_own (Err NotComplete) = omega arith
status_is_own (Err StoreFault) = omega arith
status_is_own (Err (Damaged file)) = omega arith
status_is_own (Err SinkFault) = omega arith
status_is_own (Err Memory) = omega arith

device_rose : (answer : Result ℕ QueryError) (store sink : Type 0) → (answer ≡ Err StoreFault → store) → (answer ≡ Err SinkFault → sink) → query_status answer ≡ 7 → store ⊎ sink
device_rose (Ok count) store sink stores sinks is = absurd (omega (arith, is))
device_rose (Err NotComplete) store sink stores sinks is = absurd (omega (arith, is))
device_rose (Err StoreFault) store sink stores sinks is = inl (stores refl)
device_rose (Err (Damaged file)) store sink stores sinks is = absurd (omega (arith, is))
device_rose (Err SinkFault) store sink stores sinks is = inr (sinks refl)
device_rose (Err Memory) store sink stores sinks is = absurd (omega (arith, is))

fails_at : (answer : Result ℕ QueryError) → (query_status answer ≡ 0) ↔ (query_failure answer ≡ None)
fails_at (Ok count) = (λ is. refl, λ none. refl)
fails_at (Err NotComplete) = (λ is. absurd (omega (arith, is)), λ none. absurd (some_or_none (QueryRefused NotComplete) (Some (QueryRefused NotComplete)) refl none))
fails_at (Err StoreFault) = (λ is. absurd (omega (arith, is)), λ none. absurd (some_or_none (QueryRefused StoreFault) (Some (QueryRefused StoreFault)) refl none))
fails_at (Err (Damaged file)) = (λ is. absurd (omega (arith, is)), λ none. absurd (some_or_none (QueryRefused (Damaged file)) (Some (QueryRefused (Damaged file))) refl none))
fails_at (Err SinkFault) = (λ is. absurd (omega (arith, is)), λ none. absurd (some_or_none (QueryRefused SinkFault) (Some (QueryRefused SinkFault)) refl none))
fails_at (Err Memory) = (λ is. absurd (omega (arith, is)), λ none. absurd (some_or_none (QueryRefused Memory) (Some (QueryRefused Memory)) refl none))

-- there is a failure at each status but 0
pub query_no_failure : (answer : Result ℕ QueryError) (status : ℕ) (failure : Option Failure) → status ≡ query_status answer → failure ≡ query_failure answer → (status ≡ 0) ↔ (failure ≡ None)
query_no_failure answer status failure status_is failure_is = (λ is. failure_is ∙ (fails_at answer).0 (sym status_is ∙ is), λ none. status_is ∙ (fails_at answer).1 (sym failure_is ∙ none))

module _ (sift : Option Sift) (area : Box3) (first last status : ℕ) (files : Option Files) (old new : Option (List ℕ)) (store sink : Type 0) (ends : EndsSelection sift area first last status files old new store sink) where
  pub query_not_usage : status ≡ 2 → ⊥
  query_not_usage is = status_is_own ends.answer (sym ends.status_is ∙ is)

  pub query_rose : status ≡ 7 → store ⊎ sink
  query_rose is = device_rose ends.answer store sink ends.stores ends.sinks (sym ends.status_is ∙ is)

-- ---- wider

pub first_two : {A B C : Type 0} → A ⊎ B → A ⊎ B ⊎ C
first_two (inl a) = inl a
first_two (inr b) = inr (inl b)
