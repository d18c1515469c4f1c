-- A list as what is before a place, at it and after it.
use Rattle.std.proofs.Common.{◌≡◌, ◌≢◌, ◌∙◌, ◌<◌, inl, inr, ℕ, List, [], ◌∷◌, ◌++◌, length, get_or, set, take, drop, refl, sym, ap, subst, arith, suc}
use Rattle.std.proofs.Math.Seq.{get_or-append_seam, drop-cons}
use Rattle.std.specs.List.{All, remove}
use Rattle.std.proofs.lemmas.List.{take-append-drop, take-set, drop-set-lt}
use Rattle.std.proofs.lemmas.List.Elements.{All-append, All-take, All-drop}
use Rattle.ept_crowd.specs.declared.member.Live.{Live}
use Rattle.ept_crowd.specs.Members.{IsAmong}

module _ {X : Type 0} where
  -- what is read there
  pub read-at : (front back items : List X) (member read : X) (place : ℕ) → items ≡ front ++ (member ∷ back) → length front ≡ place → read ≡ get_or items place read → read ≡ member
  read-at front back items member read place is at value =
      value ∙ ap (λ (xs : List X). get_or xs place read) is ∙ ap (λ (n : ℕ). get_or (front ++ (member ∷ back)) n read) (sym at) ∙ get_or-append_seam front member back read

  set-seam : (front back : List X) (member other : X) → set (front ++ (member ∷ back)) (length front) other ≡ front ++ (other ∷ back)
  set-seam [] back member other = refl
  set-seam (x ∷ front) back member other = ap (λ (xs : List X). x ∷ xs) (set-seam front back member other)

  -- another is put there
  pub set-at : (front back items : List X) (member other : X) (place : ℕ) → items ≡ front ++ (member ∷ back) → length front ≡ place → set items place other ≡ front ++ (other ∷ back)
  set-at front back items member other place is at =
      ap (λ (xs : List X). set xs place other) is ∙ ap (λ (n : ℕ). set (front ++ (member ∷ back)) n other) (sym at) ∙ set-seam front back member other

  -- there is something at each place
  pub split-at : (items : List X) (place : ℕ) (d : X) → place < length items → items ≡ take place items ++ (get_or items place d ∷ drop (suc place) items)
  split-at items place d less =
      sym (take-append-drop place items) ∙ ap (λ (xs : List X). take place items ++ xs) (drop-cons items place d less)

  -- the first is removed
  pub first-of : (items rest : List X) (x : X) → 0 < length items → x ≡ get_or items 0 x → rest ≡ take 0 items ++ drop 1 items → items ≡ x ∷ rest
  first-of [] rest x some value after = absurd (omega arith)
  first-of (y ∷ items) rest x some value after =
      ap (λ (first : X). first ∷ items) (sym value) ∙ ap (λ (xs : List X). x ∷ xs) (sym after)

  -- what is put at a place is removed again
  pub without-set : (items : List X) (place : ℕ) (other : X) → remove (set items place other) place ≡ take place items ++ drop (suc place) items
  without-set items place other =
      ap (λ (xs : List X). xs ++ drop (suc place) (set items place other)) (take-set items place other) ∙ ap (λ (xs : List X). take place items ++ xs) (drop-set-lt (suc place) items place other (omega arith))

  -- what holds of all holds of all except one
  pub all-without : (P : X → Type 0) (items : List X) (place : ℕ) (other : X) → All P items → All P (remove (set items place other) place)
  all-without P items place other all =
      subst (All P) (sym (without-set items place other)) (All-append P (take place items) (drop (suc place) items) (All-take P place items all) (All-drop P (suc place) items all))

module _ {L T : Type 0} where
  -- no connection has this number
  pub none-among : (number : ℕ) (live : List (Live L T)) → ((k : ℕ) (d : Live L T) → k < length live → (get_or live k d).number ≢ number) → ¬ IsAmong number live
  none-among number [] none among = among
  none-among number (member ∷ live) none (inl same) = none 0 member (omega arith) same
  none-among number (member ∷ live) none (inr later) =
      none-among number live (λ k d less. none (suc k) d (omega (arith, less))) later
