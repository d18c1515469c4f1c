-- Keys that are all different, in a list with others.
use Rattle.std.proofs.Common.{◌≡◌, ◌∙◌, ℕ, suc, ◌+◌, ◌≤◌, inl, inr, List, [], ◌∷◌, ◌++◌, length, refl, sym, ap, subst, arith}
use Rattle.std.proofs.lemmas.List.{length-append}
use Rattle.ept_sample.specs.Members.{IsMember}
use Rattle.ept_sample.proofs.Members.{IsMember-left, IsMember-right, IsMember-append}
use Rattle.ept_table.specs.At.{At}
use Rattle.ept_table.proofs.Lists.{at-next, at-zero, member-at}

-- no item is at two places
abbrev pub AreDifferent : {X : Type 0} → List X → Type 0
AreDifferent {X} xs = (i j : ℕ) (x : X) → At xs i x → At xs j x → i ≡ j

different_tail : {X : Type 0} (y : X) (xs : List X) → AreDifferent (y ∷ xs) → AreDifferent xs
different_tail y xs apart i j x a b =
    let e : suc i ≡ suc j = apart (suc i) (suc j) x (at-next y xs i x a) (at-next y xs j x b) in omega (arith, e)

different_head : {X : Type 0} (y : X) (xs : List X) → AreDifferent (y ∷ xs) → IsMember y xs → ⊥
different_head y xs apart m =
    let r = member-at xs y m in
    let e : 0 ≡ suc r.0 = apart 0 (suc r.0) y (at-zero y xs) (at-next y xs r.0 y r.1) in
    omega (arith, e)

pub member-cut : {X : Type 0} (x : X) (xs : List X) → IsMember x xs → (front : List X) × (back : List X) × (xs ≡ front ++ x ∷ back)
member-cut x [] m = absurd m
member-cut {X} x (y ∷ xs) (inl is) = ([], xs, ap (λ (w : X). w ∷ xs) is)
member-cut {X} x (y ∷ xs) (inr m) =
    let r = member-cut x xs m in (y ∷ r.0, r.1, ap (λ (w : List X). y ∷ w) r.2)

-- what is in the list and not the item that is cut out is in the rest
in_rest : {X : Type 0} (x z : X) (front back : List X) → IsMember z (front ++ x ∷ back) → (x ≡ z → ⊥) → IsMember z (front ++ back)
in_rest x z front back m apart =
    elim (IsMember-append z front (x ∷ back) m) [
      | inl f ↦ IsMember-left z front back f
      | inr b ↦ elim b [ inl is ↦ absurd (apart is) | inr more ↦ IsMember-right z front back more ]
    ]

-- the number of different items that are all in a list is at most the length of the list
pub no-more : {X : Type 0} (xs ys : List X) → AreDifferent xs → ((x : X) → IsMember x xs → IsMember x ys) → length xs ≤ length ys
no-more [] ys apart among = omega arith
no-more {X} (x ∷ xs) ys apart among =
    let cut = member-cut x ys (among x (inl refl)) in
    let rest : List X = cut.0 ++ cut.1 in
    let fewer : length xs ≤ length rest = no-more xs rest (different_tail x xs apart) (λ z m. in_rest x z cut.0 cut.1 (subst (λ (w : List X). IsMember z w) cut.2 (among z (inr m))) (λ is. different_head x xs apart (subst (λ (w : X). IsMember w xs) (sym is) m))) in
    let whole : length ys ≡ length cut.0 + suc (length cut.1) = ap (λ (w : List X). length w) cut.2 ∙ length-append cut.0 (x ∷ cut.1) in
    let parts : length rest ≡ length cut.0 + length cut.1 = length-append cut.0 cut.1 in
    omega (arith, fewer, whole, parts)
