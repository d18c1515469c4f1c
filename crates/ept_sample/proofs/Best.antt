-- In an irreflexive and transitive relation, what is beaten is beaten by something that is not.
use Rattle.std.proofs.Common.{◌≡◌, Bool, true, false, ◌||◌, inl, inr, List, [], ◌∷◌, refl, ap, sym, ◌∙◌, filter}
use Rattle.std.specs.List.{list_any}
use Rattle.std.proofs.lemmas.Bool.{false≢true}
use Rattle.ept_sample.specs.Members.{IsMember}
use Rattle.ept_sample.proofs.Members.{member-any, any-member, IsMember-kept, IsMember-filter}
use Rattle.ept_sample.proofs.Choices.{either, not_both, first_of_two}

-- a strict partial order
pub record IsContest {X : Type 0} (beats : X → X → Bool) : Type 0 where
  pub none_itself : (x : X) → beats x x ≡ false
  pub goes_on : (x y z : X) → beats x y ≡ true → beats y z ≡ true → beats x z ≡ true

-- one of the list beats x
abbrev pub is_beaten : {X : Type 0} → (X → X → Bool) → List X → X → Bool
is_beaten beats xs x = list_any (λ y. beats y x) xs

-- a winner of the list that beats x
abbrev pub Winner : {X : Type 0} → (X → X → Bool) → List X → X → Type 0
Winner {X} beats xs x = (y : X) × IsMember y xs × (beats y x ≡ true) × (is_beaten beats xs y ≡ false)

beaten_rest : {X : Type 0} (beats : X → X → Bool) (y : X) (xs : List X) (x : X) → beats y x ≡ false → is_beaten beats xs x ≡ false → is_beaten beats (y ∷ xs) x ≡ false
beaten_rest beats y xs x first rest = ap (λ b. b || is_beaten beats xs x) first ∙ rest

-- if y beats x and is beaten, x is beaten
passed_on : {X : Type 0} (beats : X → X → Bool) → IsContest beats → (xs : List X) (y x : X) → beats y x ≡ true → is_beaten beats xs y ≡ true → is_beaten beats xs x ≡ true
passed_on beats o xs y x wins lost =
    let v = member-any (λ z. beats z y) xs lost in
    any-member (λ z. beats z x) v.0 xs v.1 (o.goes_on v.0 y x v.2 wins)

unbeaten_head : {X : Type 0} (beats : X → X → Bool) → IsContest beats → (xs : List X) (y x : X) → beats y x ≡ true → is_beaten beats xs x ≡ false → is_beaten beats xs y ≡ false
unbeaten_head beats o xs y x wins none =
    elim (either (is_beaten beats xs y)) [ inl lost ↦ absurd (not_both (is_beaten beats xs x) (passed_on beats o xs y x wins lost) none) | inr fine ↦ fine ]

-- the head beats x, if the rest does not beat something that the head beats
by_head : {X : Type 0} (beats : X → X → Bool) → IsContest beats → (xs : List X) (y z x : X) → beats y z ≡ true → is_beaten beats xs z ≡ false → beats y x ≡ true → Winner beats (y ∷ xs) x
by_head beats o xs y z x over none wins =
    (y, inl refl, wins, beaten_rest beats y xs y (o.none_itself y) (unbeaten_head beats o xs y z over none))

by_rest : {X : Type 0} (beats : X → X → Bool) → IsContest beats → (xs : List X) (y x : X) → Winner beats xs x → Winner beats (y ∷ xs) x
by_rest beats o xs y x w =
    elim (either (beats y w.0)) [
      | inl over ↦ by_head beats o xs y w.0 x over w.3 (o.goes_on y w.0 x over w.2)
      | inr under ↦ (w.0, inr w.1, w.2, beaten_rest beats y xs w.0 under w.3)
    ]

-- what is beaten is beaten by a winner
pub winner_of : {X : Type 0} (beats : X → X → Bool) → IsContest beats → (xs : List X) (x : X) → is_beaten beats xs x ≡ true → Winner beats xs x
winner_of beats o [] x lost = absurd (false≢true lost)
winner_of beats o (y ∷ xs) x lost =
    elim (either (is_beaten beats xs x)) [
      | inl inside ↦ by_rest beats o xs y x (winner_of beats o xs x inside)
      | inr outside ↦
          let wins : beats y x ≡ true = first_of_two (beats y x) (is_beaten beats xs x) lost outside in
          by_head beats o xs y x x wins outside wins
    ]

-- if some losers are left out, the same items lose
pub is_beaten-filter : {X : Type 0} (beats : X → X → Bool) → IsContest beats → (keep : X → Bool) (xs : List X) → ((y : X) → IsMember y xs → is_beaten beats xs y ≡ false → keep y ≡ true) → (x : X) → is_beaten beats (filter keep xs) x ≡ is_beaten beats xs x
is_beaten-filter beats o keep xs winners x =
    elim (either (is_beaten beats xs x)) [
      | inl lost ↦
          let w = winner_of beats o xs x lost in
          any-member (λ z. beats z x) w.0 (filter keep xs) (IsMember-kept keep w.0 xs (winners w.0 w.1 w.3) w.1) w.2 ∙ sym lost
      | inr fine ↦
          elim (either (is_beaten beats (filter keep xs) x)) [
            | inl lost ↦
                let v = member-any (λ z. beats z x) (filter keep xs) lost in
                absurd (not_both (is_beaten beats xs x) (any-member (λ z. beats z x) v.0 xs (IsMember-filter keep v.0 xs v.1).0 v.2) fine)
            | inr none ↦ none ∙ sym fine
          ]
    ]
