-- Facts that hold or do not.
use Rattle.std.proofs.Common.{◌≡◌, ◌⊎◌, ⊎_elim, inl, inr, ℕ, zero, suc, ◌<◌, ◌≤◌, ℤ, ◌≤ℤ◌, ◌<ℤ◌, Bool, true, false, true≢false, List, [], ◌∷◌, All, Decides, refl, sym, subst, arith}
use Rattle.std.proofs.Common.{Less, Equal, Greater, Ordering, int_cmp}
use Rattle.std.specs.Ordering.{MatchOrdering}
use Rattle.std.specs.Cmp.{int_ranks, booleans_Decides}
use Rattle.std.proofs.lemmas.Int.{ints}
use Rattle.std.proofs.lemmas.Bool.{cases_lt, cases_eq}
use Rattle.std.proofs.lemmas.Slice.Eq.{bytes_eq-Decides}
use Rattle.std.specs.Str.{bytes_eq}
use Rattle.ept_sample.specs.Members.{IsMember}
use Rattle.ept_sample.proofs.Members.{all-member, All-members}
use Rattle.ept_decidable.specs.Known.{IsDecided}

abbrev pub Known : Type 0 → Type 0
Known P = P ⊎ (P → ⊥)

module _ {P : Type 0} where
  pub known_from : (r : Bool) → Decides r P → Known P
  known_from true d = inl (d.0 refl)
  known_from false d = inr (λ p. true≢false (sym (d.1 p)))

  pub decided : Known P → IsDecided P
  decided (inl p) = (true, (λ _. p, λ _. refl))
  decided (inr n) = (false, (λ e. absurd (true≢false (sym e)), λ p. absurd (n p)))

  pub known_not : Known P → Known (P → ⊥)
  known_not (inl p) = inr (λ n. n p)
  known_not (inr n) = inl n

  -- a fact from a premise that is known
  pub known_given : {Q : Type 0} → Known P → (P → Known Q) → Known (P × Q)
  known_given (inl p) k = elim (k p) [ inl q ↦ inl (p, q) | inr m ↦ inr (λ h. m h.1) ]
  known_given (inr n) k = inr (λ h. n h.0)

  pub known_like : {Q : Type 0} → (P → Q) → (Q → P) → Known P → Known Q
  known_like f g (inl p) = inl (f p)
  known_like f g (inr n) = inr (λ q. n (g q))

module _ {P Q : Type 0} where
  pub known_and : Known P → Known Q → Known (P × Q)
  known_and (inl p) (inl q) = inl (p, q)
  known_and (inl p) (inr m) = inr (λ h. m h.1)
  known_and (inr n) k = inr (λ h. n h.0)

  pub known_or : Known P → Known Q → Known (P ⊎ Q)
  known_or (inl p) k = inl (inl p)
  known_or (inr n) (inl q) = inl (inr q)
  known_or (inr n) (inr m) = inr (⊎_elim n m)

-- ---- numbers

pub known_lt : (a b : ℕ) → Known (a < b)
known_lt a b = elim (cases_lt a b) [ inl less ↦ inl less | inr more ↦ inr (λ less. omega (arith, less, more)) ]

pub known_le : (a b : ℕ) → Known (a ≤ b)
known_le a b = elim (cases_lt b a) [ inl more ↦ inr (λ less. omega (arith, less, more)) | inr less ↦ inl less ]

pub known_eq : (a b : ℕ) → Known (a ≡ b)
known_eq a b = cases_eq a b

pub known_same : (a b : Bool) → Known (a ≡ b)
known_same a b = known_from _ (booleans_Decides a b)

pub known_numbers : (xs ys : List ℕ) → Known (xs ≡ ys)
known_numbers xs ys = known_from (bytes_eq xs ys) (bytes_eq-Decides xs ys)

by_order : (a b : ℤ) (r : Ordering) → MatchOrdering r (a <ℤ b) (a ≡ b) (b <ℤ a) → Known (a <ℤ b)
by_order a b Less h = inl h
by_order a b Equal h = inr (λ less. omega (arith, ints, h, less))
by_order a b Greater h = inr (λ less. omega (arith, ints, h, less))

pub known_below_int : (a b : ℤ) → Known (a <ℤ b)
known_below_int a b = by_order a b (int_cmp a b) (int_ranks a b)

pub known_most_int : (a b : ℤ) → Known (a ≤ℤ b)
known_most_int a b = known_like (λ not_less. at_most a b not_less) (λ less more. omega (arith, ints, less, more)) (known_not (known_below_int b a))
  where
    at_most : (a b : ℤ) → (b <ℤ a → ⊥) → a ≤ℤ b
    at_most a b never = elim (cases a b) [ inl less ↦ absurd (never less) | inr most ↦ most ]
      where
        by : (a b : ℤ) (r : Ordering) → MatchOrdering r (b <ℤ a) (b ≡ a) (a <ℤ b) → (b <ℤ a) ⊎ (a ≤ℤ b)
        by a b Less h = inl h
        by a b Equal h = inr (omega (arith, ints, h))
        by a b Greater h = inr (omega (arith, ints, h))

        cases : (a b : ℤ) → (b <ℤ a) ⊎ (a ≤ℤ b)
        cases a b = by a b (int_cmp b a) (int_ranks b a)

-- ---- each item, and each number below another

module _ {X : Type 0} {P : X → Type 0} (each : (x : X) → Known (P x)) where
  pub known_members : (xs : List X) → Known ((x : X) → IsMember x xs → P x)
  known_members [] = inl (λ x m. absurd m)
  known_members (y ∷ ys) =
      known_like (λ (h : P y × ((x : X) → IsMember x ys → P x)) x m. ⊎_elim (λ is. subst P is h.0) (λ later. h.1 x later) m) (λ h. (h y (inl refl), λ x m. h x (inr m))) (known_and (each y) (known_members ys))

  pub known_all : (xs : List X) → Known (All P xs)
  known_all xs = known_like (All-members P xs) (λ all x m. all-member P x xs all m) (known_members xs)

pub known_below : {P : ℕ → Type 0} → ((k : ℕ) → Known (P k)) → (n : ℕ) → Known ((k : ℕ) → k < n → P k)
known_below each zero = inl (λ k less. absurd (omega (arith, less)))
known_below {P} each (suc n) =
    known_like (λ (h : P n × ((k : ℕ) → k < n → P k)) k less. ⊎_elim (λ is. subst P (sym is) h.0) (λ other. h.1 k (below k n less other)) (cases_eq k n)) (λ h. (h n (omega arith), λ k less. h k (omega (arith, less)))) (known_and (each n) (known_below each n))
  where
    below : (k n : ℕ) → k < suc n → (k ≡ n → ⊥) → k < n
    below k n less other = omega (arith, less, other)

pub known_lists : {A : Type 0} → ((a b : A) → Known (a ≡ b)) → (xs ys : List A) → Known (xs ≡ ys)
known_lists each [] [] = inl refl
known_lists each [] (y ∷ ys) = inr (λ e. nil_cons y ys e)
  where
    nil_cons : {A : Type 0} (y : A) (ys : List A) → [] ≡ y ∷ ys → ⊥
    nil_cons y ys e = cc
known_lists each (x ∷ xs) [] = inr (λ e. cons_nil x xs e)
  where
    cons_nil : {A : Type 0} (x : A) (xs : List A) → x ∷ xs ≡ [] → ⊥
    cons_nil x xs e = cc
known_lists each (x ∷ xs) (y ∷ ys) = known_like (λ h. cons x y xs ys h.0 h.1) (λ e. uncons x y xs ys e) (known_and (each x y) (known_lists each xs ys))
  where
    cons : {A : Type 0} (x y : A) (xs ys : List A) → x ≡ y → xs ≡ ys → x ∷ xs ≡ y ∷ ys
    cons x y xs ys p q = cc

    uncons : {A : Type 0} (x y : A) (xs ys : List A) → x ∷ xs ≡ y ∷ ys → (x ≡ y) × (xs ≡ ys)
    uncons x y xs ys e = (cc, cc)
