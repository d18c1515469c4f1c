-- Facts that hold or do not, found by going through finitely many cases.
use Rattle.std.proofs.Common.{◌≡◌, ℕ, zero, suc, ◌^◌, ◌<◌, ◌≤◌, List, [], ◌∷◌, ◌++◌, length, Bool, true, false, refl, sym, ap, subst, ◌∙◌, arith, inl, inr, ◌⊎◌, ℤ, pos, negsuc, FitsSigned, w64}
use Rattle.std.specs.Bool.{Decides}
use Rattle.std.specs.List.{AllByRecursion, flat_map}
use Rattle.std.specs.Str.{bytes_eq}
use Rattle.std.proofs.lemmas.Bool.{false≢true, cases_lt}
use Rattle.std.proofs.lemmas.Slice.Eq.{bytes_eq-Decides}

abbrev pub Decided : Type 0 → Type 0
Decided P = P ⊎ (¬ P)

pub decided-by : {P : Type 0} (test : Bool) → Decides test P → Decided P
decided-by true d = inl (d.0 refl)
decided-by false d = inr (λ p. false≢true (d.1 p))

pub decided-as : {P Q : Type 0} → (P → Q) → (Q → P) → Decided P → Decided Q
decided-as there back (inl p) = inl (there p)
decided-as there back (inr no_p) = inr (λ q. no_p (back q))

pub both : {P Q : Type 0} → Decided P → Decided Q → Decided (P × Q)
both (inl p) (inl q) = inl (p, q)
both (inl p) (inr no_q) = inr (λ h. no_q h.1)
both (inr no_p) q = inr (λ h. no_p h.0)

pub either : {P Q : Type 0} → Decided P → Decided Q → Decided (P ⊎ Q)
either (inl p) q = inl (inl p)
either (inr no_p) (inl q) = inl (inr q)
either (inr no_p) (inr no_q) = inr (λ h. elim h [ inl p ↦ no_p p | inr q ↦ no_q q ])

pub same-bytes : (xs ys : List ℕ) → Decided (xs ≡ ys)
same-bytes xs ys = decided-by (bytes_eq xs ys) (bytes_eq-Decides xs ys)

-- ---- numbers

pub below : (n : ℕ) (P : ℕ → Type 0) → ((k : ℕ) → Decided (P k)) → Decided ((k : ℕ) × (k < n) × P k)
below zero P each = inr (λ h. absurd (omega (arith, h.1)))
below (suc n) P each = step (each n) (below n P each)
  where
    step : Decided (P n) → Decided ((k : ℕ) × (k < n) × P k) → Decided ((k : ℕ) × (k < suc n) × P k)
    step (inl p) later = inl (n, omega arith, p)
    step (inr no_p) (inl found) = inl (found.0, omega (arith, found.1), found.2)
    step (inr no_p) (inr none) = inr (λ h. elim (cases_lt h.0 n) [
      | inl less ↦ none (h.0, less, h.2)
      | inr more ↦ no_p (let last : h.0 ≡ n = omega (arith, h.1) in subst P last h.2)
    ])

pub whole : (P : ℤ → Type 0) → ((z : ℤ) → Decided (P z)) → Decided ((z : ℤ) × FitsSigned w64 z × P z)
whole P each = decided-as there back (either (below (2 ^ 63) (λ n. P (pos n)) (λ n. each (pos n))) (below (2 ^ 63) (λ n. P (negsuc n)) (λ n. each (negsuc n))))
  where
    there : ((n : ℕ) × (n < 2 ^ 63) × P (pos n)) ⊎ ((n : ℕ) × (n < 2 ^ 63) × P (negsuc n)) → (z : ℤ) × FitsSigned w64 z × P z
    there (inl h) = (pos h.0, record { sfits = h.1 }, h.2)
    there (inr h) = (negsuc h.0, record { sfits = h.1 }, h.2)

    back : (z : ℤ) × FitsSigned w64 z × P z → ((n : ℕ) × (n < 2 ^ 63) × P (pos n)) ⊎ ((n : ℕ) × (n < 2 ^ 63) × P (negsuc n))
    back (pos n, fits, p) = inl (n, fits.sfits, p)
    back (negsuc n, fits, p) = inr (n, fits.sfits, p)

-- ---- pieces of a list

pub record IsSplit (P Q : List ℕ → Type 0) (bytes : List ℕ) : Type 0 where
  pub front : List ℕ
  pub back : List ℕ
  pub is : bytes ≡ front ++ back
  pub is_front : P front
  pub is_back : Q back

nil-parts : (xs ys : List ℕ) → [] ≡ xs ++ ys → (xs ≡ []) × (ys ≡ [])
nil-parts [] ys h = (refl, sym h)
nil-parts (x ∷ xs) ys h = absurd cc

-- a split of a list with a first byte has that byte in its back or in its front
split-cons : (P Q : List ℕ → Type 0) (b : ℕ) (bytes front back : List ℕ) → b ∷ bytes ≡ front ++ back → P front → Q back → (P [] × Q (b ∷ bytes)) ⊎ IsSplit (λ w. P (b ∷ w)) Q bytes
split-cons P Q b bytes [] back is p q = inl (p, subst Q (sym is) q)
split-cons P Q b bytes (x ∷ xs) back is p q =
    let first : x ≡ b = cc in
    let rest : bytes ≡ xs ++ back = cc in
    inr (record { front = xs; back = back; is = rest; is_front = subst (λ (y : ℕ). P (y ∷ xs)) first p; is_back = q })

pub split : (P Q : List ℕ → Type 0) → ((w : List ℕ) → Decided (P w)) → ((w : List ℕ) → Decided (Q w)) → (bytes : List ℕ) → Decided (IsSplit P Q bytes)
split P Q fronts backs [] =
    decided-as (λ h. record { front = []; back = []; is = refl; is_front = h.0; is_back = h.1 })
    (λ h. let none = nil-parts h.front h.back h.is in (subst P none.0 h.is_front, subst Q none.1 h.is_back))
    (both (fronts []) (backs []))
split P Q fronts backs (b ∷ bytes) =
    decided-as
    (λ h. elim h [
      | inl now ↦ record { front = []; back = b ∷ bytes; is = refl; is_front = now.0; is_back = now.1 }
      | inr later ↦ record { front = b ∷ later.front; back = later.back; is = ap (λ (w : List ℕ). b ∷ w) later.is; is_front = later.is_front; is_back = later.is_back }
    ])
    (λ h. split-cons P Q b bytes h.front h.back h.is h.is_front h.is_back)
    (either (both (fronts []) (backs (b ∷ bytes))) (split (λ w. P (b ∷ w)) Q (λ w. fronts (b ∷ w)) backs bytes))

-- at most this number of pieces, one after the other
abbrev pub AtMost : (List ℕ → Type 0) → ℕ → List ℕ → Type 0
AtMost P zero bytes = bytes ≡ []
AtMost P (suc n) bytes = (bytes ≡ []) ⊎ IsSplit P (AtMost P n) bytes

pub at-most : (P : List ℕ → Type 0) → ((w : List ℕ) → Decided (P w)) → (n : ℕ) (bytes : List ℕ) → Decided (AtMost P n bytes)
at-most P each zero bytes = same-bytes bytes []
at-most P each (suc n) bytes = either (same-bytes bytes []) (split P (AtMost P n) each (at-most P each n) bytes)

-- a piece is what a thing is printed as
abbrev pub IsPrinted : {X : Type 0} → (X → List ℕ) → (X → Type 0) → List ℕ → Type 0
IsPrinted {X} print Good bytes = (x : X) × Good x × (bytes ≡ print x)

pub things : {X : Type 0} (print : X → List ℕ) (Good : X → Type 0) (n : ℕ) (bytes : List ℕ) → AtMost (IsPrinted print Good) n bytes → (xs : List X) × AllByRecursion Good xs × (length xs ≤ n) × (bytes ≡ flat_map print xs)
things print Good zero bytes h = ([], tt, omega arith, h)
things print Good (suc n) bytes (inl h) = ([], tt, omega arith, h)
things print Good (suc n) bytes (inr h) =
    let first = h.is_front in
    let later = things print Good n h.back h.is_back in
    let joined : bytes ≡ print first.0 ++ flat_map print later.0 =
    h.is ∙ ap (λ (w : List ℕ). w ++ h.back) first.2 ∙ ap (λ (w : List ℕ). print first.0 ++ w) later.3 in
    (first.0 ∷ later.0, (first.1, later.1), omega (arith, later.2), joined)

pub pieces : {X : Type 0} (print : X → List ℕ) (Good : X → Type 0) (n : ℕ) (bytes : List ℕ) (xs : List X) → AllByRecursion Good xs → length xs ≤ n → bytes ≡ flat_map print xs → AtMost (IsPrinted print Good) n bytes
pieces print Good zero bytes [] good few is = is
pieces print Good zero bytes (x ∷ xs) good few is = absurd (omega arith)
pieces print Good (suc n) bytes [] good few is = inl is
pieces print Good (suc n) bytes (x ∷ xs) good few is =
    inr (record { front = print x; back = flat_map print xs; is = is; is_front = (x, good.0, refl); is_back = pieces print Good n (flat_map print xs) xs good.1 (omega arith) refl })
