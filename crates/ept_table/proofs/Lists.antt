-- The places of lists.
use Rattle.std.proofs.Common.{◌≡◌, ◌∙◌, ℕ, zero, suc, ◌+◌, ◌<◌, ◌⊎◌, inl, inr, List, [], ◌∷◌, ◌++◌, length, get_or, take, drop, set, refl, sym, ap, subst, arith}
use Rattle.std.specs.Prelude.{sum_by}
use Rattle.std.specs.List.{flat_map}
use Rattle.std.specs.List.Sorted.{IsPermutation}
use Rattle.std.proofs.Math.Seq.{split_at}
use Rattle.std.proofs.lemmas.List.{set_split, append_assoc, length-append}
use Rattle.std.proofs.lemmas.List.Concat.{flat_map-append, flat_map-cons}
use Rattle.std.proofs.lemmas.List.Sums.{sum_by-set}
use Rattle.std.proofs.lemmas.List.Sorted.{IsPermutation-trans, IsPermutation-append_comm, IsPermutation-append_left, IsPermutation-append_right}
use Rattle.ept_core.proofs.NodeMap.{IsPermutation-past}
use Rattle.ept_sample.specs.Members.{IsMember}
use Rattle.ept_sample.proofs.Members.{IsMember-flat_map, member-flat_map}
use Rattle.ept_table.specs.At.{LiesAt, At}

-- ---- numbers

pub same_or_not : (i j : ℕ) → (i ≡ j) ⊎ (i ≡ j → ⊥)
same_or_not zero zero = inl refl
same_or_not zero (suc j) = inr (λ e. omega (arith, e))
same_or_not (suc i) zero = inr (λ e. omega (arith, e))
same_or_not (suc i) (suc j) =
    elim (same_or_not i j) [ inl e ↦ inl (ap suc e) | inr n ↦ inr (λ e. n (omega (arith, e))) ]

-- ---- one place

same_there : {X : Type 0} (xs : List X) (i : ℕ) (x y : X) → LiesAt xs i x → LiesAt xs i y → x ≡ y
unfolding LiesAt
same_there [] i x y a b = absurd a
same_there (z ∷ zs) zero x y a b = sym a ∙ b
same_there (z ∷ zs) (suc i) x y a b = same_there zs i x y a b

pub at-same : {X : Type 0} {xs : List X} {i : ℕ} {x y : X} → At xs i x → At xs i y → x ≡ y
at-same {X} {xs} {i} {x} {y} a b = same_there xs i x y a.lies b.lies

below_length : {X : Type 0} (xs : List X) (i : ℕ) (x : X) → LiesAt xs i x → i < length xs
unfolding LiesAt
below_length [] i x a = absurd a
below_length (z ∷ zs) zero x a = omega arith
below_length (z ∷ zs) (suc i) x a = omega (arith, below_length zs i x a)

pub at-below : {X : Type 0} {xs : List X} {i : ℕ} {x : X} → At xs i x → i < length xs
at-below {X} {xs} {i} {x} a = below_length xs i x a.lies

some_there : {X : Type 0} (xs : List X) (i : ℕ) → i < length xs → (x : X) × LiesAt xs i x
unfolding LiesAt
some_there [] i low = absurd (omega (arith, low))
some_there (z ∷ zs) zero low = (z, refl)
some_there (z ∷ zs) (suc i) low = some_there zs i (omega (arith, low))

pub below-at : {X : Type 0} (xs : List X) (i : ℕ) → i < length xs → (x : X) × At xs i x
below-at xs i low = let a = some_there xs i low in (a.0, record { lies = a.1 })

pub at-zero : {X : Type 0} (x : X) (xs : List X) → At (x ∷ xs) 0 x
unfolding LiesAt
at-zero x xs = record { lies = refl }

pub at-next : {X : Type 0} (y : X) (xs : List X) (i : ℕ) (x : X) → At xs i x → At (y ∷ xs) (suc i) x
unfolding LiesAt
at-next y xs i x a = record { lies = a.lies }

pub at-rest : {X : Type 0} (y : X) (xs : List X) (i : ℕ) (x : X) → At (y ∷ xs) (suc i) x → At xs i x
unfolding LiesAt
at-rest y xs i x a = record { lies = a.lies }

pub at-head : {X : Type 0} {y : X} {xs : List X} {x : X} → At (y ∷ xs) 0 x → y ≡ x
unfolding LiesAt
at-head a = a.lies

pub nothing-at : {X : Type 0} {i : ℕ} {x : X} → At [] i x → ⊥
unfolding LiesAt
nothing-at a = a.lies

-- ---- members

pub at-member : {X : Type 0} (xs : List X) (i : ℕ) (x : X) → At xs i x → IsMember x xs
at-member [] i x a = absurd (nothing-at a)
at-member (z ∷ zs) zero x a = inl (at-head a)
at-member (z ∷ zs) (suc i) x a = inr (at-member zs i x (at-rest z zs i x a))

pub member-at : {X : Type 0} (xs : List X) (x : X) → IsMember x xs → (i : ℕ) × At xs i x
member-at [] x m = absurd m
member-at {X} (z ∷ zs) x (inl e) = (0, subst (λ (w : X). At (z ∷ zs) 0 w) e (at-zero z zs))
member-at (z ∷ zs) x (inr m) = let r = member-at zs x m in (suc r.0, at-next z zs r.0 x r.1)

-- ---- a place that is written

set_same : {X : Type 0} (xs : List X) (i : ℕ) (y : X) → i < length xs → LiesAt (set xs i y) i y
unfolding LiesAt
set_same [] i y low = absurd (omega (arith, low))
set_same (z ∷ zs) zero y low = refl
set_same (z ∷ zs) (suc i) y low = set_same zs i y (omega (arith, low))

pub at-set : {X : Type 0} (xs : List X) (i : ℕ) (y : X) → i < length xs → At (set xs i y) i y
at-set xs i y low = record { lies = set_same xs i y low }

set_other : {X : Type 0} (xs : List X) (i j : ℕ) (x y : X) → LiesAt xs j x → (j ≡ i → ⊥) → LiesAt (set xs i y) j x
unfolding LiesAt
set_other [] i j x y a apart = absurd a
set_other (z ∷ zs) zero zero x y a apart = absurd (apart refl)
set_other (z ∷ zs) zero (suc j) x y a apart = a
set_other (z ∷ zs) (suc i) zero x y a apart = a
set_other (z ∷ zs) (suc i) (suc j) x y a apart = set_other zs i j x y a (λ e. apart (ap suc e))

pub at-other : {X : Type 0} {xs : List X} (i : ℕ) {j : ℕ} {x : X} (y : X) → At xs j x → (j ≡ i → ⊥) → At (set xs i y) j x
at-other {X} {xs} i {j} {x} y a apart = record { lies = set_other xs i j x y a.lies apart }

set_cases : {X : Type 0} (xs : List X) (i j : ℕ) (x y : X) → LiesAt (set xs i y) j x → ((j ≡ i) × (y ≡ x)) ⊎ ((j ≡ i → ⊥) × LiesAt xs j x)
unfolding LiesAt
set_cases [] i j x y a = absurd a
set_cases (z ∷ zs) zero zero x y a = inl (refl, a)
set_cases (z ∷ zs) zero (suc j) x y a = inr (λ e. omega (arith, e), a)
set_cases (z ∷ zs) (suc i) zero x y a = inr (λ e. omega (arith, e), a)
set_cases (z ∷ zs) (suc i) (suc j) x y a =
    elim (set_cases zs i j x y a) [ inl h ↦ inl (ap suc h.0, h.1) | inr h ↦ inr (λ e. h.0 (omega (arith, e)), h.1) ]

-- what is at a place of the written list is what was written, or was there
pub set-at : {X : Type 0} (xs : List X) (i : ℕ) {j : ℕ} {x : X} (y : X) → At (set xs i y) j x → ((j ≡ i) × (y ≡ x)) ⊎ ((j ≡ i → ⊥) × At xs j x)
set-at xs i {j} {x} y a =
    elim (set_cases xs i j x y a.lies) [ inl h ↦ inl h | inr h ↦ inr (h.0, record { lies = h.1 }) ]

pub length-set : {X : Type 0} (xs : List X) (i : ℕ) (y : X) → length (set xs i y) ≡ length xs
length-set [] i y = refl
length-set (z ∷ zs) zero y = refl
length-set (z ∷ zs) (suc i) y = ap suc (length-set zs i y)

same_again : {X : Type 0} (xs : List X) (i : ℕ) (x : X) → LiesAt xs i x → set xs i x ≡ xs
unfolding LiesAt
same_again [] i x a = refl
same_again {X} (z ∷ zs) zero x a = ap (λ (w : X). w ∷ zs) (sym a)
same_again {X} (z ∷ zs) (suc i) x a = ap (λ (w : List X). z ∷ w) (same_again zs i x a)

-- what is there, written again
pub set-again : {X : Type 0} {xs : List X} {i : ℕ} {x : X} → At xs i x → set xs i x ≡ xs
set-again {X} {xs} {i} {x} a = same_again xs i x a.lies

-- ---- a place after the others

append_left : {X : Type 0} (xs ys : List X) (i : ℕ) (x : X) → LiesAt xs i x → LiesAt (xs ++ ys) i x
unfolding LiesAt
append_left [] ys i x a = absurd a
append_left (z ∷ zs) ys zero x a = a
append_left (z ∷ zs) ys (suc i) x a = append_left zs ys i x a

pub at-left : {X : Type 0} {xs : List X} (ys : List X) {i : ℕ} {x : X} → At xs i x → At (xs ++ ys) i x
at-left {X} {xs} ys {i} {x} a = record { lies = append_left xs ys i x a.lies }

append_end : {X : Type 0} (xs : List X) (y : X) → LiesAt (xs ++ y ∷ []) (length xs) y
unfolding LiesAt
append_end [] y = refl
append_end (z ∷ zs) y = append_end zs y

pub at-end : {X : Type 0} (xs : List X) (y : X) → At (xs ++ y ∷ []) (length xs) y
at-end xs y = record { lies = append_end xs y }

append_cases : {X : Type 0} (xs : List X) (y : X) (j : ℕ) (x : X) → LiesAt (xs ++ y ∷ []) j x → LiesAt xs j x ⊎ ((j ≡ length xs) × (y ≡ x))
unfolding LiesAt
append_cases [] y zero x a = inr (refl, a)
append_cases [] y (suc j) x a = absurd a
append_cases (z ∷ zs) y zero x a = inl a
append_cases (z ∷ zs) y (suc j) x a =
    elim (append_cases zs y j x a) [ inl h ↦ inl h | inr h ↦ inr (ap suc h.0, h.1) ]

pub end-at : {X : Type 0} (xs : List X) (y : X) {j : ℕ} {x : X} → At (xs ++ y ∷ []) j x → At xs j x ⊎ ((j ≡ length xs) × (y ≡ x))
end-at xs y {j} {x} a =
    elim (append_cases xs y j x a.lies) [ inl h ↦ inl (record { lies = h }) | inr h ↦ inr h ]

-- ---- the list, cut at a place

get_there : {X : Type 0} (xs : List X) (i : ℕ) (x d : X) → LiesAt xs i x → get_or xs i d ≡ x
unfolding LiesAt
get_there [] i x d a = absurd a
get_there (z ∷ zs) zero x d a = a
get_there (z ∷ zs) (suc i) x d a = get_there zs i x d a

pub at-get : {X : Type 0} {xs : List X} {i : ℕ} {x : X} (d : X) → At xs i x → get_or xs i d ≡ x
at-get {X} {xs} {i} {x} d a = get_there xs i x d a.lies

pub at-cut : {X : Type 0} {xs : List X} {i : ℕ} {x : X} → At xs i x → xs ≡ take i xs ++ x ∷ drop (suc i) xs
at-cut {X} {xs} {i} {x} a =
    split_at xs i x (at-below a) ∙ ap (λ (w : X). take i xs ++ w ∷ drop (suc i) xs) (at-get x a)

pub set-cut : {X : Type 0} {xs : List X} {i : ℕ} {x : X} (y : X) → At xs i x → set xs i y ≡ take i xs ++ y ∷ drop (suc i) xs
set-cut {X} {xs} {i} {x} y a = set_split xs i y (at-below a)

-- ---- lists of lists

pub flat-at : {X Y : Type 0} (f : X → List Y) {xs : List X} {i : ℕ} {x : X} → At xs i x → flat_map f xs ≡ flat_map f (take i xs) ++ (f x ++ flat_map f (drop (suc i) xs))
flat-at {X} {Y} f {xs} {i} {x} a =
    ap (λ (w : List X). flat_map f w) (at-cut a)
    ∙ (flat_map-append f (take i xs) (x ∷ drop (suc i) xs) ∙ ap (λ (w : List Y). flat_map f (take i xs) ++ w) (flat_map-cons f x (drop (suc i) xs)))

pub flat-set : {X Y : Type 0} (f : X → List Y) {xs : List X} {i : ℕ} {x : X} (y : X) → At xs i x → flat_map f (set xs i y) ≡ flat_map f (take i xs) ++ (f y ++ flat_map f (drop (suc i) xs))
flat-set {X} {Y} f {xs} {i} {x} y a =
    ap (λ (w : List X). flat_map f w) (set-cut y a)
    ∙ (flat_map-append f (take i xs) (y ∷ drop (suc i) xs) ∙ ap (λ (w : List Y). flat_map f (take i xs) ++ w) (flat_map-cons f y (drop (suc i) xs)))

-- a list in place of one with the same items
pub flat-same : {X Y : Type 0} (f : X → List Y) {xs : List X} {i : ℕ} {x : X} (y : X) → At xs i x → IsPermutation (f x) (f y) → IsPermutation (flat_map f xs) (flat_map f (set xs i y))
flat-same {X} {Y} f {xs} {i} {x} y a same =
    let front : List Y = flat_map f (take i xs) in
    let back : List Y = flat_map f (drop (suc i) xs) in
    subst (λ (w : List Y). IsPermutation w (flat_map f (set xs i y))) (sym (flat-at f a)) (subst (λ (w : List Y). IsPermutation (front ++ (f x ++ back)) w) (sym (flat-set f y a)) (IsPermutation-append_right front (f x ++ back) (f y ++ back) (IsPermutation-append_left back (f x) (f y) same)))

-- one of the lists, and the others
pub flat-out : {X Y : Type 0} (f : X → List Y) {xs : List X} {i : ℕ} {x : X} (e : X) → At xs i x → f e ≡ [] → IsPermutation (flat_map f xs) (f x ++ flat_map f (set xs i e))
flat-out {X} {Y} f {xs} {i} {x} e a none =
    let front : List Y = flat_map f (take i xs) in
    let back : List Y = flat_map f (drop (suc i) xs) in
    let rest : flat_map f (set xs i e) ≡ front ++ back = flat-set f e a ∙ ap (λ (w : List Y). front ++ (w ++ back)) none in
    subst (λ (w : List Y). IsPermutation w (f x ++ flat_map f (set xs i e))) (sym (flat-at f a)) (subst (λ (w : List Y). IsPermutation (front ++ (f x ++ back)) (f x ++ w)) (sym rest) (IsPermutation-past front (f x) back))

-- ---- two places that are written

pub set-set : {X : Type 0} (xs : List X) (i : ℕ) (x y : X) → set (set xs i x) i y ≡ set xs i y
set-set [] i x y = refl
set-set (z ∷ zs) zero x y = refl
set-set {X} (z ∷ zs) (suc i) x y = ap (λ (w : List X). z ∷ w) (set-set zs i x y)

pub set-apart : {X : Type 0} (xs : List X) (i j : ℕ) (x y : X) → (j ≡ i → ⊥) → set (set xs i x) j y ≡ set (set xs j y) i x
set-apart [] i j x y apart = refl
set-apart (z ∷ zs) zero zero x y apart = absurd (apart refl)
set-apart (z ∷ zs) zero (suc j) x y apart = refl
set-apart (z ∷ zs) (suc i) zero x y apart = refl
set-apart {X} (z ∷ zs) (suc i) (suc j) x y apart =
    ap (λ (w : List X). z ∷ w) (set-apart zs i j x y (λ e. apart (ap suc e)))

-- ---- sums

pub sum-set : {X : Type 0} (f : X → ℕ) {xs : List X} {i : ℕ} {x : X} (y : X) → At xs i x → sum_by f (set xs i y) + f x ≡ sum_by f xs + f y
sum-set {X} f {xs} {i} {x} y a =
    subst (λ (w : X). sum_by f (set xs i y) + f w ≡ sum_by f xs + f y) (at-get x a) (sum_by-set f xs i y x (at-below a))

-- ---- lists of lists, with one that changes

-- what is in one of the lists afterwards is in the one written, or was there
pub flat-cases : {X Y : Type 0} (f : X → List Y) (xs : List X) (i : ℕ) (w : X) (y : Y) → IsMember y (flat_map f (set xs i w)) → IsMember y (f w) ⊎ IsMember y (flat_map f xs)
flat-cases {X} {Y} f xs i w y m =
    let r = member-flat_map f y (set xs i w) m in
    let a = member-at (set xs i w) r.0 r.1 in
    elim (set-at xs i w a.1) [
      | inl s ↦ inl (subst (λ (z : X). IsMember y (f z)) (sym s.1) r.2)
      | inr o ↦ inr (IsMember-flat_map f r.0 y xs (at-member xs a.0 r.0 o.1) r.2)
    ]

-- what was in one of the lists is there afterwards, if the written list keeps the items of the one before it
pub flat-stays : {X Y : Type 0} (f : X → List Y) {xs : List X} {i : ℕ} {x : X} (w : X) (y : Y) → At xs i x → (IsMember y (f x) → IsMember y (f w)) → IsMember y (flat_map f xs) → IsMember y (flat_map f (set xs i w))
flat-stays {X} {Y} f {xs} {i} {x} w y a change m =
    let r = member-flat_map f y xs m in
    let b = member-at xs r.0 r.1 in
    elim (same_or_not b.0 i) [
      | inl same ↦
          let is : r.0 ≡ x = at-same (subst (λ (k : ℕ). At xs k r.0) same b.1) a in
          IsMember-flat_map f w y (set xs i w) (at-member (set xs i w) i w (at-set xs i w (at-below a))) (change (subst (λ (z : X). IsMember y (f z)) is r.2))
      | inr apart ↦ IsMember-flat_map f r.0 y (set xs i w) (at-member (set xs i w) b.0 r.0 (at-other i w b.1 apart)) r.2
    ]

pub between : {Y : Type 0} (xs ys zs : List Y) → IsPermutation ((xs ++ ys) ++ zs) ((xs ++ zs) ++ ys)
between {Y} xs ys zs =
    let P : List Y → List Y → Type 0 = λ a b. IsPermutation a b in
    subst (λ (w : List Y). P w ((xs ++ zs) ++ ys)) (sym (append_assoc xs ys zs)) (subst (λ (w : List Y). P (xs ++ (ys ++ zs)) w) (sym (append_assoc xs zs ys)) (IsPermutation-append_right xs (ys ++ zs) (zs ++ ys) (IsPermutation-append_comm ys zs)))

-- one of the lists has more
pub flat-more : {X Y : Type 0} (f : X → List Y) {xs : List X} {i : ℕ} {x : X} (y : X) (zs : List Y) → At xs i x → IsPermutation (f x ++ zs) (f y) → IsPermutation (flat_map f xs ++ zs) (flat_map f (set xs i y))
flat-more {X} {Y} f {xs} {i} {x} y zs a more =
    let front : List Y = flat_map f (take i xs) in
    let back : List Y = flat_map f (drop (suc i) xs) in
    let P : List Y → List Y → Type 0 = λ a b. IsPermutation a b in
    let inner : P ((f x ++ back) ++ zs) (f y ++ back) = IsPermutation-trans ((f x ++ back) ++ zs) ((f x ++ zs) ++ back) (f y ++ back) (between (f x) back zs) (IsPermutation-append_left back (f x ++ zs) (f y) more) in
    let outer : P (front ++ ((f x ++ back) ++ zs)) (front ++ (f y ++ back)) = IsPermutation-append_right front ((f x ++ back) ++ zs) (f y ++ back) inner in
    let old : flat_map f xs ++ zs ≡ front ++ ((f x ++ back) ++ zs) = ap (λ (w : List Y). w ++ zs) (flat-at f a) ∙ append_assoc front (f x ++ back) zs in
    subst (λ (w : List Y). P w (flat_map f (set xs i y))) (sym old) (subst (λ (w : List Y). P (front ++ ((f x ++ back) ++ zs)) w) (sym (flat-set f y a)) outer)

-- their lengths
pub flat-length : {X Y : Type 0} (f : X → List Y) {xs : List X} {i : ℕ} {x : X} (y : X) → At xs i x → length (flat_map f (set xs i y)) + length (f x) ≡ length (flat_map f xs) + length (f y)
flat-length {X} {Y} f {xs} {i} {x} y a =
    let front : List Y = flat_map f (take i xs) in
    let back : List Y = flat_map f (drop (suc i) xs) in
    let new : length (flat_map f (set xs i y)) ≡ length front + (length (f y) + length back) = ap (λ (w : List Y). length w) (flat-set f y a) ∙ (length-append front (f y ++ back) ∙ ap (λ (n : ℕ). length front + n) (length-append (f y) back)) in
    let old : length (flat_map f xs) ≡ length front + (length (f x) + length back) = ap (λ (w : List Y). length w) (flat-at f a) ∙ (length-append front (f x ++ back) ∙ ap (λ (n : ℕ). length front + n) (length-append (f x) back)) in
    omega (arith, new, old)
