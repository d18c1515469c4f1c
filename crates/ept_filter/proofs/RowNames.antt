-- The names of the dimensions differ.
use Rattle.std.proofs.Common.{◌∙◌, ◌≡◌, ◌≢◌, ℕ, zero, suc, ◌<◌, List, [], ◌∷◌, length, get_or, map, Bool, true, false, ◌||◌, ◌&&◌, not, refl, sym, ap, arith}
use Rattle.std.specs.Str.{bytes_eq}
use Rattle.std.proofs.lemmas.Bool.{false≢true}
use Rattle.std.proofs.lemmas.Slice.Eq.{bytes_eq-Decides}
use Rattle.ept_point.specs.Dimensions.{Dimension, dimensions}
use Rattle.ept_filter.specs.Dims.{count_of_dims, name_of}

is_among : List ℕ → List (List ℕ) → Bool
is_among x [] = false
is_among x (y ∷ ys) = bytes_eq x y || is_among x ys

all_differ : List (List ℕ) → Bool
all_differ [] = true
all_differ (x ∷ xs) = not (is_among x xs) && all_differ xs

same-true : (x y : List ℕ) → x ≡ y → bytes_eq x y ≡ true
same-true x y e = (bytes_eq-Decides x y).1 e

or-true : (a b : Bool) → b ≡ true → (a || b) ≡ true
or-true true b e = refl
or-true false b e = e

and-parts : (a b : Bool) → (a && b) ≡ true → (a ≡ true) × (b ≡ true)
and-parts true b e = (refl, e)
and-parts false b e = absurd (false≢true e)

among-at : (x : List ℕ) (xs : List (List ℕ)) (k : ℕ) → k < length xs → x ≡ get_or xs k [] → is_among x xs ≡ true
unfolding is_among
among-at x [] k inside e = absurd (omega arith)
among-at x (y ∷ ys) zero inside e = rw (same-true x y e) refl
among-at x (y ∷ ys) (suc k) inside e = or-true (bytes_eq x y) (is_among x ys) (among-at x ys k (omega arith) e)

not-true : (a : Bool) → not a ≡ true → a ≡ true → ⊥
not-true true e f = false≢true e
not-true false e f = false≢true f

same-place : (xs : List (List ℕ)) → all_differ xs ≡ true → (i k : ℕ) → i < length xs → k < length xs → get_or xs i [] ≡ get_or xs k [] → i ≡ k
unfolding all_differ
same-place [] d i k hi hk e = absurd (omega arith)
same-place (x ∷ xs) d zero zero hi hk e = refl
same-place (x ∷ xs) d zero (suc k) hi hk e =
    absurd (not-true (is_among x xs) (and-parts (not (is_among x xs)) (all_differ xs) d).0 (among-at x xs k (omega arith) e))
same-place (x ∷ xs) d (suc i) zero hi hk e =
    absurd (not-true (is_among x xs) (and-parts (not (is_among x xs)) (all_differ xs) d).0 (among-at x xs i (omega arith) (sym e)))
same-place (x ∷ xs) d (suc i) (suc k) hi hk e =
    ap suc (same-place xs (and-parts (not (is_among x xs)) (all_differ xs) d).1 i k (omega arith) (omega arith) e)

names_differ : all_differ (map (λ (d : Dimension). d.name) dimensions) ≡ true
unfolding all_differ is_among
names_differ = refl

pub one-name : (i k : ℕ) → i < count_of_dims → k < count_of_dims → name_of i ≡ name_of k → i ≡ k
one-name i k hi hk e = same-place (map (λ (d : Dimension). d.name) dimensions) names_differ i k hi hk e

-- no name is a dash
named-dash : is_among (45 ∷ []) (map (λ (d : Dimension). d.name) dimensions) ≡ false
unfolding is_among
named-dash = refl

pub no-dash : (dim : ℕ) → dim < count_of_dims → name_of dim ≢ 45 ∷ []
no-dash dim inside e =
    false≢true (sym named-dash ∙ among-at (45 ∷ []) (map (λ (d : Dimension). d.name) dimensions) dim inside (sym e))
