-- Inputs, each with its count.
use Rattle.std.proofs.Common.{◌≡◌, ◌∙◌, ℕ, ◌<◌, ◌≤◌, zero, suc, List, [], ◌∷◌, refl, length, get_or, sym, ap, arith, Some}
use Rattle.std.specs.List.{zip, slice_get}
use Rattle.std.proofs.lemmas.Option.{get_or_from_slice_get}
use Rattle.std.proofs.lemmas.Slice.Zip.{length-zip, get_or-zip}

pub sources_inside : {A B : Type 0} (xs : List A) (ys : List B) (k : ℕ) → length ys ≡ length xs → k < length ys → k < length (zip xs ys)
sources_inside xs ys k same inside = omega (arith, length-zip xs ys)

pub sources_within : {A B : Type 0} (xs : List A) (ys : List B) (k : ℕ) → length ys ≤ k → length (zip xs ys) ≤ k
sources_within xs ys k past = omega (arith, length-zip xs ys)

pub other_default : {X : Type 0} (xs : List X) (k : ℕ) (d e : X) → k < length xs → get_or xs k d ≡ get_or xs k e
other_default [] k d e inside = absurd (omega (arith, inside))
other_default (x ∷ xs) zero d e inside = refl
other_default (x ∷ xs) (suc k) d e inside = other_default xs k d e (omega (arith, inside))

pub source_at : {A B : Type 0} (xs : List A) (ys : List B) (k : ℕ) (x : A) (d : B) → length ys ≡ length xs → k < length ys → slice_get xs k ≡ Some x → (x, get_or ys k d) ≡ get_or (zip xs ys) k (x, get_or ys k d)
source_at {A} {B} xs ys k x d same inside is =
    ap (λ (a : A). let p : A × B = (a, get_or ys k d) in p) (sym (get_or_from_slice_get xs k x x is))
    ∙ ap (λ (b : B). let p : A × B = (get_or xs k x, b) in p) (other_default ys k d (get_or ys k d) inside)
    ∙ sym (get_or-zip xs ys k (x, get_or ys k d) (omega arith) inside)
