-- Where the bytes of a dimension are in a packed point.
use Rattle.std.proofs.Common.{◌≡◌, ℕ, zero, suc, ◌+◌, ◌-◌, ◌<◌, ◌≤◌, List, [], ◌∷◌, length, get_or, map, set, take, drop, inl, inr, refl, sym, ap, ◌∙◌, arith, add-zero, add-one}
use Rattle.std.specs.List.{sum_by}
use Rattle.std.proofs.lemmas.List.{length-take, length-drop, length-set, get_or-map, get_or-set_same, get_or-set_other}
use Rattle.std.proofs.lemmas.Bool.{cases_eq}
use Rattle.std.proofs.lemmas.List.Sums.{sum_by-cons, sum_by-take-le}
use Rattle.ept_point.specs.Dimensions.{Dimension, X, dimensions, packed_width, pieces}
use Rattle.ept_filter.specs.Dims.{count_of_dims, width_of}
use Rattle.ept_filter.specs.Layout.{part, start_of, AreStarts}

abbrev width_at : List Dimension → ℕ → ℕ
width_at ds k = (get_or ds k X).width

abbrev widths_before : ℕ → List Dimension → ℕ
widths_before k ds = sum_by (λ (d : Dimension). d.width) (take k ds)

piece-at : (at : ℕ) (ds : List Dimension) (bytes : List ℕ) (k : ℕ) → k < length ds → get_or (map (λ (piece : Dimension × List ℕ). piece.1) (pieces at ds bytes)) k [] ≡ take (width_at ds k) (drop (at + widths_before k ds) bytes)
piece-at at [] bytes k inside = absurd (omega arith)
piece-at at (d ∷ ds) bytes zero inside = ap (λ (n : ℕ). take d.width (drop n bytes)) (sym (add-zero at))
piece-at at (d ∷ ds) bytes (suc k) inside =
    let place : at + d.width + widths_before k ds ≡ at + widths_before (suc k) (d ∷ ds) = omega (arith, sum_by-cons (λ (e : Dimension). e.width) d (take k ds)) in
    piece-at (at + d.width) ds bytes k (omega arith) ∙ ap (λ (n : ℕ). take (width_at ds k) (drop n bytes)) place

before-suc : (k : ℕ) (ds : List Dimension) → k < length ds → widths_before (suc k) ds ≡ widths_before k ds + width_at ds k
before-suc k [] inside = absurd (omega arith)
before-suc zero (d ∷ ds) inside = omega arith
before-suc (suc k) (d ∷ ds) inside =
    omega (arith, before-suc k ds (omega arith), sum_by-cons (λ (e : Dimension). e.width) d (take (suc k) ds), sum_by-cons (λ (e : Dimension). e.width) d (take k ds))

pub start-zero : start_of 0 ≡ 0
unfolding start_of
start-zero = refl

pub start-suc : (dim : ℕ) → dim < count_of_dims → start_of (dim + 1) ≡ start_of dim + width_of dim
unfolding start_of
start-suc dim inside = omega (arith, ap (λ (k : ℕ). widths_before k dimensions) (add-one dim), before-suc dim dimensions inside, get_or-map (λ (d : Dimension). d.width) dimensions dim X 0 inside)

pub start-most : (dim : ℕ) → start_of dim ≤ packed_width
unfolding start_of
start-most dim = sum_by-take-le (λ (d : Dimension). d.width) dimensions dim

start-is : (dim : ℕ) → start_of dim ≡ widths_before dim dimensions
unfolding start_of
start-is dim = refl

part-at : (bytes : List ℕ) (dim : ℕ) → dim < count_of_dims → part bytes dim ≡ take (width_at dimensions dim) (drop (0 + widths_before dim dimensions) bytes)
unfolding part
part-at bytes dim inside = piece-at 0 dimensions bytes dim inside

pub part-is : (bytes : List ℕ) (dim begin end : ℕ) → dim < count_of_dims → begin ≡ start_of dim → end ≡ start_of (dim + 1) → take (end - begin) (drop begin bytes) ≡ part bytes dim
part-is bytes dim begin end inside from to =
    let width : end - begin ≡ width_at dimensions dim = omega (arith, start-suc dim inside, get_or-map (λ (d : Dimension). d.width) dimensions dim X 0 inside) in
    let place : begin ≡ 0 + widths_before dim dimensions = omega (arith, start-is dim) in
    rw (width, place) (sym (part-at bytes dim inside))

-- a dimension of a packed point has its width
pub length-part : (bytes : List ℕ) (dim : ℕ) → dim < count_of_dims → length bytes ≡ packed_width → length (part bytes dim) ≡ width_of dim
length-part bytes dim inside len =
    ap length (sym (part-is bytes dim (start_of dim) (start_of (dim + 1)) inside refl refl)) ∙ omega (arith, length-take (start_of (dim + 1) - start_of dim) (drop (start_of dim) bytes), length-drop (start_of dim) bytes, start-suc dim inside, start-most (dim + 1), len)

-- two starts of a layout
pub starts-read : (starts : List ℕ) (dim at : ℕ) → AreStarts starts → at ≡ dim → dim < count_of_dims → (get_or starts at 0 ≡ start_of dim) × (get_or starts (at + 1) 0 ≡ start_of (dim + 1))
starts-read starts dim at are same inside =
    rw same (are.each dim (omega arith), are.each (dim + 1) (omega arith))

-- one more start
pub starts-more : (starts : List ℕ) (dim width : ℕ) → length starts ≡ count_of_dims + 1 → dim < count_of_dims → width ≡ width_of dim → ((k : ℕ) → k ≤ dim → get_or starts k 0 ≡ start_of k) → (length (set starts (dim + 1) (get_or starts dim 0 + width)) ≡ count_of_dims + 1) × ((k : ℕ) → k ≤ dim + 1 → get_or (set starts (dim + 1) (get_or starts dim 0 + width)) k 0 ≡ start_of k)
starts-more starts dim width array inside is before = (
  length-set starts (dim + 1) (get_or starts dim 0 + width) ∙ array,
  λ k most. elim (cases_eq k (dim + 1)) [
    | inl same ↦ rw same (get_or-set_same starts (dim + 1) (get_or starts dim 0 + width) 0 (omega arith) ∙ omega (arith, before dim (omega arith), start-suc dim inside))
    | inr other ↦ get_or-set_other starts (dim + 1) k (get_or starts dim 0 + width) 0 other ∙ before k (omega arith)
  ],
)
