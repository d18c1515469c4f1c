-- Points have one output.
use Rattle.std.proofs.Common.{◌≡◌, ◌∙◌, ℕ, suc, ◌<◌, List, [], ◌∷◌, ◌++◌, length, get_or, refl, sym, ap, subst, arith, codes, ℤ, Option, Some, None}
use Rattle.std.specs.Prelude.{Any, unwrap_or}
use Rattle.std.proofs.lemmas.Int.{ints}
use Rattle.std.specs.List.{flat_map, join_by, zip}
use Rattle.ept_point.specs.declared.point.Point.{Point}
use Rattle.ept_space.specs.declared.bounds.Bounds.{Bounds}
use Rattle.ept_space.specs.Place.{Place, coordinate}
use Rattle.ept_space.specs.ClosedBox.{IsBetween}
use Rattle.ept_config.specs.declared.input.Input.{Input}
use Rattle.ept_config.specs.declared.kept.Kept.{Kept}
use Rattle.ept_config.specs.declared.source_count.SourceCount.{SourceCount}
use Rattle.ept_config.specs.Extents.{IsSpanOf, IsExtentOf, HasExtent}
use Rattle.ept_config.specs.Counts.{IsCountOf}
use Rattle.ept_meta.specs.Units.{coordinate_text, corner_text, box_text, bounds_text}
use Rattle.ept_meta.specs.EptText.{place_text, ept_text}
use Rattle.ept_meta.specs.ManifestText.{extent_text, source_text, manifest_text}
use Rattle.ept_meta.specs.Output.{File, output, points_from, AreCountsOf, IsOutput}

-- ---- points have one extent

module _ (axis : Point → ℤ) (points : List Point) (a b c d : ℤ) (first : IsSpanOf axis points a b) (second : IsSpanOf axis points c d) where
  -- a value that one of the points has lies in the other span
  met : (e f v : ℤ) → IsSpanOf axis points e f → Any (λ p. axis p ≡ v) points → IsBetween e f v
  met e f v span some = subst (IsBetween e f) some.4 (subst (λ p. IsBetween e f (axis p)) some.3 (span.within some.0 some.1 some.2))

  least_once : a ≡ c
  least_once = omega (arith, ints, (met c d a second first.least_is).0, (met a b c first second.least_is).0)

  greatest_once : b ≡ d
  greatest_once = omega (arith, ints, (met c d b second first.greatest_is).1, (met a b d first second.greatest_is).1)

-- places with the same coordinates have the same text
same_coordinate : (kept : Kept) (a b : Place) (axis : ℕ) → coordinate a axis ≡ coordinate b axis → coordinate_text kept a axis ≡ coordinate_text kept b axis
unfolding coordinate_text
same_coordinate kept a b axis same = rw same

same_corner : (kept : Kept) (a b : Place) → coordinate a 0 ≡ coordinate b 0 → coordinate a 1 ≡ coordinate b 1 → coordinate a 2 ≡ coordinate b 2 → corner_text kept a ≡ corner_text kept b
unfolding corner_text
same_corner kept a b x y z = rw (same_coordinate kept a b 0 x, same_coordinate kept a b 1 y, same_coordinate kept a b 2 z)

same_extent : (kept : Kept) (points : List Point) (a b : Bounds) → IsExtentOf points a → IsExtentOf points b → bounds_text kept a ≡ bounds_text kept b
unfolding bounds_text box_text
same_extent kept points a b is_a is_b =
    let least = same_corner kept a.min b.min (least_once (λ p. p.x) points _ _ _ _ is_a.x is_b.x) (least_once (λ p. p.y) points _ _ _ _ is_a.y is_b.y) (least_once (λ p. p.z) points _ _ _ _ is_a.z is_b.z) in
    let greatest = same_corner kept a.max b.max (greatest_once (λ p. p.x) points _ _ _ _ is_a.x is_b.x) (greatest_once (λ p. p.y) points _ _ _ _ is_a.y is_b.y) (greatest_once (λ p. p.z) points _ _ _ _ is_a.z is_b.z) in
    rw (least, greatest)

-- a list with an extent is not empty
extent_of_none : (points : List Point) (extent : Bounds) → points ≡ [] → IsExtentOf points extent → ⊥
extent_of_none points extent none is = let some = is.x.least_is in let below : some.0 < length points = some.2 in absurd (omega (arith, below, ap length none))

-- so their extents have the same text, and so has the extent of all points in the metadata
same_extent_text : (kept : Kept) (points : List Point) (a b : Option Bounds) → HasExtent points a → HasExtent points b → extent_text kept a ≡ extent_text kept b
same_extent_text kept points None None is_a is_b = refl
same_extent_text kept points None (Some b) is_a is_b = absurd (extent_of_none points b is_a is_b)
same_extent_text kept points (Some a) None is_a is_b = absurd (extent_of_none points a is_b is_a)
same_extent_text kept points (Some a) (Some b) is_a is_b = ap (λ (w : List ℕ). codes ",\"bounds\":" ++ w) (same_extent kept points a b is_a is_b)

same_or_bounds : (kept : Kept) (points : List Point) (a b : Option Bounds) → HasExtent points a → HasExtent points b → bounds_text kept (unwrap_or a kept.bounds) ≡ bounds_text kept (unwrap_or b kept.bounds)
same_or_bounds kept points None None is_a is_b = refl
same_or_bounds kept points None (Some b) is_a is_b = absurd (extent_of_none points b is_a is_b)
same_or_bounds kept points (Some a) None is_a is_b = absurd (extent_of_none points a is_b is_a)
same_or_bounds kept points (Some a) (Some b) is_a is_b = same_extent kept points a b is_a is_b

same_metadata : (kept : Kept) (points : List Point) (a b : Option Bounds) (number : ℕ) → HasExtent points a → HasExtent points b → ept_text kept a number ≡ ept_text kept b number
unfolding ept_text place_text
same_metadata kept points a b number is_a is_b = rw (same_or_bounds kept points a b is_a is_b)

-- ---- inputs have one manifest

same_source : (kept : Kept) (input : Input) (points : List Point) (a b : SourceCount) → IsCountOf points a → IsCountOf points b → source_text kept (input, a) ≡ source_text kept (input, b)
unfolding source_text
same_source kept input points a b is_a is_b =
    rw (is_a.number, is_b.number, same_extent_text kept points a.extent b.extent is_a.has_extent is_b.has_extent)

-- counts that are alike, place by place
abbrev AreAlike : Kept → List SourceCount → List SourceCount → Type 0
AreAlike kept xs ys =
    (k : ℕ) (d : SourceCount) (input : Input) → k < length xs → source_text kept (input, get_or xs k d) ≡ source_text kept (input, get_or ys k d)

alike_rest : (kept : Kept) (a b : SourceCount) (xs ys : List SourceCount) → AreAlike kept (a ∷ xs) (b ∷ ys) → AreAlike kept xs ys
alike_rest kept a b xs ys alike = λ k d input below. alike (suc k) d input (omega (arith, below))

same_behind : (kept : Kept) (inputs : List Input) (xs ys : List SourceCount) → length xs ≡ length ys → AreAlike kept xs ys → flat_map (λ s. codes "," ++ source_text kept s) (zip inputs xs) ≡ flat_map (λ s. codes "," ++ source_text kept s) (zip inputs ys)
same_behind kept [] xs ys long alike = refl
same_behind kept (i ∷ rest_of) [] [] long alike = refl
same_behind kept (i ∷ rest_of) [] (b ∷ ys) long alike = absurd (omega (arith, long))
same_behind kept (i ∷ rest_of) (a ∷ xs) [] long alike = absurd (omega (arith, long))
same_behind kept (i ∷ rest_of) (a ∷ xs) (b ∷ ys) long alike =
    let first : source_text kept (i, a) ≡ source_text kept (i, b) = alike 0 a i (omega arith) in
    let rest = same_behind kept rest_of xs ys (omega (arith, long)) (alike_rest kept a b xs ys alike) in
    λ j. codes "," ++ first j ++ rest j

same_joined : (kept : Kept) (inputs : List Input) (xs ys : List SourceCount) → length xs ≡ length ys → AreAlike kept xs ys → join_by (source_text kept) (codes ",") (zip inputs xs) ≡ join_by (source_text kept) (codes ",") (zip inputs ys)
same_joined kept [] xs ys long alike = refl
same_joined kept (i ∷ rest_of) [] [] long alike = refl
same_joined kept (i ∷ rest_of) [] (b ∷ ys) long alike = absurd (omega (arith, long))
same_joined kept (i ∷ rest_of) (a ∷ xs) [] long alike = absurd (omega (arith, long))
same_joined kept (i ∷ rest_of) (a ∷ xs) (b ∷ ys) long alike =
    let first : source_text kept (i, a) ≡ source_text kept (i, b) = alike 0 a i (omega arith) in
    let rest = same_behind kept rest_of xs ys (omega (arith, long)) (alike_rest kept a b xs ys alike) in
    λ j. first j ++ rest j

same_manifest : (kept : Kept) (points : List Point) (a b : List SourceCount) → AreCountsOf kept points a → AreCountsOf kept points b → manifest_text kept a ≡ manifest_text kept b
unfolding manifest_text
same_manifest kept points a b are_a are_b =
    let long : length a ≡ length b = omega (arith, are_a.each, are_b.each) in
    let alike : AreAlike kept a b = λ k d input below. same_source kept input (points_from k points) (get_or a k d) (get_or b k d) (are_a.counted k d below) (are_b.counted k d (omega (arith, below, long))) in
    ap (λ (w : List ℕ). codes "[" ++ w ++ codes "]") (same_joined kept kept.inputs a b long alike)

-- ---- the output

pub output-once : (kept : Kept) (points : List Point) (a b : List File) → IsOutput kept points a → IsOutput kept points b → a ≡ b
output-once kept points a b is_a is_b =
    let metadata = same_metadata kept points is_a.extent is_b.extent (length points) is_a.has_extent is_b.has_extent in
    let manifest = same_manifest kept points is_a.counts is_b.counts is_a.are_counts is_b.are_counts in
    let same : output kept is_a.counts is_a.extent points ≡ output kept is_b.counts is_b.extent points = rw (metadata, manifest) in
    is_a.files_are ∙ (same ∙ sym is_b.files_are)
