-- Points have one extent, so the bounds of inputs are one box.
use Rattle.std.proofs.Common.{◌≡◌, ◌∙◌, List, [], ◌∷◌, length, sym, subst, arith, Option, Some, None}
use Rattle.std.specs.Prelude.{ℤ, Any}
use Rattle.std.proofs.lemmas.Int.{ints}
use Rattle.ept_point.specs.declared.point.Point.{Point}
use Rattle.ept_space.specs.declared.bounds.Bounds.{Bounds}
use Rattle.ept_space.specs.Place.{coordinate}
use Rattle.ept_space.specs.ClosedBox.{IsBetween}
use Rattle.ept_config.specs.Ranges.{BoundsInRange}
use Rattle.ept_config.specs.Extents.{IsSpanOf, IsExtentOf}
use Rattle.ept_scan.specs.Scans.{AreBounds}

module _ (axis : Point → ℤ) (points : List Point) (a b c d : ℤ) (first : IsSpanOf axis points a b) (second : IsSpanOf axis points c d) where
  -- a value that one of the points has lies in the other span
  met : (e f v : ℤ) → IsSpanOf axis points e f → Any (λ p. axis p ≡ v) points → IsBetween e f v
  met e f v span some = subst (IsBetween e f) some.4 (subst (λ p. IsBetween e f (axis p)) some.3 (span.within some.0 some.1 some.2))

  least_once : a ≡ c
  least_once = omega (arith, ints, (met c d a second first.least_is).0, (met a b c first second.least_is).0)

  greatest_once : b ≡ d
  greatest_once = omega (arith, ints, (met c d b second first.greatest_is).1, (met a b d first second.greatest_is).1)

three_alike : (xs ys : List ℤ) → length xs ≡ 3 → length ys ≡ 3 → coordinate xs 0 ≡ coordinate ys 0 → coordinate xs 1 ≡ coordinate ys 1 → coordinate xs 2 ≡ coordinate ys 2 → xs ≡ ys
three_alike (a ∷ b ∷ c ∷ []) (d ∷ e ∷ f ∷ []) three also x y z = cc
three_alike [] ys three also x y z = absurd (omega (arith, three))
three_alike (a ∷ []) ys three also x y z = absurd (omega (arith, three))
three_alike (a ∷ b ∷ []) ys three also x y z = absurd (omega (arith, three))
three_alike (a ∷ b ∷ c ∷ d ∷ xs) ys three also x y z = absurd (omega (arith, three))
three_alike (a ∷ b ∷ c ∷ []) [] three also x y z = absurd (omega (arith, also))
three_alike (a ∷ b ∷ c ∷ []) (d ∷ []) three also x y z = absurd (omega (arith, also))
three_alike (a ∷ b ∷ c ∷ []) (d ∷ e ∷ []) three also x y z = absurd (omega (arith, also))
three_alike (a ∷ b ∷ c ∷ []) (d ∷ e ∷ f ∷ g ∷ ys) three also x y z = absurd (omega (arith, also))

-- points have one extent
pub extent_once : (points : List Point) (a b : Bounds) → BoundsInRange a → BoundsInRange b → IsExtentOf points a → IsExtentOf points b → a ≡ b
extent_once points a b in_a in_b of_a of_b =
    let min : a.min ≡ b.min = three_alike a.min b.min in_a.min_is.three in_b.min_is.three (least_once (λ p. p.x) points _ _ _ _ of_a.x of_b.x) (least_once (λ p. p.y) points _ _ _ _ of_a.y of_b.y) (least_once (λ p. p.z) points _ _ _ _ of_a.z of_b.z) in
    let max : a.max ≡ b.max = three_alike a.max b.max in_a.max_is.three in_b.max_is.three (greatest_once (λ p. p.x) points _ _ _ _ of_a.x of_b.x) (greatest_once (λ p. p.y) points _ _ _ _ of_a.y of_b.y) (greatest_once (λ p. p.z) points _ _ _ _ of_a.z of_b.z) in
    λ i. record { min = min i; max = max i }

-- and so inputs have one box of bounds, whether it is given or found
pub bounds_once : (limits : Option Bounds) (points : List Point) (a b : Bounds) → BoundsInRange a → BoundsInRange b → AreBounds limits points a → AreBounds limits points b → a ≡ b
bounds_once None points a b in_a in_b of_a of_b = extent_once points a b in_a in_b of_a of_b
bounds_once (Some limits) points a b in_a in_b of_a of_b = of_a ∙ sym of_b
