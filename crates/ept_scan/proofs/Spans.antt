-- The tests and the extents of points.
use Rattle.std.proofs.Common.{◌≡◌, ◌⊎◌, ⊎_elim, ℕ, ◌+◌, ◌<◌, Bool, IsTrue, List, [], ◌∷◌, ◌++◌, Option, Some, None, length, get_or, refl, sym, ◌∙◌, subst, arith, length-append}
use Rattle.std.specs.Prelude.{ℤ, ◌↔◌, ◌&&◌, Any, FitsSigned}
use Rattle.std.specs.Int.{w32}
use mir.Val.{to_z, of_z}
use Rattle.std.proofs.Math.Facts.{to_z-of_z}
use Rattle.std.proofs.lemmas.Int.{ints}
use Rattle.std.proofs.lemmas.List.{get_or_append_left, get_or-append-add}
use Rattle.std.proofs.lemmas.List.Elements.{All-append, All-weaker}
use Rattle.ept_point.specs.declared.point.Point.{Point}
use Rattle.ept_space.specs.declared.bounds.Bounds.{Bounds}
use Rattle.ept_space.specs.Place.{coordinate}
use Rattle.ept_space.specs.ClosedBox.{IsBetween}
use Rattle.ept_space.proofs.Intervals.{all-three}
use Rattle.ept_las.specs.declared.place.Place.{Place}
use Rattle.ept_las.specs.PointRecord.{LiesAt}
use Rattle.ept_config.specs.Extents.{IsWithin, IsSpanOf, IsExtentOf, HasExtent}
use Rattle.ept_scan.specs.Extents.{IsLeast, IsGreatest}

-- what a test of an axis says of the numbers that were read
pub plain_between : (test : Bool) (least greatest at : ℤ) → FitsSigned w32 least → FitsSigned w32 greatest → FitsSigned w32 at → IsTrue test ↔ IsBetween (to_z w32 (of_z w32 least)) (to_z w32 (of_z w32 greatest)) (to_z w32 (of_z w32 at)) → IsTrue test ↔ IsBetween least greatest at
plain_between test least greatest at fits_least fits_greatest fits_at h =
    rw (to_z-of_z fits_least, to_z-of_z fits_greatest, to_z-of_z fits_at) at h

pub plain_least : (a b r : ℤ) → FitsSigned w32 a → FitsSigned w32 b → FitsSigned w32 r → IsLeast (to_z w32 (of_z w32 a)) (to_z w32 (of_z w32 b)) r → IsLeast a b (to_z w32 (of_z w32 r))
plain_least a b r fits_a fits_b fits_r h = rw (to_z-of_z fits_r) (rw (to_z-of_z fits_a, to_z-of_z fits_b) at h)

pub plain_greatest : (a b r : ℤ) → FitsSigned w32 a → FitsSigned w32 b → FitsSigned w32 r → IsGreatest (to_z w32 (of_z w32 a)) (to_z w32 (of_z w32 b)) r → IsGreatest a b (to_z w32 (of_z w32 r))
plain_greatest a b r fits_a fits_b fits_r h = rw (to_z-of_z fits_r) (rw (to_z-of_z fits_a, to_z-of_z fits_b) at h)

-- a point is within bounds if the coordinates of its place are
pub within_code : (b : Bounds) (p : Point) (place : Place) (x y z : Bool) → LiesAt place p → IsTrue x ↔ IsBetween (coordinate b.min 0) (coordinate b.max 0) place.x → IsTrue y ↔ IsBetween (coordinate b.min 1) (coordinate b.max 1) place.y → IsTrue z ↔ IsBetween (coordinate b.min 2) (coordinate b.max 2) place.z
    → IsTrue (x && y && z) ↔ IsWithin b p
within_code b p place x y z lies in_x in_y in_z =
    let all = all-three x y z _ _ _ in_x in_y in_z in (
      (λ h.
          let t = all.0 h in
          record { x = moved (coordinate b.min 0) (coordinate b.max 0) (sym lies.x) t.0; y = moved (coordinate b.min 1) (coordinate b.max 1) (sym lies.y) t.1; z = moved (coordinate b.min 2) (coordinate b.max 2) (sym lies.z) t.2 }),
      (λ h. all.1 (moved (coordinate b.min 0) (coordinate b.max 0) lies.x h.x, moved (coordinate b.min 1) (coordinate b.max 1) lies.y h.y, moved (coordinate b.min 2) (coordinate b.max 2) lies.z h.z)),
    )
  where
    moved : (least greatest : ℤ) {a b : ℤ} → a ≡ b → IsBetween least greatest a → IsBetween least greatest b
    moved least greatest same between = subst (IsBetween least greatest) same between

-- what holds of a point of one list holds of a point of both lists joined
any_left : {X : Type 0} (P : X → Type 0) (xs ys : List X) → Any P xs → Any P (xs ++ ys)
any_left P xs ys any = (any.0, any.1, omega (arith, any.2, length-append xs ys), get_or_append_left xs ys any.1 any.0 any.2 ∙ any.3, any.4)

any_right : {X : Type 0} (P : X → Type 0) (xs ys : List X) → Any P ys → Any P (xs ++ ys)
any_right P xs ys any = (length xs + any.0, any.1, omega (arith, any.2, length-append xs ys), get_or-append-add xs ys any.0 any.1 ∙ any.3, any.4)

module _ (axis : Point → ℤ) where
  reached : (xs ys : List Point) (a b end : ℤ) → (end ≡ a) ⊎ (end ≡ b) → Any (λ p. axis p ≡ a) xs → Any (λ p. axis p ≡ b) ys → Any (λ p. axis p ≡ end) (xs ++ ys)
  reached xs ys a b end one in_xs in_ys =
      ⊎_elim (λ same. any_left (λ p. axis p ≡ end) xs ys (in_xs.0, in_xs.1, in_xs.2, in_xs.3, in_xs.4 ∙ sym same))
      (λ same. any_right (λ p. axis p ≡ end) xs ys (in_ys.0, in_ys.1, in_ys.2, in_ys.3, in_ys.4 ∙ sym same)) one

  pub span_joined : (xs ys : List Point) (a b c d least greatest : ℤ) → IsLeast a c least → IsGreatest b d greatest → IsSpanOf axis xs a b → IsSpanOf axis ys c d → IsSpanOf axis (xs ++ ys) least greatest
  span_joined xs ys a b c d least greatest is_least is_greatest of_xs of_ys = record {
    within = All-append (λ p. IsBetween least greatest (axis p)) xs ys
        (All-weaker (λ p. IsBetween a b (axis p)) (λ p. IsBetween least greatest (axis p)) (λ p h. (omega (arith, ints, h.0, is_least.of_a), omega (arith, ints, h.1, is_greatest.of_a))) xs of_xs.within)
        (All-weaker (λ p. IsBetween c d (axis p)) (λ p. IsBetween least greatest (axis p)) (λ p h. (omega (arith, ints, h.0, is_least.of_b), omega (arith, ints, h.1, is_greatest.of_b))) ys of_ys.within);
    least_is = reached xs ys a c least is_least.one of_xs.least_is of_ys.least_is;
    greatest_is = reached xs ys b d greatest is_greatest.one of_xs.greatest_is of_ys.greatest_is;
  }

  pub span_of_one : (p : Point) → IsSpanOf axis (p ∷ []) (axis p) (axis p)
  span_of_one p = record {
    within = λ k d lt. only k d lt;
    least_is = (0, p, omega arith, refl, refl);
    greatest_is = (0, p, omega arith, refl, refl);
  }
    where
      only : (k : ℕ) (d : Point) → k < 1 → IsBetween (axis p) (axis p) (axis (get_or (p ∷ []) k d))
      only k d lt = let first : k ≡ 0 = omega (arith, lt) in subst (λ (i : ℕ). IsBetween (axis p) (axis p) (axis (get_or (p ∷ []) i d))) (sym first) (omega (arith, ints), omega (arith, ints))

pub extent_joined : (xs ys : List Point) (a b : Bounds) (x0 x1 y0 y1 z0 z1 : ℤ)
    → IsLeast (coordinate a.min 0) (coordinate b.min 0) x0 → IsLeast (coordinate a.min 1) (coordinate b.min 1) y0 → IsLeast (coordinate a.min 2) (coordinate b.min 2) z0
    → IsGreatest (coordinate a.max 0) (coordinate b.max 0) x1 → IsGreatest (coordinate a.max 1) (coordinate b.max 1) y1 → IsGreatest (coordinate a.max 2) (coordinate b.max 2) z1
    → IsExtentOf xs a → IsExtentOf ys b → IsExtentOf (xs ++ ys) (record { min = x0 ∷ y0 ∷ z0 ∷ []; max = x1 ∷ y1 ∷ z1 ∷ [] })
extent_joined xs ys a b x0 x1 y0 y1 z0 z1 lx ly lz gx gy gz of_xs of_ys = record {
  x = span_joined (λ p. p.x) xs ys _ _ _ _ x0 x1 lx gx of_xs.x of_ys.x;
  y = span_joined (λ p. p.y) xs ys _ _ _ _ y0 y1 ly gy of_xs.y of_ys.y;
  z = span_joined (λ p. p.z) xs ys _ _ _ _ z0 z1 lz gz of_xs.z of_ys.z;
}

pub extent_of_one : (p : Point) (x y z : ℤ) → x ≡ p.x → y ≡ p.y → z ≡ p.z → IsExtentOf (p ∷ []) (record { min = x ∷ y ∷ z ∷ []; max = x ∷ y ∷ z ∷ [] })
extent_of_one p x y z same_x same_y same_z = rw (same_x, same_y, same_z) (record { x = span_of_one (λ q. q.x) p; y = span_of_one (λ q. q.y) p; z = span_of_one (λ q. q.z) p })

pub extent_at : (extent : Option Bounds) (b : Bounds) (xs : List Point) → extent ≡ Some b → HasExtent xs extent → IsExtentOf xs b
extent_at extent b xs is has = subst (λ (e : Option Bounds). HasExtent xs e) is has

pub extent_none : (extent : Option Bounds) (xs : List Point) → extent ≡ None → HasExtent xs extent → xs ≡ []
extent_none extent xs is has = subst (λ (e : Option Bounds). HasExtent xs e) is has
