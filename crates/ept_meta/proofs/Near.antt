-- Numbers that are near enough to 0 for their sums and products to fit.
use Rattle.std.proofs.Common.{◌≡◌, ◌∙◌, ℕ, zero, suc, ◌^◌, ◌<◌, ◌≤◌, List, [], ◌∷◌, refl, sym, ap, subst, arith, ℤ, pos, ◌+ℤ◌, ◌*ℤ◌, unsigned_abs, FitsSigned, w32, w64, to_z, of_z}
use Rattle.std.specs.Prelude.{slice_index_or}
use Rattle.std.proofs.lemmas.Int.{ints, to_z-of_z, fits_signed_from_abs, unsigned_abs-mul}
use Rattle.std.proofs.Math.Nat.{pow-le-pow_right, mul-le-mul}
use Rattle.ept_config.specs.InputRanges.{AreThreeWithin}
use Rattle.ept_space.specs.Place.{coordinate}
use Rattle.ept_space.specs.OctreeCube.{OctreeCube, IsCube}
use Rattle.ept_meta.specs.Units.{far_corner}

-- a number after it was passed in 64 bits
abbrev pub passed : ℤ → ℤ
passed z = to_z w64 (of_z w64 z)

-- each of three numbers that are near
pub near_at : (greatest : ℕ) (xs : List ℤ) (axis : ℕ) → AreThreeWithin greatest xs → axis < 3 → unsigned_abs (slice_index_or xs axis (pos 0)) ≤ greatest
near_at greatest xs zero near inside = near.x
near_at greatest xs (suc zero) near inside = near.y
near_at greatest xs (suc (suc zero)) near inside = near.z
near_at greatest xs (suc (suc (suc k))) near inside = absurd (omega (arith, inside))

-- a number that is near is passed as it is
near_passed : (z : ℤ) → unsigned_abs z ≤ 10 ^ 18 → passed z ≡ z
near_passed z near = to_z-of_z w64 z (fits_signed_from_abs w64 z (omega (arith, near)))

-- the unit of a scale
pub unit_most : (scale : ℕ) → scale ≤ 9 → 10 ^ scale ≤ 10 ^ 9
unit_most scale h = pow-le-pow_right {n = 10} (omega arith) h

-- the product of an offset and a unit
module _ (offset unit : ℤ) (scale : ℕ) (near : unsigned_abs offset ≤ 10 ^ 9) (few : scale ≤ 9) (is : unit ≡ pos (10 ^ scale)) where
  unit_near : unsigned_abs unit ≤ 10 ^ 9
  unit_near = rw is (unit_most scale few)

  product_near : unsigned_abs (offset *ℤ unit) ≤ 10 ^ 18
  product_near = subst (λ n. n ≤ 10 ^ 18) (sym (unsigned_abs-mul offset unit)) (mul-le-mul near unit_near)

  offset_passed : passed offset ≡ offset
  offset_passed = near_passed offset (omega (arith, near))

  unit_passed : passed unit ≡ unit
  unit_passed = near_passed unit (omega (arith, unit_near))

  pub origin_fits : FitsSigned w64 (passed offset *ℤ passed unit)
  origin_fits = rw (offset_passed, unit_passed) (fits_signed_from_abs w64 (offset *ℤ unit) (omega (arith, product_near)))

  pub origin_is : passed (passed offset *ℤ passed unit) ≡ offset *ℤ pos (10 ^ scale)
  origin_is = rw (offset_passed, unit_passed) (near_passed (offset *ℤ unit) product_near ∙ ap (λ u. offset *ℤ u) is)

  pub origin_near : unsigned_abs (passed (passed offset *ℤ passed unit)) ≤ 10 ^ 18
  origin_near = rw (offset_passed, unit_passed) (rw (near_passed (offset *ℤ unit) product_near) product_near)

-- the sum of a coordinate and an origin
module _ (v z : ℤ) (near : unsigned_abs v ≤ 2 ^ 33) (far : unsigned_abs z ≤ 10 ^ 18) where
  fits : FitsSigned w64 (v +ℤ z)
  fits = omega (arith, ints)

  v_passed : passed v ≡ v
  v_passed = near_passed v (omega (arith, near))

  z_passed : passed z ≡ z
  z_passed = near_passed z far

  pub sum_fits : FitsSigned w64 (passed v +ℤ passed z)
  sum_fits = rw (v_passed, z_passed) fits

  pub sum_is : passed (passed v +ℤ passed z) ≡ v +ℤ z
  sum_is = rw (v_passed, z_passed) (to_z-of_z w64 (v +ℤ z) fits)

-- a coordinate of 32 bits is near
coordinate_near : (v : ℤ) → FitsSigned w32 v → unsigned_abs v ≤ 2 ^ 33
coordinate_near v fits = omega (arith, ints)

-- the corner that is a side further on each axis
module _ (cube : OctreeCube) (is : IsCube cube) (side : ℤ) (side_is : side ≡ pos (2 ^ cube.e)) where
  side_near : unsigned_abs side ≤ 10 ^ 18
  side_near = rw side_is (let most : 2 ^ cube.e ≤ 2 ^ 32 = pow-le-pow_right {n = 2} (omega arith) is.side_high in omega (arith, most))

  further : (v : ℤ) → FitsSigned w32 v → passed (passed v +ℤ passed side) ≡ v +ℤ pos (2 ^ cube.e)
  further v fits = sum_is v side (coordinate_near v fits) side_near ∙ ap (λ z. v +ℤ z) side_is

  pub far_corner_is : passed (passed (coordinate cube.corner 0) +ℤ passed side) ∷ passed (passed (coordinate cube.corner 1) +ℤ passed side) ∷ passed (passed (coordinate cube.corner 2) +ℤ passed side) ∷ [] ≡ far_corner cube
  unfolding far_corner
  far_corner_is = rw (further _ is.corner_x, further _ is.corner_y, further _ is.corner_z) refl
