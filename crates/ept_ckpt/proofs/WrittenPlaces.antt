-- Places, bounds and shifts that are written read back.
use Rattle.std.proofs.Common.{◌≡◌, ℕ, ◌^◌, ◌<◌, ◌≤◌, ℤ, true, List, [], ◌∷◌, ◌++◌, Ok, refl, arith, append_assoc, FitsSigned, nat_le, ◌&&◌}
use Rattle.std.specs.Prelude.{◌≤ℤ◌, int_le, unsigned_abs}
use Rattle.std.specs.Int.{w32, w64, cast_unsigned}
use Rattle.std.proofs.lemmas.Bool.{le-leb}
use Rattle.std.proofs.lemmas.Int.{ints, fits_signed_from_abs}
use Rattle.byteorder.specs.Endian.{little_bytes}
use Rattle.ept_space.specs.declared.bounds.Bounds.{Bounds}
use Rattle.ept_space.specs.Place.{Place, coordinate}
use Rattle.ept_space.specs.CubeOfBounds.{HasPlace, IsInside}
use Rattle.ept_config.specs.InputRanges.{AreThreeWithin}
use Rattle.ept_config.specs.Ranges.{AreCoordinates, BoundsInRange}
use Rattle.ept_ckpt.specs.Body.{i32_bytes, i64_bytes, bounds_bytes}
use Rattle.ept_ckpt.specs.Fields.{signed, three}
use Rattle.ept_ckpt.specs.Forms.{near, between, corner, box_within, whole}
use Rattle.ept_ckpt.proofs.WrittenNumbers.{read_then, field_read, i32_written, i64_written}

-- on each axis `low` is at most `high`
abbrev AreOrdered : Place → Place → Type 0
AreOrdered low high = HasPlace (record { min = low; max = high })

pub near_written : (total most : ℕ) (z : ℤ) (rest : List ℕ) → most < 2 ^ 63 → unsigned_abs z ≤ most → near most total (little_bytes 8 (cast_unsigned w64 z) ++ rest) ≡ Ok (z, rest)
unfolding near
near_written total most z rest small within =
    field_read (λ (z : ℤ). nat_le (unsigned_abs z) most) (signed w64 8) total _ rest z (i64_written total z rest (fits_signed_from_abs w64 z (omega (arith, small, within)))) (le-leb (unsigned_abs z) most within)

-- three numbers of 64 bits
pub three_written : (total most : ℕ) (xs : List ℤ) (rest : List ℕ) → most < 2 ^ 63 → AreThreeWithin most xs → three (near most) total (i64_bytes xs ++ rest) ≡ Ok (xs, rest)
unfolding three
three_written total most (x ∷ y ∷ z ∷ []) rest small within =
    read_then _ (near_written total most x (i64_bytes (y ∷ z ∷ []) ++ rest) small within.x)
    (read_then _ (near_written total most y (i64_bytes (z ∷ []) ++ rest) small within.y)
    (read_then _ (near_written total most z rest small within.z) refl))
three_written total most [] rest small within = absurd (omega (arith, within.three))
three_written total most (x ∷ []) rest small within = absurd (omega (arith, within.three))
three_written total most (x ∷ y ∷ []) rest small within = absurd (omega (arith, within.three))
three_written total most (x ∷ y ∷ z ∷ a ∷ xs) rest small within = absurd (omega (arith, within.three))

int_le-true : (a b : ℤ) → a ≤ℤ b → int_le a b ≡ true
int_le-true a b h = grind (arith, ints)

pub between_written : (total : ℕ) (low high z : ℤ) (rest : List ℕ) → FitsSigned w32 z → low ≤ℤ z → z ≤ℤ high → between low high total (little_bytes 4 (cast_unsigned w32 z) ++ rest) ≡ Ok (z, rest)
unfolding between
between_written total low high z rest fits above below =
    field_read (λ (z : ℤ). int_le low z && int_le z high) (signed w32 4) total _ rest z (i32_written total z rest fits) (rw (int_le-true low z above, int_le-true z high below) refl)

-- a place within bounds, on each axis a coordinate of 32 bits
pub corner_written : (total : ℕ) (low high xs : List ℤ) (rest : List ℕ) → AreCoordinates xs → AreOrdered low xs → AreOrdered xs high → corner low high total (i32_bytes xs ++ rest) ≡ Ok (xs, rest)
unfolding corner
corner_written total low high (x ∷ y ∷ z ∷ []) rest fit above below =
    read_then _ (between_written total (coordinate low 0) (coordinate high 0) x (i32_bytes (y ∷ z ∷ []) ++ rest) fit.x above.x_ordered below.x_ordered)
    (read_then _ (between_written total (coordinate low 1) (coordinate high 1) y (i32_bytes (z ∷ []) ++ rest) fit.y above.y_ordered below.y_ordered)
    (read_then _ (between_written total (coordinate low 2) (coordinate high 2) z rest fit.z above.z_ordered below.z_ordered) refl))
corner_written total low high [] rest fit above below = absurd (omega (arith, fit.three))
corner_written total low high (x ∷ []) rest fit above below = absurd (omega (arith, fit.three))
corner_written total low high (x ∷ y ∷ []) rest fit above below = absurd (omega (arith, fit.three))
corner_written total low high (x ∷ y ∷ z ∷ a ∷ xs) rest fit above below = absurd (omega (arith, fit.three))

-- bounds within others
pub box_written : (total : ℕ) (outer box : Bounds) (rest : List ℕ) → AreCoordinates box.min → AreCoordinates box.max → AreOrdered outer.min box.min → AreOrdered box.min outer.max → AreOrdered box.min box.max → AreOrdered box.max outer.max → box_within outer total (bounds_bytes box ++ rest) ≡ Ok (box, rest)
unfolding box_within bounds_bytes
box_written total outer box rest min_fits max_fits above under ordered below =
    rw (append_assoc (i32_bytes box.min) (i32_bytes box.max) rest)
    (read_then _ (corner_written total outer.min outer.max box.min (i32_bytes box.max ++ rest) min_fits above under)
    (read_then _ (corner_written total box.min outer.max box.max rest max_fits ordered below) refl))

-- bounds with coordinates of 32 bits are within the bounds of all places
whole_above : (xs : List ℤ) → AreCoordinates xs → AreOrdered whole.min xs
whole_above xs fit = record { x_ordered = omega (arith, ints, fit.x); y_ordered = omega (arith, ints, fit.y); z_ordered = omega (arith, ints, fit.z) }

whole_below : (xs : List ℤ) → AreCoordinates xs → AreOrdered xs whole.max
whole_below xs fit = record { x_ordered = omega (arith, ints, fit.x); y_ordered = omega (arith, ints, fit.y); z_ordered = omega (arith, ints, fit.z) }

pub bounds_written : (total : ℕ) (bounds : Bounds) (rest : List ℕ) → BoundsInRange bounds → box_within whole total (bounds_bytes bounds ++ rest) ≡ Ok (bounds, rest)
bounds_written total bounds rest are =
    box_written total whole bounds rest are.min_is are.max_is (whole_above bounds.min are.min_is) (whole_below bounds.min are.min_is) are.ordered (whole_below bounds.max are.max_is)

at-most-through : (a b c : ℤ) → a ≤ℤ b → b ≤ℤ c → a ≤ℤ c
at-most-through a b c first second = omega (arith, ints)

ordered-through : (a b c : List ℤ) → AreOrdered a b → AreOrdered b c → AreOrdered a c
ordered-through a b c first second = record {
  x_ordered = at-most-through _ _ _ first.x_ordered second.x_ordered;
  y_ordered = at-most-through _ _ _ first.y_ordered second.y_ordered;
  z_ordered = at-most-through _ _ _ first.z_ordered second.z_ordered;
}

-- the extent of some points within the bounds
pub extent_written : (total : ℕ) (bounds extent : Bounds) (rest : List ℕ) → BoundsInRange bounds → IsInside bounds extent → BoundsInRange extent → box_within bounds total (bounds_bytes extent ++ rest) ≡ Ok (extent, rest)
extent_written total bounds extent rest are is in_range =
    let above : AreOrdered bounds.min extent.min = record { x_ordered = is.x_min; y_ordered = is.y_min; z_ordered = is.z_min } in
    let below : AreOrdered extent.max bounds.max = record { x_ordered = is.x_max; y_ordered = is.y_max; z_ordered = is.z_max } in
    box_written total bounds extent rest in_range.min_is in_range.max_is above (ordered-through _ extent.max _ in_range.ordered below) in_range.ordered below
