-- A point is the bytes that it was read from.
use Rattle.std.proofs.Common.{◌≡◌, ℕ, ◌<◌, ◌≤◌, List, length, take, drop, refl, sym, subst, arith, Option, None, Some}
use Rattle.std.specs.Option.{IsNone}
use Rattle.std.specs.Int.{w8, w16, w32, cast_unsigned}
use Rattle.std.proofs.lemmas.List.{drop_all}
use Rattle.ept_point.specs.declared.point.Point.{Point}
use Rattle.ept_point.specs.Dimensions.{packed_width, dimensions, pieces, ReturnNumber, NumberOfReturns, ScanDirectionFlag, EdgeOfFlightLine, ClassFlags, ScanChannel}
use Rattle.ept_point.specs.Packed.{number_in, little_endian, packed, field_bytes, IsAboveBound, HasFieldAboveBound}
use Rattle.ept_point.proofs.Pieces.{cut}
use Rattle.ept_point.proofs.PackedLaws.{none_by_recursion, packed_within_bounds}

-- each field of the point is what is at its place
pub record IsReadFrom (b : List ℕ) (p : Point) : Type 0 where
  pub at_x : little_endian 4 (cast_unsigned w32 p.x) ≡ take 4 (drop 0 b)
  pub at_y : little_endian 4 (cast_unsigned w32 p.y) ≡ take 4 (drop 4 b)
  pub at_z : little_endian 4 (cast_unsigned w32 p.z) ≡ take 4 (drop 8 b)
  pub at_intensity : little_endian 2 p.intensity ≡ take 2 (drop 12 b)
  pub at_return_number : little_endian 1 p.return_number ≡ take 1 (drop 14 b)
  pub at_number_of_returns : little_endian 1 p.number_of_returns ≡ take 1 (drop 15 b)
  pub at_scan_direction : little_endian 1 p.scan_direction ≡ take 1 (drop 16 b)
  pub at_edge : little_endian 1 p.edge ≡ take 1 (drop 17 b)
  pub at_class : little_endian 1 p.class ≡ take 1 (drop 18 b)
  pub at_class_flags : little_endian 1 p.class_flags ≡ take 1 (drop 19 b)
  pub at_channel : little_endian 1 p.channel ≡ take 1 (drop 20 b)
  pub at_angle_rank : little_endian 1 (cast_unsigned w8 p.angle_rank) ≡ take 1 (drop 21 b)
  pub at_angle : little_endian 2 (cast_unsigned w16 p.angle) ≡ take 2 (drop 22 b)
  pub at_user : little_endian 1 p.user ≡ take 1 (drop 24 b)
  pub at_source_id : little_endian 2 p.source_id ≡ take 2 (drop 25 b)
  pub at_gps : p.gps ≡ take 8 (drop 27 b)
  pub at_red : little_endian 2 p.red ≡ take 2 (drop 35 b)
  pub at_green : little_endian 2 p.green ≡ take 2 (drop 37 b)
  pub at_blue : little_endian 2 p.blue ≡ take 2 (drop 39 b)
  pub at_origin : little_endian 4 p.origin ≡ take 4 (drop 41 b)
  pub at_number : little_endian 8 p.number ≡ take 8 (drop 45 b)

pub packed_of_read : (b : List ℕ) (p : Point) → length b ≡ packed_width → IsReadFrom b p → packed p ≡ b
unfolding packed field_bytes
packed_of_read b p len r =
    (cut b 0 4 r.at_x
    (cut b 4 4 r.at_y
    (cut b 8 4 r.at_z
    (cut b 12 2 r.at_intensity
    (cut b 14 1 r.at_return_number
    (cut b 15 1 r.at_number_of_returns
    (cut b 16 1 r.at_scan_direction
    (cut b 17 1 r.at_edge
    (cut b 18 1 r.at_class
    (cut b 19 1 r.at_class_flags
    (cut b 20 1 r.at_channel
    (cut b 21 1 r.at_angle_rank
    (cut b 22 2 r.at_angle
    (cut b 24 1 r.at_user
    (cut b 25 2 r.at_source_id
    (cut b 27 8 r.at_gps
    (cut b 35 2 r.at_red
    (cut b 37 2 r.at_green
    (cut b 39 2 r.at_blue
    (cut b 41 4 r.at_origin
    (cut b 45 8 r.at_number
    (sym (drop_all packed_width b (omega (arith, len)))))))))))))))))))))))))

-- the number of one byte at a place
abbrev pub byte_at : List ℕ → ℕ → ℕ
byte_at b at = number_in (take 1 (drop at b))

-- a bounded field that is above its greatest value
pub above_return_number : (b : List ℕ) → 15 < byte_at b 14 → HasFieldAboveBound b
unfolding HasFieldAboveBound
above_return_number b h = (4, (ReturnNumber, take 1 (drop 14 b)), omega arith, refl, h)

pub above_number_of_returns : (b : List ℕ) → 15 < byte_at b 15 → HasFieldAboveBound b
unfolding HasFieldAboveBound
above_number_of_returns b h = (5, (NumberOfReturns, take 1 (drop 15 b)), omega arith, refl, h)

pub above_scan_direction : (b : List ℕ) → 1 < byte_at b 16 → HasFieldAboveBound b
unfolding HasFieldAboveBound
above_scan_direction b h = (6, (ScanDirectionFlag, take 1 (drop 16 b)), omega arith, refl, h)

pub above_edge : (b : List ℕ) → 1 < byte_at b 17 → HasFieldAboveBound b
unfolding HasFieldAboveBound
above_edge b h = (7, (EdgeOfFlightLine, take 1 (drop 17 b)), omega arith, refl, h)

pub above_class_flags : (b : List ℕ) → 15 < byte_at b 19 → HasFieldAboveBound b
unfolding HasFieldAboveBound
above_class_flags b h = (9, (ClassFlags, take 1 (drop 19 b)), omega arith, refl, h)

pub above_channel : (b : List ℕ) → 3 < byte_at b 20 → HasFieldAboveBound b
unfolding HasFieldAboveBound
above_channel b h = (10, (ScanChannel, take 1 (drop 20 b)), omega arith, refl, h)

-- no bounded field is above its greatest value
pub none_is_above : (b : List ℕ) → byte_at b 14 ≤ 15 → byte_at b 15 ≤ 15 → byte_at b 16 ≤ 1 → byte_at b 17 ≤ 1 → byte_at b 19 ≤ 15 → byte_at b 20 ≤ 3 → ¬ HasFieldAboveBound b
unfolding HasFieldAboveBound
none_is_above b h_return_number h_number_of_returns h_scan_direction h_edge h_class_flags h_channel above =
    none_by_recursion IsAboveBound (pieces 0 dimensions b) (
      λ h. h,
      (
        λ h. h,
        (
          λ h. h,
          (
            λ h. h,
            (
              λ h. omega (arith, h_return_number),
              (
                λ h. omega (arith, h_number_of_returns),
                (
                  λ h. omega (arith, h_scan_direction),
                  (
                    λ h. omega (arith, h_edge),
                    (
                      λ h. h,
                      (
                        λ h. omega (arith, h_class_flags),
                        (
                          λ h. omega (arith, h_channel),
                          (
                            λ h. h,
                            (
                              λ h. h,
                              (
                                λ h. h,
                                (
                                  λ h. h,
                                  (
                                    λ h. h,
                                    (
                                      λ h. h,
                                      (
                                        λ h. h,
                                        (
                                          λ h. h,
                                          (
                                            λ h. h,
                                            (
                                              λ h. h,
                                              tt,
                                            ),
                                          ),
                                        ),
                                      ),
                                    ),
                                  ),
                                ),
                              ),
                            ),
                          ),
                        ),
                      ),
                    ),
                  ),
                ),
              ),
            ),
          ),
        ),
      ),
    )
    above

-- and then the bytes are not those of a point
pub no_point : (b : List ℕ) (result : Option Point) → HasFieldAboveBound b → (p : Point) → packed p ≡ b → result ≡ Some p
no_point b result above p e = absurd (packed_within_bounds p (subst HasFieldAboveBound (sym e) above))

pub none_exactly : (b : List ℕ) (result : Option Point) → result ≡ None → HasFieldAboveBound b → (IsNone result → HasFieldAboveBound b) × (HasFieldAboveBound b → IsNone result)
none_exactly b result is above = (λ none. above, λ h. rw is refl)
