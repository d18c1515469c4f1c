-- A record reads in one way, and is never out of units if coordinates are stored unchanged.
use Rattle.std.proofs.Common.{◌≡◌, ℕ, ℤ, pos, ◌+ℤ◌, ◌*ℤ◌, ◌<◌, ◌^◌, List, Option, Some, None, FitsSigned, refl, sym, ap, ◌∙◌, subst, arith, drop, get_or-drop, zero, suc, ◌+◌, ◌*◌}
use Rattle.std.specs.Int.{w32, cast_signed}
use Rattle.std.specs.List.{concat}
use Rattle.std.proofs.lemmas.Int.{ints}
use Rattle.byteorder.specs.Endian.{little_number}
use Rattle.byteorder.specs.Numbers.{little_from-lt}
use Rattle.ept_point.specs.declared.point.Point.{Point}
use Rattle.ept_point.specs.Packed.{packed, field_bytes}
use Rattle.ept_point.proofs.PackedLaws.{packed_one}
use Rattle.ept_las.specs.declared.shift.Shift.{Shift}
use Rattle.ept_las.specs.Words.{i32_at, AreBytes}
use Rattle.ept_las.specs.Shifts.{IsIdentity}
use Rattle.ept_las.specs.PointRecord.{coordinate, IsOutOfUnits, IsPointOf, RecordReadsAs}

fits_of_bits : (n : ℕ) → n < 2 ^ 32 → FitsSigned w32 (cast_signed w32 n)
fits_of_bits n h = omega (arith, ints)

-- a number of four bytes fits into 32 bits
pub i32_at_fits : (bytes : List ℕ) (at : ℕ) → AreBytes bytes → FitsSigned w32 (i32_at bytes at)
unfolding i32_at
i32_at_fits bytes at are = fits_of_bits (little_number 4 (drop at bytes)) (little_from-lt 0 4 (drop at bytes) (λ i. rw (get_or-drop at bytes i 0) (are (at + i))))

stored_identity : (z : ℤ) → (z *ℤ pos 1) +ℤ pos 0 ≡ z
stored_identity z = omega (arith, ints)

-- raw coordinates that are stored unchanged fit
pub identity_in_units : (shift : Shift) (bytes : List ℕ) → AreBytes bytes → IsIdentity shift → ¬ IsOutOfUnits shift bytes
identity_in_units shift bytes are plain out =
    let raw = i32_at bytes (4 * out.0) in
    let same : coordinate shift bytes out.0 ≡ raw = rw (plain.once, plain.unmoved out.0) (stored_identity raw) in
    out.2 (subst (FitsSigned w32) (sym same) (i32_at_fits bytes (4 * out.0) are))

fields_one : (p q : Point) → field_bytes p ≡ field_bytes q → p ≡ q
unfolding packed
fields_one p q e = packed_one p q (ap concat e)

-- two points with the same fields are the same
same_point : (p q : Point) → p.x ≡ q.x → p.y ≡ q.y → p.z ≡ q.z → p.intensity ≡ q.intensity → p.return_number ≡ q.return_number → p.number_of_returns ≡ q.number_of_returns → p.scan_direction ≡ q.scan_direction → p.edge ≡ q.edge → p.class ≡ q.class → p.class_flags ≡ q.class_flags → p.channel ≡ q.channel → p.angle_rank ≡ q.angle_rank → p.angle ≡ q.angle → p.user ≡ q.user → p.source_id ≡ q.source_id → p.gps ≡ q.gps → p.red ≡ q.red → p.green ≡ q.green → p.blue ≡ q.blue → p.origin ≡ q.origin → p.number ≡ q.number → p ≡ q
unfolding field_bytes
same_point p q e_x e_y e_z e_intensity e_return_number e_number_of_returns e_scan_direction e_edge e_class e_class_flags e_channel e_angle_rank e_angle e_user e_source_id e_gps e_red e_green e_blue e_origin e_number =
    fields_one p q (rw (e_x, e_y, e_z, e_intensity, e_return_number, e_number_of_returns, e_scan_direction, e_edge, e_class, e_class_flags, e_channel, e_angle_rank, e_angle, e_user, e_source_id, e_gps, e_red, e_green, e_blue, e_origin, e_number) refl)

-- a record of a format holds one point
pub point_once : (format : ℕ) (shift : Shift) (source number : ℕ) (bytes : List ℕ) (p q : Point) → IsPointOf format shift source number bytes p → IsPointOf format shift source number bytes q → p ≡ q
point_once format shift source number bytes p q h g =
    same_point p q (h.x_is ∙ sym g.x_is) (h.y_is ∙ sym g.y_is) (h.z_is ∙ sym g.z_is) (h.intensity_is ∙ sym g.intensity_is) (h.return_number_is ∙ sym g.return_number_is) (h.number_of_returns_is ∙ sym g.number_of_returns_is) (h.scan_direction_is ∙ sym g.scan_direction_is) (h.edge_is ∙ sym g.edge_is) (h.class_is ∙ sym g.class_is) (h.class_flags_is ∙ sym g.class_flags_is) (h.channel_is ∙ sym g.channel_is) (h.angle_rank_is ∙ sym g.angle_rank_is) (h.angle_is ∙ sym g.angle_is) (h.user_is ∙ sym g.user_is) (h.source_id_is ∙ sym g.source_id_is) (h.gps_is ∙ sym g.gps_is) (h.red_is ∙ sym g.red_is) (h.green_is ∙ sym g.green_is) (h.blue_is ∙ sym g.blue_is) (h.origin_is ∙ sym g.origin_is) (h.number_is ∙ sym g.number_is)

pub out_or_point : (format : ℕ) (shift : Shift) (source number : ℕ) (bytes : List ℕ) (p : Point) → IsOutOfUnits shift bytes → ¬ IsPointOf format shift source number bytes p
out_or_point format shift source number bytes p out h =
    out.2 (fits out.0 out.1) where
      fits : (axis : ℕ) → axis < 3 → FitsSigned w32 (coordinate shift bytes axis)
      fits zero small = subst (FitsSigned w32) h.x_is p.widths.x_fits
      fits (suc zero) small = subst (FitsSigned w32) h.y_is p.widths.y_fits
      fits (suc (suc zero)) small = subst (FitsSigned w32) h.z_is p.widths.z_fits
      fits (suc (suc (suc n))) small = absurd (omega arith)

-- a record reads in one way
pub record_once : (format : ℕ) (shift : Shift) (source number : ℕ) (bytes : List ℕ) (a b : Option Point) → RecordReadsAs format shift source number bytes a → RecordReadsAs format shift source number bytes b → a ≡ b
record_once format shift source number bytes None None h g = refl
record_once format shift source number bytes None (Some q) h g = absurd (out_or_point format shift source number bytes q h g)
record_once format shift source number bytes (Some p) None h g = absurd (out_or_point format shift source number bytes p g h)
record_once format shift source number bytes (Some p) (Some q) h g = ap (λ (r : Point). Some r) (point_once format shift source number bytes p q h g)
