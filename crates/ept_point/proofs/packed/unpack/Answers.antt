use Rattle.std.proofs.Common.{ℕ, ◌≡◌, List, Some, length, refl, sym, ap, ◌∙◌, arith, rules}
use Rattle.std.specs.Int.{w8, w16, w32}
use Rattle.ept_point.specs.declared.point.Point.{Point}
use Rattle.ept_point.proofs.Pieces.{signed_piece}
use Rattle.ept_point.proofs.PackedLaws.{packed_one}
use Rattle.ept_point.proofs.Unpacking.{packed_of_read, none_is_above, no_point, none_exactly, above_return_number, above_number_of_returns, above_scan_direction, above_edge, above_class_flags, above_channel}
use Rattle.ept_point.proofs.packed.unpack.Goals as goal

pub returns-in_err-bounded_at-clause-none : goal.returns-in_err-bounded_at-clause-none
returns-in_err-bounded_at-clause-none c =
    none_exactly c.args.bytes.now _ c.from_residual.ensures (above_return_number c.args.bytes.now (c.in_err-bounded_at.ensures.above refl))

pub returns-in_err-bounded_at-clause-inverse : goal.returns-in_err-bounded_at-clause-inverse
returns-in_err-bounded_at-clause-inverse c =
    no_point c.args.bytes.now _ (above_return_number c.args.bytes.now (c.in_err-bounded_at.ensures.above refl))

pub returns-in_err-bounded_at-2-clause-none : goal.returns-in_err-bounded_at-2-clause-none
returns-in_err-bounded_at-2-clause-none c =
    none_exactly c.args.bytes.now _ c.from_residual-in_err-bounded_at-2.ensures (above_number_of_returns c.args.bytes.now (c.in_err-bounded_at-2.ensures.above refl))

pub returns-in_err-bounded_at-2-clause-inverse : goal.returns-in_err-bounded_at-2-clause-inverse
returns-in_err-bounded_at-2-clause-inverse c =
    no_point c.args.bytes.now _ (above_number_of_returns c.args.bytes.now (c.in_err-bounded_at-2.ensures.above refl))

pub returns-in_err-bounded_at-3-clause-none : goal.returns-in_err-bounded_at-3-clause-none
returns-in_err-bounded_at-3-clause-none c =
    none_exactly c.args.bytes.now _ c.from_residual-in_err-bounded_at-3.ensures (above_scan_direction c.args.bytes.now (c.in_err-bounded_at-3.ensures.above refl))

pub returns-in_err-bounded_at-3-clause-inverse : goal.returns-in_err-bounded_at-3-clause-inverse
returns-in_err-bounded_at-3-clause-inverse c =
    no_point c.args.bytes.now _ (above_scan_direction c.args.bytes.now (c.in_err-bounded_at-3.ensures.above refl))

pub returns-in_err-bounded_at-4-clause-none : goal.returns-in_err-bounded_at-4-clause-none
returns-in_err-bounded_at-4-clause-none c =
    none_exactly c.args.bytes.now _ c.from_residual-in_err-bounded_at-4.ensures (above_edge c.args.bytes.now (c.in_err-bounded_at-4.ensures.above refl))

pub returns-in_err-bounded_at-4-clause-inverse : goal.returns-in_err-bounded_at-4-clause-inverse
returns-in_err-bounded_at-4-clause-inverse c =
    no_point c.args.bytes.now _ (above_edge c.args.bytes.now (c.in_err-bounded_at-4.ensures.above refl))

pub returns-in_err-bounded_at-5-clause-none : goal.returns-in_err-bounded_at-5-clause-none
returns-in_err-bounded_at-5-clause-none c =
    none_exactly c.args.bytes.now _ c.from_residual-in_err-bounded_at-5.ensures (above_class_flags c.args.bytes.now (c.in_err-bounded_at-5.ensures.above refl))

pub returns-in_err-bounded_at-5-clause-inverse : goal.returns-in_err-bounded_at-5-clause-inverse
returns-in_err-bounded_at-5-clause-inverse c =
    no_point c.args.bytes.now _ (above_class_flags c.args.bytes.now (c.in_err-bounded_at-5.ensures.above refl))

pub returns-in_err-bounded_at-6-clause-none : goal.returns-in_err-bounded_at-6-clause-none
returns-in_err-bounded_at-6-clause-none c =
    none_exactly c.args.bytes.now _ c.from_residual-in_err-bounded_at-6.ensures (above_channel c.args.bytes.now (c.in_err-bounded_at-6.ensures.above refl))

pub returns-in_err-bounded_at-6-clause-inverse : goal.returns-in_err-bounded_at-6-clause-inverse
returns-in_err-bounded_at-6-clause-inverse c =
    no_point c.args.bytes.now _ (above_channel c.args.bytes.now (c.in_err-bounded_at-6.ensures.above refl))

pub returns-clause-point : goal.returns-clause-point
returns-clause-point c =
    let b : List ℕ = c.args.bytes.now in
    let len : length b ≡ 53 = search rules in
    packed_of_read b _ len record {
      at_x = signed_piece w32 c.i32_at.result 4 (search rules) c.i32_at.ensures;
      at_y = signed_piece w32 c.i32_at-2.result 4 (search rules) c.i32_at-2.ensures;
      at_z = signed_piece w32 c.i32_at-3.result 4 (search rules) c.i32_at-3.ensures;
      at_intensity = c.u16_at.ensures;
      at_return_number = c.in_ok-bounded_at.ensures.value;
      at_number_of_returns = c.in_ok-bounded_at-2.ensures.value;
      at_scan_direction = c.in_ok-bounded_at-3.ensures.value;
      at_edge = c.in_ok-bounded_at-4.ensures.value;
      at_class = c.u8_at.ensures;
      at_class_flags = c.in_ok-bounded_at-5.ensures.value;
      at_channel = c.in_ok-bounded_at-6.ensures.value;
      at_angle_rank = signed_piece w8 c.i8_at.result 1 (search rules) c.i8_at.ensures;
      at_angle = signed_piece w16 c.i16_at.result 2 (search rules) c.i16_at.ensures;
      at_user = c.u8_at-2.ensures;
      at_source_id = c.u16_at-2.ensures;
      at_gps = c.chunk_at.ensures.value;
      at_red = c.u16_at-3.ensures;
      at_green = c.u16_at-4.ensures;
      at_blue = c.u16_at-5.ensures;
      at_origin = c.u32_at.ensures;
      at_number = c.u64_at.ensures;
    }

pub returns-clause-none : goal.returns-clause-none
returns-clause-none c =
    (λ e. cc, λ above. absurd (none_is_above c.args.bytes.now (omega (arith, c.in_ok-bounded_at.ensures)) (omega (arith, c.in_ok-bounded_at-2.ensures)) (omega (arith, c.in_ok-bounded_at-3.ensures)) (omega (arith, c.in_ok-bounded_at-4.ensures)) (omega (arith, c.in_ok-bounded_at-5.ensures)) (omega (arith, c.in_ok-bounded_at-6.ensures)) above))

pub returns-clause-inverse : goal.returns-clause-inverse
returns-clause-inverse c =
    λ q e. ap (λ (p : Point). Some p) (packed_one _ q (returns-clause-point c ∙ sym e))
