use Rattle.std.proofs.Common.{refl, arith}
use Rattle.std.specs.Int.{cast_unsigned, w8, w16, w32}
use Rattle.std.proofs.lemmas.Int.{ints}
use Rattle.ept_point.specs.Packed.{packed, field_bytes}
use Rattle.ept_point.proofs.Pieces.{cells_1, cells_2, cells_4, cells_8, cells_of_8, signed, signed_byte}
use Rattle.ept_point.proofs.packed.pack.Goals as goal

pub returns : goal.returns
unfolding packed field_bytes
returns c =
    let p = c.args.point.now in
    record {
      bytes =
          cells_4 (cast_unsigned w32 p.x) _ (signed w32 p.x _ p.widths.x_fits c.to_le_bytes-x.ensures)
          (cells_4 (cast_unsigned w32 p.y) _ (signed w32 p.y _ p.widths.y_fits c.to_le_bytes-y.ensures)
          (cells_4 (cast_unsigned w32 p.z) _ (signed w32 p.z _ p.widths.z_fits c.to_le_bytes-z.ensures)
          (cells_2 p.intensity _ c.to_le_bytes-intensity.ensures
          (cells_1 p.return_number _ (omega (arith, p.return_number_bound)) refl
          (cells_1 p.number_of_returns _ (omega (arith, p.number_of_returns_bound)) refl
          (cells_1 p.scan_direction _ (omega (arith, p.scan_direction_bound)) refl
          (cells_1 p.edge _ (omega (arith, p.edge_bound)) refl
          (cells_1 p.class _ p.widths.class_fits refl
          (cells_1 p.class_flags _ (omega (arith, p.class_flags_bound)) refl
          (cells_1 p.channel _ (omega (arith, p.channel_bound)) refl
          (cells_1 (cast_unsigned w8 p.angle_rank) _ (omega (arith, ints)) (signed_byte p.angle_rank _ p.widths.angle_rank_fits c.cast_unsigned.ensures)
          (cells_2 (cast_unsigned w16 p.angle) _ (signed w16 p.angle _ p.widths.angle_fits c.to_le_bytes-angle.ensures)
          (cells_1 p.user _ p.widths.user_fits refl
          (cells_2 p.source_id _ c.to_le_bytes-source_id.ensures
          (cells_8 p.gps p.widths.gps_length
          (cells_2 p.red _ c.to_le_bytes-red.ensures
          (cells_2 p.green _ c.to_le_bytes-green.ensures
          (cells_2 p.blue _ c.to_le_bytes-blue.ensures
          (cells_4 p.origin _ c.to_le_bytes-origin.ensures
          (cells_of_8 p.number _ c.to_le_bytes-number.ensures refl))))))))))))))))))));
    }
