-- The fields of a record that have other places in the extended formats, 6 and 7 (LAS 1.4 R15, section 2.6). They begin
-- at byte 14. Bits are counted from the lowest up.
use Rattle.std.specs.Prelude.{ℕ, ℤ, Bool, pos, ◌≡◌, List, if◌then◌else◌, slice_index}
use Rattle.ept_las.specs.declared.pulse.Pulse.{Pulse}
use Rattle.ept_las.specs.Words.{u16_at, i8_at, i16_at, bits}

-- a field that a format lacks is zero
module _ (extended : Bool) (bytes : List ℕ) where
  -- Return Number
  unfoldable pub return_number_of : ℕ
  return_number_of =
      if extended
      then bits (slice_index bytes 14) 0 4
      else bits (slice_index bytes 14) 0 3

  -- Number of Returns
  unfoldable pub number_of_returns_of : ℕ
  number_of_returns_of =
      if extended
      then bits (slice_index bytes 14) 4 4
      else bits (slice_index bytes 14) 3 3

  -- Scan Direction Flag
  unfoldable pub scan_direction_of : ℕ
  scan_direction_of =
      if extended
      then bits (slice_index bytes 15) 6 1
      else bits (slice_index bytes 14) 6 1

  -- Edge of Flight Line
  unfoldable pub edge_of : ℕ
  edge_of =
      if extended
      then bits (slice_index bytes 15) 7 1
      else bits (slice_index bytes 14) 7 1

  -- Classification
  unfoldable pub class_of : ℕ
  class_of =
      if extended
      then slice_index bytes 16
      else bits (slice_index bytes 15) 0 5

  -- Synthetic, Key-Point and Withheld; in the formats 6 and 7 also Overlap
  unfoldable pub class_flags_of : ℕ
  class_flags_of =
      if extended
      then bits (slice_index bytes 15) 0 4
      else bits (slice_index bytes 15) 5 3

  -- Scanner Channel
  unfoldable pub channel_of : ℕ
  channel_of = if extended then bits (slice_index bytes 15) 4 2 else 0

  -- Scan Angle Rank
  unfoldable pub angle_rank_of : ℤ
  angle_rank_of = if extended then pos 0 else i8_at bytes 16

  -- Scan Angle
  unfoldable pub angle_of : ℤ
  angle_of = if extended then i16_at bytes 18 else pos 0

  -- Point Source ID
  unfoldable pub source_id_of : ℕ
  source_id_of = if extended then u16_at bytes 20 else u16_at bytes 18

-- all these fields
pub record IsPulseOf (extended : Bool) (bytes : List ℕ) (pulse : Pulse) : Type 0 where
  pub return_number_is : pulse.return_number ≡ return_number_of extended bytes
  pub number_of_returns_is : pulse.number_of_returns ≡ number_of_returns_of extended bytes
  pub scan_direction_is : pulse.scan_direction ≡ scan_direction_of extended bytes
  pub edge_is : pulse.edge ≡ edge_of extended bytes
  pub class_is : pulse.class ≡ class_of extended bytes
  pub class_flags_is : pulse.class_flags ≡ class_flags_of extended bytes
  pub channel_is : pulse.channel ≡ channel_of extended bytes
  pub angle_rank_is : pulse.angle_rank ≡ angle_rank_of extended bytes
  pub angle_is : pulse.angle ≡ angle_of extended bytes
  pub source_id_is : pulse.source_id ≡ source_id_of extended bytes
