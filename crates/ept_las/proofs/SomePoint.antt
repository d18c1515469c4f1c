-- The bytes of a record with a place hold a point.
use Rattle.std.proofs.Common.{◌≡◌, ⊎_elim, ℕ, Bool, true, false, zero, suc, ◌+◌, ◌*◌, ◌<◌, ◌≤◌, ◌^◌, List, Option, Some, None, FitsSigned, length, take, drop, get_or-drop, refl, sym, arith, rules, length-take, length-drop}
use Rattle.std.specs.Prelude.{IfSome, slice_index, replicate}
use Rattle.std.specs.Int.{w8, w16, cast_signed}
use Rattle.std.proofs.lemmas.Bool.{cases_lt}
use Rattle.std.proofs.lemmas.Bool.Decides.{nat_tests}
use Rattle.std.proofs.lemmas.Int.{ints}
use Rattle.std.proofs.lemmas.List.{length-take-le, get_or-take, length-replicate, get_or_past}
use Rattle.byteorder.specs.Endian.{little_number}
use Rattle.byteorder.specs.Numbers.{little_from-lt}
use Rattle.ept_las.specs.Format.{IsFormat, is_extended, record_length, gps_place, colour_place}
use Rattle.ept_las.specs.Words.{u16_at, i8_at, i16_at, bits, AreBytes}
use Rattle.ept_las.specs.Pulses.{return_number_of, number_of_returns_of, scan_direction_of, edge_of, class_of, class_flags_of, channel_of, angle_rank_of, angle_of, source_id_of}
use Rattle.ept_las.specs.PointRecord.{coordinate, gps_of, colour_of, intensity_of, user_of}
use Rattle.ept_las.specs.Laws.{PlaceHasPoint}

-- `count` bits are a number below 2 ^ count
few_bits : (byte low count : ℕ) → bits byte low count < 2 ^ count
unfolding bits
few_bits byte low count = search rules

rank_fits : (n : ℕ) → n < 2 ^ 8 → FitsSigned w8 (cast_signed w8 n)
rank_fits n h = omega (arith, ints)

angle_fits : (n : ℕ) → n < 2 ^ 16 → FitsSigned w16 (cast_signed w16 n)
angle_fits n h = omega (arith, ints)

-- a record has room for the time and the colours at their places
gps_room : (format : ℕ) → IsFormat format → IfSome (gps_place format) (λ at. at + 8 ≤ record_length format)
unfolding gps_place record_length
gps_room format is = grind (arith, nat_tests)

colour_room : (format : ℕ) → IsFormat format → IfSome (colour_place format) (λ at. at + 6 ≤ record_length format)
unfolding colour_place record_length
colour_room format is = grind (arith, nat_tests)

zeros_small : (n i : ℕ) → slice_index (replicate n 0) i < 2 ^ 8
zeros_small zero i = omega arith
zeros_small (suc n) zero = omega arith
zeros_small (suc n) (suc i) = zeros_small n i

module _ (bytes : List ℕ) (are : AreBytes bytes) where
  two_fit : (at : ℕ) → little_number 2 (drop at bytes) < 2 ^ 16
  two_fit at = little_from-lt 0 2 (drop at bytes) (λ i. rw (get_or-drop at bytes i 0) (are (at + i)))

  word_fits : (at : ℕ) → u16_at bytes at < 2 ^ 16
  unfolding u16_at
  word_fits at = two_fit at

  part_small : (n at i : ℕ) → slice_index (take n (drop at bytes)) i < 2 ^ 8
  part_small n at i =
      ⊎_elim (λ (lt : i < n). rw (get_or-take n (drop at bytes) i 0 lt, get_or-drop at bytes i 0) (are (at + i)))
      (λ (past : n ≤ i). rw (get_or_past (take n (drop at bytes)) i 0 (omega (arith, past, length-take n (drop at bytes)))) (omega arith)) (cases_lt i n)

  return_small : (extended : Bool) → return_number_of extended bytes ≤ 15
  unfolding return_number_of
  return_small true = omega (arith, few_bits (slice_index bytes 14) 0 4)
  return_small false = omega (arith, few_bits (slice_index bytes 14) 0 3)

  returns_small : (extended : Bool) → number_of_returns_of extended bytes ≤ 15
  unfolding number_of_returns_of
  returns_small true = omega (arith, few_bits (slice_index bytes 14) 4 4)
  returns_small false = omega (arith, few_bits (slice_index bytes 14) 3 3)

  direction_small : (extended : Bool) → scan_direction_of extended bytes ≤ 1
  unfolding scan_direction_of
  direction_small true = omega (arith, few_bits (slice_index bytes 15) 6 1)
  direction_small false = omega (arith, few_bits (slice_index bytes 14) 6 1)

  edge_small : (extended : Bool) → edge_of extended bytes ≤ 1
  unfolding edge_of
  edge_small true = omega (arith, few_bits (slice_index bytes 15) 7 1)
  edge_small false = omega (arith, few_bits (slice_index bytes 14) 7 1)

  class_small : (extended : Bool) → class_of extended bytes < 2 ^ 8
  unfolding class_of
  class_small true = are 16
  class_small false = omega (arith, few_bits (slice_index bytes 15) 0 5)

  flags_small : (extended : Bool) → class_flags_of extended bytes ≤ 15
  unfolding class_flags_of
  flags_small true = omega (arith, few_bits (slice_index bytes 15) 0 4)
  flags_small false = omega (arith, few_bits (slice_index bytes 15) 5 3)

  channel_small : (extended : Bool) → channel_of extended bytes ≤ 3
  unfolding channel_of
  channel_small true = omega (arith, few_bits (slice_index bytes 15) 4 2)
  channel_small false = omega arith

  rank_small : (extended : Bool) → FitsSigned w8 (angle_rank_of extended bytes)
  unfolding angle_rank_of i8_at
  rank_small true = omega (arith, ints)
  rank_small false = rank_fits (slice_index bytes 16) (are 16)

  angle_small : (extended : Bool) → FitsSigned w16 (angle_of extended bytes)
  unfolding angle_of i16_at
  angle_small true = angle_fits (little_number 2 (drop 18 bytes)) (two_fit 18)
  angle_small false = omega (arith, ints)

  source_small : (extended : Bool) → source_id_of extended bytes < 2 ^ 16
  unfolding source_id_of
  source_small true = word_fits 20
  source_small false = word_fits 18

  gps_length : (place : Option ℕ) → IfSome place (λ at. at + 8 ≤ length bytes) → length (gps_of place bytes) ≡ 8
  gps_length None room = length-replicate {A = ℕ} 8 0
  gps_length (Some at) room = length-take-le 8 (drop at bytes) (omega (arith, room, length-drop at bytes))

  gps_small : (place : Option ℕ) (i : ℕ) → slice_index (gps_of place bytes) i < 2 ^ 8
  gps_small None i = zeros_small 8 i
  gps_small (Some at) i = part_small 8 at i

  colour_small : (place : Option ℕ) (which : ℕ) → colour_of place which bytes < 2 ^ 16
  colour_small None which = omega arith
  colour_small (Some at) which = word_fits (at + 2 * which)

room_more : (place : Option ℕ) (a size have : ℕ) → size ≤ have → IfSome place (λ at. at + a ≤ size) → IfSome place (λ at. at + a ≤ have)
room_more None a size have more room = tt
room_more (Some at) a size have more room = omega (arith, more, room)

-- a record with a place holds a point, which lies there
pub place_has_point : PlaceHasPoint
place_has_point format shift source number bytes place is room are source_fits number_fits at = (
  record {
    x = coordinate shift bytes 0;
    y = coordinate shift bytes 1;
    z = coordinate shift bytes 2;
    intensity = intensity_of bytes;
    return_number = return_number_of (is_extended format) bytes;
    number_of_returns = number_of_returns_of (is_extended format) bytes;
    scan_direction = scan_direction_of (is_extended format) bytes;
    edge = edge_of (is_extended format) bytes;
    class = class_of (is_extended format) bytes;
    class_flags = class_flags_of (is_extended format) bytes;
    channel = channel_of (is_extended format) bytes;
    angle_rank = angle_rank_of (is_extended format) bytes;
    angle = angle_of (is_extended format) bytes;
    user = user_of bytes;
    source_id = source_id_of (is_extended format) bytes;
    gps = gps_of (gps_place format) bytes;
    red = colour_of (colour_place format) 0 bytes;
    green = colour_of (colour_place format) 1 bytes;
    blue = colour_of (colour_place format) 2 bytes;
    origin = source;
    number = number;
    return_number_bound = return_small bytes are (is_extended format);
    number_of_returns_bound = returns_small bytes are (is_extended format);
    scan_direction_bound = direction_small bytes are (is_extended format);
    edge_bound = edge_small bytes are (is_extended format);
    class_flags_bound = flags_small bytes are (is_extended format);
    channel_bound = channel_small bytes are (is_extended format);
    widths = record {
      x_fits = at.in_units 0 (omega arith);
      y_fits = at.in_units 1 (omega arith);
      z_fits = at.in_units 2 (omega arith);
      intensity_fits = word_fits bytes are 12;
      class_fits = class_small bytes are (is_extended format);
      angle_rank_fits = rank_small bytes are (is_extended format);
      angle_fits = angle_small bytes are (is_extended format);
      user_fits = are 17;
      source_id_fits = source_small bytes are (is_extended format);
      gps_length = gps_length bytes are (gps_place format) (room_more (gps_place format) 8 (record_length format) (length bytes) room (gps_room format is));
      gps_bytes = gps_small bytes are (gps_place format);
      red_fits = colour_small bytes are (colour_place format) 0;
      green_fits = colour_small bytes are (colour_place format) 1;
      blue_fits = colour_small bytes are (colour_place format) 2;
      origin_fits = source_fits;
      number_fits = number_fits;
    };
  },
  record {
    x_is = refl;
    y_is = refl;
    z_is = refl;
    intensity_is = refl;
    return_number_is = refl;
    number_of_returns_is = refl;
    scan_direction_is = refl;
    edge_is = refl;
    class_is = refl;
    class_flags_is = refl;
    channel_is = refl;
    angle_rank_is = refl;
    angle_is = refl;
    user_is = refl;
    source_id_is = refl;
    gps_is = refl;
    red_is = refl;
    green_is = refl;
    blue_is = refl;
    origin_is = refl;
    number_is = refl;
  },
  record { x = sym at.x_is; y = sym at.y_is; z = sym at.z_is },
)
