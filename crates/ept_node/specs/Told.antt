-- The points that bytes decode to, for a node with a count: the points of the tile, if the bytes are the node's tile.
-- Whatever the bytes are, the number of points is the node's count, each lies in the node's box, and they are in id
-- order.
use Rattle.std.specs.Prelude.{ℕ, zero, suc, ◌-◌, ◌*◌, ◌^◌, ◌<◌, ◌≤◌, min, ℤ, pos, negsuc, ◌+ℤ◌, FitsSigned, List, [], ◌∷◌, length, take, drop, slice_index, unwrap_or, refl, if◌then◌else◌}
use Rattle.std.specs.Int.{Width, w32, cast_signed, saturate_signed, int_min, int_max}
use Rattle.std.proofs.Common.{arith}
use Rattle.std.proofs.lemmas.Nat.{pow_pos}
use mir.Val.{hbits}
use Rattle.ept_point.specs.declared.point.Point.{Point}
use Rattle.ept_point.specs.Dimensions.{Dimension, packed_width, word, X, Y, Z, Intensity, ReturnNumber, NumberOfReturns, ScanDirectionFlag, EdgeOfFlightLine, Classification, ClassFlags, ScanChannel, ScanAngleRank, ScanAngle, UserData, PointSourceId, GpsTime, Red, Green, Blue, OriginId, PointId}
use Rattle.ept_point.specs.Packed.{number_in}
use Rattle.ept_space.specs.Place.{coordinate}
use Rattle.ept_space.specs.OctreeCube.{OctreeCube, box_side}
use Rattle.ept_space.specs.VoxelKey.{VoxelKey}
use Rattle.ept_sample.specs.Ids.{comes_before}

-- ---- a point

-- the bytes of a dimension that begins at this place of a packed point
abbrev pub piece : Dimension → ℕ → List ℕ → List ℕ
piece dimension at bytes = take dimension.width (drop at bytes)

-- the number in them, no greater than the dimension's greatest value
abbrev pub number_told : Dimension → ℕ → List ℕ → ℕ
number_told dimension at bytes =
    min (number_in (piece dimension at bytes)) (unwrap_or dimension.greatest (2 ^ (8 * dimension.width) - 1))

-- the signed number in them, within the dimension's width
abbrev pub signed_told : Dimension → ℕ → List ℕ → ℤ
signed_told dimension at bytes =
    saturate_signed (word dimension) (cast_signed (word dimension) (number_in (piece dimension at bytes)))

-- eight bytes
abbrev pub byte_told : List ℕ → ℕ → ℕ
byte_told bytes i = min (slice_index bytes i) 255

abbrev pub eight_told : List ℕ → List ℕ
eight_told bytes =
    byte_told bytes 0 ∷ byte_told bytes 1 ∷ byte_told bytes 2 ∷ byte_told bytes 3 ∷ byte_told bytes 4 ∷ byte_told bytes 5
    ∷ byte_told bytes 6 ∷ byte_told bytes 7 ∷ []

-- a coordinate moved into the interval of this length from the least coordinate on
abbrev pub brought : ℤ → ℕ → ℤ → ℤ
brought least length at = int_max least (int_min (least +ℤ pos (length - 1)) at)

-- a coordinate on the axis of this number, moved into the box of a key; the key's index on that axis is given
abbrev pub in_box : OctreeCube → ℕ → ℕ → ℕ → ℤ → ℤ
in_box cube depth axis index at =
    saturate_signed w32 (brought (coordinate cube.corner axis +ℤ pos (index * box_side cube depth)) (box_side cube depth) at)

-- what each of these keeps

pub below_limit : (n limit : ℕ) → min n limit ≤ limit
below_limit n limit = omega arith

pub below_power : (n width : ℕ) → min n (2 ^ width - 1) < 2 ^ width
below_power n width = omega (arith, pow_pos width)

pub saturated : (w : Width) (z : ℤ) → FitsSigned w (saturate_signed w z)
saturated w (pos n) = record { sfits = below_power n (hbits w) }
saturated w (negsuc n) = record { sfits = below_power n (hbits w) }

pub are_bytes : (bytes : List ℕ) (i : ℕ) → slice_index (eight_told bytes) i < 2 ^ 8
are_bytes bytes zero = omega arith
are_bytes bytes (suc zero) = omega arith
are_bytes bytes (suc (suc zero)) = omega arith
are_bytes bytes (suc (suc (suc zero))) = omega arith
are_bytes bytes (suc (suc (suc (suc zero)))) = omega arith
are_bytes bytes (suc (suc (suc (suc (suc zero))))) = omega arith
are_bytes bytes (suc (suc (suc (suc (suc (suc zero)))))) = omega arith
are_bytes bytes (suc (suc (suc (suc (suc (suc (suc zero))))))) = omega arith
are_bytes bytes (suc (suc (suc (suc (suc (suc (suc (suc i)))))))) = omega arith

-- the point of the box of a key that the bytes decode to
unfoldable pub point_told : OctreeCube → VoxelKey → List ℕ → Point
point_told cube key bytes = record {
  x = in_box cube key.depth 0 key.x (signed_told X 0 bytes);
  y = in_box cube key.depth 1 key.y (signed_told Y 4 bytes);
  z = in_box cube key.depth 2 key.z (signed_told Z 8 bytes);
  intensity = number_told Intensity 12 bytes;
  return_number = number_told ReturnNumber 14 bytes;
  number_of_returns = number_told NumberOfReturns 15 bytes;
  scan_direction = number_told ScanDirectionFlag 16 bytes;
  edge = number_told EdgeOfFlightLine 17 bytes;
  class = number_told Classification 18 bytes;
  class_flags = number_told ClassFlags 19 bytes;
  channel = number_told ScanChannel 20 bytes;
  angle_rank = signed_told ScanAngleRank 21 bytes;
  angle = signed_told ScanAngle 22 bytes;
  user = number_told UserData 24 bytes;
  source_id = number_told PointSourceId 25 bytes;
  gps = eight_told (piece GpsTime 27 bytes);
  red = number_told Red 35 bytes;
  green = number_told Green 37 bytes;
  blue = number_told Blue 39 bytes;
  origin = number_told OriginId 41 bytes;
  number = number_told PointId 45 bytes;
  return_number_bound = below_limit _ 15;
  number_of_returns_bound = below_limit _ 15;
  scan_direction_bound = below_limit _ 1;
  edge_bound = below_limit _ 1;
  class_flags_bound = below_limit _ 15;
  channel_bound = below_limit _ 3;
  widths = record {
    x_fits = saturated w32 _;
    y_fits = saturated w32 _;
    z_fits = saturated w32 _;
    intensity_fits = below_power _ 16;
    class_fits = below_power _ 8;
    angle_rank_fits = saturated _ _;
    angle_fits = saturated _ _;
    user_fits = below_power _ 8;
    source_id_fits = below_power _ 16;
    gps_length = refl;
    gps_bytes = are_bytes (piece GpsTime 27 bytes);
    red_fits = below_power _ 16;
    green_fits = below_power _ 16;
    blue_fits = below_power _ 16;
    origin_fits = below_power _ 32;
    number_fits = below_power _ 64;
  };
}

-- ---- all of them

-- `count` points, each read from the bytes of the next packed point
unfoldable pub points_read : OctreeCube → VoxelKey → ℕ → List ℕ → List Point
points_read cube key zero bytes = []
points_read cube key (suc count) bytes =
    point_told cube key (take packed_width bytes) ∷ points_read cube key count (drop packed_width bytes)

-- a point put before the first point that does not come before it
abbrev pub put_in_order : Point → List Point → List Point
put_in_order p [] = p ∷ []
put_in_order p (q ∷ points) = if comes_before q p then q ∷ put_in_order p points else p ∷ q ∷ points

-- the points in id order; points with the same id stay in their order
unfoldable pub ordered : List Point → List Point
ordered [] = []
ordered (p ∷ points) = put_in_order p (ordered points)

-- the points that the bytes decode to, for a node with this count
unfoldable pub points_told : OctreeCube → VoxelKey → ℕ → List ℕ → List Point
points_told cube key count bytes = ordered (points_read cube key count bytes)

-- the least place of a key's box is one that a point can have
pub record HasPlaces (cube : OctreeCube) (key : VoxelKey) : Type 0 where
  pub x : FitsSigned w32 (coordinate cube.corner 0 +ℤ pos (key.x * box_side cube key.depth))
  pub y : FitsSigned w32 (coordinate cube.corner 1 +ℤ pos (key.y * box_side cube key.depth))
  pub z : FitsSigned w32 (coordinate cube.corner 2 +ℤ pos (key.z * box_side cube key.depth))
