use Rattle.std.specs.Prelude.{ℕ, ℤ, ◌≡◌, ◌<◌, ◌^◌, List, length, slice_index}
use Rattle.ept_point.specs.Dimensions.{Fits, FitsInSigned, X, Y, Z, Intensity, Classification, ScanAngleRank, ScanAngle, UserData, PointSourceId, GpsTime, Red, Green, Blue, OriginId, PointId}

-- What the widths of a point's fields say of its numbers. A definition sees numbers without a width.
pub record FitWidths (x y z : ℤ) (intensity class : ℕ) (angle_rank angle : ℤ) (user source_id : ℕ) (gps : List ℕ) (red green blue origin number : ℕ) : Type 0 where
  pub x_fits : FitsInSigned X x
  pub y_fits : FitsInSigned Y y
  pub z_fits : FitsInSigned Z z
  pub intensity_fits : Fits Intensity intensity
  pub class_fits : Fits Classification class
  pub angle_rank_fits : FitsInSigned ScanAngleRank angle_rank
  pub angle_fits : FitsInSigned ScanAngle angle
  pub user_fits : Fits UserData user
  pub source_id_fits : Fits PointSourceId source_id
  pub gps_length : length gps ≡ GpsTime.width
  pub gps_bytes : (i : ℕ) → slice_index gps i < 2 ^ 8
  pub red_fits : Fits Red red
  pub green_fits : Fits Green green
  pub blue_fits : Fits Blue blue
  pub origin_fits : Fits OriginId origin
  pub number_fits : Fits PointId number
