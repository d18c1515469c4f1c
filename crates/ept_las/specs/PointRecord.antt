-- A point data record (LAS 1.4 R15, section 2.6): the place of each field of a point in it.
use Rattle.std.specs.Prelude.{ℕ, ℤ, ◌≡◌, ◌<◌, ◌+◌, ◌*◌, List, Option, Some, None, slice_index, take, drop, replicate, FitsSigned}
use Rattle.std.specs.Int.{w32}
use Rattle.ept_point.specs.declared.point.Point.{Point}
use Rattle.ept_las.specs.declared.shift.Shift.{Shift}
use Rattle.ept_las.specs.declared.place.Place.{Place}
use Rattle.ept_las.specs.Words.{u16_at, i32_at}
use Rattle.ept_las.specs.Pulses.{return_number_of, number_of_returns_of, scan_direction_of, edge_of, class_of, class_flags_of, channel_of, angle_rank_of, angle_of, source_id_of}
use Rattle.ept_las.specs.Shifts.{stored}
use Rattle.ept_las.specs.Format.{is_extended, gps_place, colour_place}

-- the stored coordinate on an axis from 0 to 2: X, Y and Z come first in a record, with four bytes each
abbrev pub coordinate : Shift → List ℕ → ℕ → ℤ
coordinate shift bytes axis = stored shift axis (i32_at bytes (4 * axis))

-- a stored coordinate does not fit into 32 bits
abbrev pub IsOutOfUnits : Shift → List ℕ → Type 0
IsOutOfUnits shift bytes = (axis : ℕ) × (axis < 3) × ¬ FitsSigned w32 (coordinate shift bytes axis)

-- the place of a record, if each stored coordinate fits into 32 bits
pub record IsPlaceOf (shift : Shift) (bytes : List ℕ) (place : Place) : Type 0 where
  pub x_is : place.x ≡ coordinate shift bytes 0
  pub y_is : place.y ≡ coordinate shift bytes 1
  pub z_is : place.z ≡ coordinate shift bytes 2
  pub in_units : (axis : ℕ) → axis < 3 → FitsSigned w32 (coordinate shift bytes axis)

-- what a record reads as: its place, or none if a stored coordinate is out of units
abbrev pub PlaceReadsAs : Shift → List ℕ → Option Place → Type 0
PlaceReadsAs shift bytes None = IsOutOfUnits shift bytes
PlaceReadsAs shift bytes (Some place) = IsPlaceOf shift bytes place

-- a point lies at a place
pub record LiesAt (place : Place) (p : Point) : Type 0 where
  pub x : p.x ≡ place.x
  pub y : p.y ≡ place.y
  pub z : p.z ≡ place.z

-- GPS Time: eight bytes if the format has a place for them, otherwise zeros
abbrev pub gps_of : Option ℕ → List ℕ → List ℕ
gps_of None bytes = replicate 8 0
gps_of (Some at) bytes = take 8 (drop at bytes)

-- Red, Green or Blue, numbered from 0 to 2: two bytes each, one after another, or zero
abbrev pub colour_of : Option ℕ → ℕ → List ℕ → ℕ
colour_of None which bytes = 0
colour_of (Some at) which bytes = u16_at bytes (at + 2 * which)

-- Intensity, and User Data
abbrev pub intensity_of : List ℕ → ℕ
intensity_of bytes = u16_at bytes 12

abbrev pub user_of : List ℕ → ℕ
user_of bytes = slice_index bytes 17

-- the point that a record of this format holds, if it is record `number` of scan `source`
pub record IsPointOf (format : ℕ) (shift : Shift) (source number : ℕ) (bytes : List ℕ) (p : Point) : Type 0 where
  pub x_is : p.x ≡ coordinate shift bytes 0
  pub y_is : p.y ≡ coordinate shift bytes 1
  pub z_is : p.z ≡ coordinate shift bytes 2
  pub intensity_is : p.intensity ≡ intensity_of bytes
  pub return_number_is : p.return_number ≡ return_number_of (is_extended format) bytes
  pub number_of_returns_is : p.number_of_returns ≡ number_of_returns_of (is_extended format) bytes
  pub scan_direction_is : p.scan_direction ≡ scan_direction_of (is_extended format) bytes
  pub edge_is : p.edge ≡ edge_of (is_extended format) bytes
  pub class_is : p.class ≡ class_of (is_extended format) bytes
  pub class_flags_is : p.class_flags ≡ class_flags_of (is_extended format) bytes
  pub channel_is : p.channel ≡ channel_of (is_extended format) bytes
  pub angle_rank_is : p.angle_rank ≡ angle_rank_of (is_extended format) bytes
  pub angle_is : p.angle ≡ angle_of (is_extended format) bytes
  pub user_is : p.user ≡ user_of bytes
  pub source_id_is : p.source_id ≡ source_id_of (is_extended format) bytes
  pub gps_is : p.gps ≡ gps_of (gps_place format) bytes
  pub red_is : p.red ≡ colour_of (colour_place format) 0 bytes
  pub green_is : p.green ≡ colour_of (colour_place format) 1 bytes
  pub blue_is : p.blue ≡ colour_of (colour_place format) 2 bytes
  pub origin_is : p.origin ≡ source
  pub number_is : p.number ≡ number

-- what a record reads as: its point, or none if a stored coordinate is out of units
abbrev pub RecordReadsAs : ℕ → Shift → ℕ → ℕ → List ℕ → Option Point → Type 0
RecordReadsAs format shift source number bytes None = IsOutOfUnits shift bytes
RecordReadsAs format shift source number bytes (Some p) = IsPointOf format shift source number bytes p
