use Rattle.std.specs.Prelude.{ℕ, ◌≡◌, ◌<◌, ◌≤◌, ◌^◌, List, Option, Result, length}
use Rattle.ept_point.specs.declared.point.Point.{Point}
use Rattle.ept_las.specs.declared.header.Header.{Header}
use Rattle.ept_las.specs.declared.las_error.LasError.{LasError}
use Rattle.ept_las.specs.LasHeader.{HeaderReadsAs}
use Rattle.ept_las.specs.declared.shift.Shift.{Shift}
use Rattle.ept_las.specs.declared.place.Place.{Place}
use Rattle.ept_las.specs.Format.{IsFormat, record_length}
use Rattle.ept_las.specs.Words.{AreBytes}
use Rattle.ept_las.specs.Shifts.{IsIdentity}
use Rattle.ept_las.specs.PointRecord.{IsOutOfUnits, IsPlaceOf, LiesAt, IsPointOf, RecordReadsAs}

-- the first bytes of a file read in one way only
abbrev pub HeaderInOneWay : Type 0
HeaderInOneWay = (head : List ℕ) (expect : Option (List ℕ)) (a b : Result Header LasError) → HeaderReadsAs head expect a → HeaderReadsAs head expect b → a ≡ b

-- a record reads in one way only
abbrev pub RecordInOneWay : Type 0
RecordInOneWay = (format : ℕ) (shift : Shift) (source number : ℕ) (bytes : List ℕ) (a b : Option Point) → RecordReadsAs format shift source number bytes a → RecordReadsAs format shift source number bytes b → a ≡ b

-- raw coordinates that are stored unchanged fit
abbrev pub IdentityIsInUnits : Type 0
IdentityIsInUnits = (shift : Shift) (bytes : List ℕ) → AreBytes bytes → IsIdentity shift → ¬ IsOutOfUnits shift bytes

-- a record of a format that has its place in units holds a point, which lies at this place
abbrev pub PlaceHasPoint : Type 0
PlaceHasPoint = (format : ℕ) (shift : Shift) (source number : ℕ) (bytes : List ℕ) (place : Place)
    → IsFormat format → record_length format ≤ length bytes → AreBytes bytes
    → source < 2 ^ 32 → number < 2 ^ 64 → IsPlaceOf shift bytes place
    → (p : Point) × IsPointOf format shift source number bytes p × LiesAt place p
