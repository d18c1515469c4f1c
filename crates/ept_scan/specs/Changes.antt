-- How a file differs from what the first reading found.
use Rattle.std.specs.Prelude.{◌≡◌, ◌≢◌, ◌⊎◌, ℕ, ◌<◌, List, Option, Err, ⊤}
use Rattle.ept_base.specs.declared.errors.GetError.{GetError}
use Rattle.ept_base.specs.declared.errors.GetError.TheVariants as get
use Rattle.ept_base.specs.Files.{Tells}
use Rattle.ept_point.specs.declared.point.Point.{Point}
use Rattle.ept_las.specs.declared.header.Header.{Header}
use Rattle.ept_las.specs.declared.las_error.LasError.{LasError}
use Rattle.ept_las.specs.LasHeader.{HeaderReadsAs}
use Rattle.ept_scan.specs.declared.reading.Reading.{Reading}
use Rattle.ept_scan.specs.declared.scan_error.ScanError.{ScanError}
use Rattle.ept_scan.specs.declared.scan_error.ScanError.TheVariants as scan
use Rattle.ept_scan.specs.declared.read_error.ReadError.{ReadError}
use Rattle.ept_scan.specs.declared.read_error.ReadError.TheVariants.{SourceFault, SourceChanged, Memory}
use Rattle.ept_scan.specs.LasFile.{head_of, HasHeader, records_of, IsTruncated, IsOutsideAt, IsPointAt}

-- the file has a header that states this number of points
pub record StatesPoints (reading : Reading) (points : ℕ) (file : List ℕ) (header : Header) : Type 0 where
  pub has_header : HasHeader reading file header
  pub stated : header.points ≡ points

-- the header is refused, or states another number of points
abbrev pub HeaderDiffers : Reading → ℕ → List ℕ → Type 0
HeaderDiffers reading points file = ((fault : LasError)
    × HeaderReadsAs (head_of file) reading.expect (Err fault))
    ⊎ ((header : Header) × HasHeader reading file header × (header.points ≢ points))

-- record n is one of those stated, and it ends early or its point does not lie where points may lie
abbrev pub RecordDiffers : Reading → ℕ → List ℕ → ℕ → Type 0
RecordDiffers reading points file n =
    (n < points) × (header : Header) × StatesPoints reading points file header
    × (IsTruncated header (records_of header file) n
    ⊎ IsOutsideAt reading header (records_of header file) n)

-- If the file is visible, it differs at number n. Either n is 0 and its header differs, or n is the next record and
-- this record differs.
abbrev pub Differs : Reading → ℕ → Option (List ℕ) → ℕ → ℕ → Type 0
Differs reading points file next n =
    ((n ≡ 0) × Tells (HeaderDiffers reading points) file)
    ⊎ ((n ≡ next) × Tells (λ bytes. RecordDiffers reading points bytes next) file)

-- What a refusal says of a source and a number if it reports a change. A fault of the device says nothing of them, nor
-- does running out of memory.
abbrev pub IfChanged : (ℕ → ℕ → Type 0) → ReadError → Type 0
IfChanged Fact SourceFault = ⊤
IfChanged Fact Memory = ⊤
IfChanged Fact (SourceChanged source n) = Fact source n

-- why a file with this next record is refused as changed
abbrev pub IsChange : Reading → ℕ → ℕ → Option (List ℕ) → ReadError → Type 0
IsChange reading points next file =
    IfChanged (λ source n. (source ≡ reading.origin) × Differs reading points file next n)

-- record n of a file that states this number of points has this point
abbrev pub HasRecord : Reading → ℕ → List ℕ → ℕ → Point → Type 0
HasRecord reading points file n p = (header : Header) × StatesPoints reading points file header
    × IsPointAt reading header (records_of header file) n p

-- what is returned if a source cannot be opened
abbrev pub read_error_of : GetError → ReadError
read_error_of get.Failed = SourceFault
read_error_of get.Memory = Memory

-- the error for a refused header
abbrev pub change_of : ScanError → ℕ → ReadError
change_of scan.SourceFault origin = SourceFault
change_of scan.Memory origin = SourceChanged origin 0
change_of scan.NoBounds origin = SourceChanged origin 0
change_of (scan.BadLas source fault) origin = SourceChanged origin 0
change_of (scan.OutOfBounds source number) origin = SourceChanged origin 0
change_of (scan.TooManyPoints source) origin = SourceChanged origin 0
