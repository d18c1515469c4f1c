-- Why a LAS file is refused: the first cause in the order of the header, of the number of points, and of the records.
use Rattle.std.specs.Prelude.{◌≡◌, ◌⊎◌, ℕ, ◌<◌, ◌≤◌, List, Err, ⊤}
use Rattle.ept_point.specs.declared.point.Point.{Point}
use Rattle.ept_las.specs.declared.header.Header.{Header}
use Rattle.ept_las.specs.declared.las_error.LasError.TheVariants.{Truncated}
use Rattle.ept_las.specs.LasHeader.{HeaderReadsAs}
use Rattle.ept_base.specs.declared.errors.GetError.{GetError}
use Rattle.ept_base.specs.declared.errors.GetError.TheVariants as get
use Rattle.ept_scan.specs.declared.reading.Reading.{Reading}
use Rattle.ept_scan.specs.declared.scan_error.ScanError.{ScanError}
use Rattle.ept_scan.specs.declared.scan_error.ScanError.TheVariants.{SourceFault, BadLas, OutOfBounds, TooManyPoints, NoBounds, Memory}
use Rattle.ept_config.specs.Counts.{most_points}
use Rattle.ept_scan.specs.LasFile.{head_of, HasHeader, records_of, IsTruncated, IsOutsideAt, AreFirstPoints}

-- Why a header is refused. A fault of the device says nothing of the file, nor does running out of memory.
abbrev pub HeaderIsRefused : Reading → List ℕ → ScanError → Type 0
HeaderIsRefused reading file (BadLas source fault) = (source ≡ reading.origin)
    × HeaderReadsAs (head_of file) reading.expect (Err fault)
HeaderIsRefused reading file (TooManyPoints source) = (source ≡ reading.origin)
    × ((header : Header) × HasHeader reading file header × most_points < header.points)
HeaderIsRefused reading file (OutOfBounds source number) = ⊥
HeaderIsRefused reading file NoBounds = ⊥
HeaderIsRefused reading file SourceFault = ⊤
HeaderIsRefused reading file Memory = ⊤

-- record n is the first bad one of those stated
pub record IsFirstBad (reading : Reading) (header : Header) (records : List ℕ) (IsBad : ℕ → Type 0)
    (n : ℕ) : Type 0 where
  pub stated : n < header.points
  pub before : List Point
  pub good : AreFirstPoints reading header records n before
  pub bad : IsBad n

-- why the records are refused
abbrev pub RecordsAreRefused : Reading → Header → List ℕ → ScanError → Type 0
RecordsAreRefused reading header records (BadLas source fault) =
    (source ≡ reading.origin) × ((n : ℕ) × (fault ≡ Truncated n)
    × IsFirstBad reading header records (IsTruncated header records) n)
RecordsAreRefused reading header records (OutOfBounds source number) = (source ≡ reading.origin)
    × IsFirstBad reading header records (IsOutsideAt reading header records) number
RecordsAreRefused reading header records (TooManyPoints source) = ⊥
RecordsAreRefused reading header records NoBounds = ⊥
RecordsAreRefused reading header records SourceFault = ⊤
RecordsAreRefused reading header records Memory = ⊤

-- why a file is refused: its header is refused, or the header is accepted and its records are refused
abbrev pub FileIsRefused : Reading → List ℕ → ScanError → Type 0
FileIsRefused reading file error =
    HeaderIsRefused reading file error
    ⊎ ((header : Header) × HasHeader reading file header × (header.points ≤ most_points)
    × RecordsAreRefused reading header (records_of header file) error)

-- The refusal of a file names the place of its input. A fault of the device names none, nor does running out of memory.
abbrev pub NamesInput : ℕ → ScanError → Type 0
NamesInput origin (BadLas source fault) = source ≡ origin
NamesInput origin (OutOfBounds source number) = source ≡ origin
NamesInput origin (TooManyPoints source) = source ≡ origin
NamesInput origin NoBounds = ⊥
NamesInput origin SourceFault = ⊤
NamesInput origin Memory = ⊤

-- what is returned if a source cannot be opened
abbrev pub scan_error_of : GetError → ScanError
scan_error_of get.Failed = SourceFault
scan_error_of get.Memory = Memory
