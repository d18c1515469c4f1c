-- A LAS file as a list of points (LAS 1.4 R15, sections 2.4 and 2.6): a function of the whole file.
use Rattle.std.specs.Prelude.{◌≡◌, ◌⊎◌, ℕ, ◌+◌, ◌*◌, ◌<◌, ◌≤◌, List, Ok, length, take, drop, slice_index_or}
use Rattle.ept_point.specs.declared.point.Point.{Point}
use Rattle.ept_config.specs.Counts.{most_points}
use Rattle.ept_las.specs.declared.header.Header.{Header}
use Rattle.ept_las.specs.LasHeader.{HeaderReadsAs}
use Rattle.ept_las.specs.PointRecord.{IsPointOf, IsOutOfUnits}
use Rattle.ept_scan.specs.declared.reading.Reading.{Reading}
use Rattle.ept_scan.specs.Extents.{IsAllowed}

-- the longest header, in bytes: that of LAS 1.4
abbrev pub longest_header : ℕ
longest_header = 375

-- the bytes that may belong to the header
abbrev pub head_of : List ℕ → List ℕ
head_of file = take longest_header file

-- the file has this header, which has no fault
abbrev pub HasHeader : Reading → List ℕ → Header → Type 0
HasHeader reading file header = HeaderReadsAs (head_of file) reading.expect (Ok header)

-- the file from its first record on
abbrev pub records_of : Header → List ℕ → List ℕ
records_of header file = drop header.offset file

-- the bytes of record n, of the bytes from the first record on
abbrev pub record_at : Header → List ℕ → ℕ → List ℕ
record_at header records n = take header.length (drop (header.length * n) records)

-- the last byte of record n is within the file
abbrev pub IsWhole : Header → List ℕ → ℕ → Type 0
IsWhole header records n = header.length * (n + 1) ≤ length records

-- the last byte of record n is past the file's end
abbrev pub IsTruncated : Header → List ℕ → ℕ → Type 0
IsTruncated header records n = length records < header.length * (n + 1)

-- record n is whole and has this point, which lies where points may lie
pub record IsPointAt (reading : Reading) (header : Header) (records : List ℕ) (n : ℕ)
    (p : Point) : Type 0 where
  pub whole : IsWhole header records n
  pub point : IsPointOf header.format reading.shift reading.origin n (record_at header records n) p
  pub allowed : IsAllowed reading.limits p

-- the bytes of a record have a place that does not fit into 32 bits, or one outside the limits
abbrev pub IsOutside : Reading → ℕ → ℕ → List ℕ → Type 0
IsOutside reading format n bytes =
    IsOutOfUnits reading.shift bytes
    ⊎ ((p : Point) × IsPointOf format reading.shift reading.origin n bytes p
    × ¬ IsAllowed reading.limits p)

-- record n is whole, and has such a place
pub record IsOutsideAt (reading : Reading) (header : Header) (records : List ℕ) (n : ℕ) : Type 0 where
  pub whole : IsWhole header records n
  pub outside : IsOutside reading header.format n (record_at header records n)

-- the points of the first n records, in order
pub record AreFirstPoints (reading : Reading) (header : Header) (records : List ℕ) (n : ℕ)
    (points : List Point) : Type 0 where
  pub count : length points ≡ n
  pub each : (k : ℕ) (d : Point) → k < n → IsPointAt reading header records k (slice_index_or points k d)

-- the file reads as these points
pub record ArePointsOf (reading : Reading) (file : List ℕ) (points : List Point) : Type 0 where
  pub header : Header
  pub has_header : HasHeader reading file header
  pub few : header.points ≤ most_points
  pub are : AreFirstPoints reading header (records_of header file) header.points points
