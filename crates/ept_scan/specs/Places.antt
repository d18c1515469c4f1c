-- The place of the second reading in a file.
use Rattle.std.specs.Prelude.{◌≡◌, ℕ, ◌+◌, ◌*◌, ◌≤◌, max, List, Option, Some, None, length}
use Rattle.std.specs.Io.KnownBytes.{prepend_known}
use Rattle.ept_base.specs.Files.{Tells}
use Rattle.ept_las.specs.declared.header.Header.{Header}
use Rattle.ept_las.specs.Format.{IsFormat, record_length}
use Rattle.ept_scan.specs.declared.reading.Reading.{Reading}
use Rattle.ept_scan.specs.LasFile.{longest_header, HasHeader}
use Rattle.ept_scan.specs.Reach.{Skips, end_of}

-- The header was read and states this number of points. The bytes ahead are those from record n on. No byte past the
-- last record was read, except those that may belong to a header.
pub record IsWithinFile (reading : Reading) (points : ℕ) (whole left : Option (List ℕ))
    (window : List ℕ) (n : ℕ) (header : Header) : Type 0 where
  pub format : IsFormat header.format
  pub size : record_length header.format ≤ header.length
  pub stated : header.points ≡ points
  pub has_header : Tells (λ file. HasHeader reading file header) whole
  pub place : Skips whole (prepend_known window left) (header.offset + header.length * n)
  pub reach : length window + (header.offset + header.length * n) ≤ max longest_header (end_of header)

-- At most the bytes of the file up to record n were given, and those in the window. No byte was given if the header was
-- not read yet.
abbrev pub GivenAt : ℕ → List ℕ → ℕ → Option Header → Type 0
GivenAt given window n None = given ≡ 0
GivenAt given window n (Some header) = given ≤ length window + (header.offset + header.length * n)

-- the reading is before record n of a file, or at its first byte if the header was not read yet
abbrev pub StandsAt : Reading → ℕ → Option (List ℕ) → Option (List ℕ) → List ℕ → ℕ → Option Header → Type 0
StandsAt reading points whole left window n None = left ≡ whole
StandsAt reading points whole left window n (Some header) =
    IsWithinFile reading points whole left window n header
