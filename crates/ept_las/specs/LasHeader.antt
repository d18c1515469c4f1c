-- The public header block of LAS 1.2 to 1.4 (LAS 1.4 R15, section 2.4), by the first bytes of a file.
use Rattle.std.specs.Prelude.{ℕ, ◌≡◌, ◌≢◌, ◌<◌, ◌⊎◌, List, Option, None, Some, Result, Ok, Err, codes, length, take, drop, slice_index, if◌then◌else◌, ◌==◌, ◌&&◌, not}
use Rattle.ept_las.specs.declared.header.Header.{Header}
use Rattle.ept_las.specs.declared.las_error.LasError.{LasError}
use Rattle.ept_las.specs.declared.las_error.LasError.TheVariants.{Short, Signature, Version, HeaderSize, Compressed, Format, RecordLength, PointOffset, Expect, Truncated}
use Rattle.ept_las.specs.Words.{u16_at, u32_at, u64_at, bits}
use Rattle.ept_las.specs.Format.{IsFormat, record_length}

-- ---- the fields that are read, by the names that the standard gives them, at their places in bytes

-- Version Major, and Version Minor
abbrev pub major_of : List ℕ → ℕ
major_of head = slice_index head 24

abbrev pub minor_of : List ℕ → ℕ
minor_of head = slice_index head 25

-- Header Size
abbrev pub header_size_of : List ℕ → ℕ
header_size_of head = u16_at head 94

-- Offset to Point Data
abbrev pub point_offset_of : List ℕ → ℕ
point_offset_of head = u32_at head 96

-- Point Data Record Format
abbrev pub format_of : List ℕ → ℕ
format_of head = slice_index head 104

-- Point Data Record Length
abbrev pub stated_length_of : List ℕ → ℕ
stated_length_of head = u16_at head 105

-- Legacy Number of Point Records
abbrev pub legacy_points_of : List ℕ → ℕ
legacy_points_of head = u32_at head 107

-- X, Y and Z Scale Factor, X, Y and Z Offset: six numbers of 8 bytes
abbrev pub scales_of : List ℕ → List ℕ
scales_of head = take 48 (drop 131 head)

-- Number of Point Records, from LAS 1.4 on
abbrev pub new_points_of : List ℕ → ℕ
new_points_of head = u64_at head 247

-- ---- which values they have to have

-- the least size of the header of a version: of LAS 1.4, of 1.2, of 1.3
abbrev pub least_size : ℕ → ℕ
least_size minor = if minor == 4 then 375 else (if minor == 2 then 227 else 235)

-- the number of points: that of 64 bits if the version has it and it is not 0, otherwise the legacy number
unfoldable pub points_of : List ℕ → ℕ
points_of head =
    if (minor_of head == 4) && not (new_points_of head == 0)
    then new_points_of head
    else legacy_points_of head

-- scales and offsets are not the expected bytes
abbrev pub DiffersFrom : Option (List ℕ) → List ℕ → Type 0
DiffersFrom None head = ⊥
DiffersFrom (Some expect) head = scales_of head ≢ expect

-- the version is not 1.2, 1.3 or 1.4
abbrev pub HasOtherVersion : List ℕ → Type 0
HasOtherVersion head = (major_of head ≢ 1) ⊎ (minor_of head < 2) ⊎ (4 < minor_of head)

-- the stated header size, or the file, is below the version's least header size
abbrev pub HasShortHeader : List ℕ → Type 0
HasShortHeader head =
    (header_size_of head < least_size (minor_of head)) ⊎ (length head < least_size (minor_of head))

-- what is wrong with a header, each fault by itself
abbrev pub HasFault : List ℕ → Option (List ℕ) → LasError → Type 0
HasFault head expect Short = length head < 227
HasFault head expect Signature = take 4 head ≢ codes "LASF"
HasFault head expect Version = HasOtherVersion head
HasFault head expect HeaderSize = HasShortHeader head
-- a compressed file sets one of the two highest bits of its format
HasFault head expect Compressed = bits (format_of head) 6 2 ≢ 0
HasFault head expect Format = ¬ IsFormat (format_of head)
HasFault head expect RecordLength = stated_length_of head < record_length (format_of head)
HasFault head expect PointOffset = point_offset_of head < header_size_of head
HasFault head expect Expect = DiffersFrom expect head
HasFault head expect (Truncated number) = ⊥

-- the code of a fault; faults are checked in this order
abbrev pub code_of : LasError → ℕ
code_of Short = 1
code_of Signature = 2
code_of Version = 3
code_of HeaderSize = 4
code_of Compressed = 5
code_of Format = 6
code_of RecordLength = 7
code_of PointOffset = 8
code_of Expect = 9
code_of (Truncated number) = 10

-- no fault with a code below n
abbrev pub HasNoneBelow : List ℕ → Option (List ℕ) → ℕ → Type 0
HasNoneBelow head expect n = (f : LasError) → code_of f < n → ¬ HasFault head expect f

-- what a header without a fault says
pub record IsHeaderOf (head : List ℕ) (header : Header) : Type 0 where
  pub minor_is : header.minor ≡ minor_of head
  pub format_is : header.format ≡ format_of head
  pub length_is : header.length ≡ stated_length_of head
  pub offset_is : header.offset ≡ point_offset_of head
  pub points_is : header.points ≡ points_of head

-- The first bytes of a file, all of them or 375, read as a header, or as the first fault.
abbrev pub HeaderReadsAs : List ℕ → Option (List ℕ) → Result Header LasError → Type 0
HeaderReadsAs head expect (Ok header) = HasNoneBelow head expect 10 × IsHeaderOf head header
HeaderReadsAs head expect (Err fault) = HasNoneBelow head expect (code_of fault) × HasFault head expect fault

-- the first fault, if there is one
abbrev pub FirstFaultIs : List ℕ → Option (List ℕ) → Option LasError → Type 0
FirstFaultIs head expect None = HasNoneBelow head expect 10
FirstFaultIs head expect (Some fault) = HasNoneBelow head expect (code_of fault) × HasFault head expect fault
