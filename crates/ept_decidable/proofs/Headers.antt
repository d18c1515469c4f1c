-- The header of a file, if it has one without a fault.
use Rattle.std.proofs.Common.{◌≡◌, inr, ℕ, ◌<◌, true, List, Option, Some, None, Result, Ok, refl, length, take, arith}
use Rattle.std.specs.Prelude.{codes}
use Rattle.ept_las.specs.declared.header.Header.{Header}
use Rattle.ept_las.specs.declared.las_error.LasError.{LasError}
use Rattle.ept_las.specs.declared.las_error.LasError.TheVariants.{Short, Signature, Version, HeaderSize, Compressed, Format, RecordLength, PointOffset, Expect, Truncated}
use Rattle.ept_las.specs.Format.{is_format, record_length}
use Rattle.ept_las.specs.Words.{bits}
use Rattle.ept_las.specs.LasHeader.{major_of, minor_of, header_size_of, point_offset_of, format_of, stated_length_of, points_of, scales_of, least_size, code_of, HasFault, HasNoneBelow, DiffersFrom, HasOtherVersion, HasShortHeader}
use Rattle.ept_las.proofs.HeaderLaws.{header_once}
use Rattle.ept_scan.specs.declared.reading.Reading.{Reading}
use Rattle.ept_scan.specs.LasFile.{head_of, HasHeader}
use Rattle.ept_decidable.proofs.Deciding.{Known, known_not, known_and, known_or, known_like, known_lt, known_eq, known_same, known_numbers}

known_differs : (expect : Option (List ℕ)) (head : List ℕ) → Known (DiffersFrom expect head)
known_differs None head = inr (λ h. h)
known_differs (Some expect) head = known_not (known_numbers (scales_of head) expect)

known_version : (head : List ℕ) → Known (HasOtherVersion head)
known_version head = known_or (known_not (known_eq (major_of head) 1)) (known_or (known_lt (minor_of head) 2) (known_lt 4 (minor_of head)))

known_short : (head : List ℕ) → Known (HasShortHeader head)
known_short head = known_or (known_lt (header_size_of head) (least_size (minor_of head))) (known_lt (length head) (least_size (minor_of head)))

known_fault : (head : List ℕ) (expect : Option (List ℕ)) (fault : LasError) → Known (HasFault head expect fault)
known_fault head expect Short = known_lt (length head) 227
known_fault head expect Signature = known_not (known_numbers (take 4 head) (codes "LASF"))
known_fault head expect Version = known_version head
known_fault head expect HeaderSize = known_short head
known_fault head expect Compressed = known_not (known_eq (bits (format_of head) 6 2) 0)
known_fault head expect Format = known_not (known_same (is_format (format_of head)) true)
known_fault head expect RecordLength = known_lt (stated_length_of head) (record_length (format_of head))
known_fault head expect PointOffset = known_lt (point_offset_of head) (header_size_of head)
known_fault head expect Expect = known_differs expect head
known_fault head expect (Truncated number) = inr (λ h. h)

module _ (head : List ℕ) (expect : Option (List ℕ)) where
  -- the header does not have this fault
  Lacks : LasError → Type 0
  Lacks fault = HasFault head expect fault → ⊥

  known_lacks : (fault : LasError) → Known (Lacks fault)
  unfolding Lacks
  known_lacks fault = known_not (known_fault head expect fault)

  -- the nine faults of a header
  record LacksAll : Type 0 where
    pub short : Lacks Short
    pub signature : Lacks Signature
    pub version : Lacks Version
    pub header_size : Lacks HeaderSize
    pub compressed : Lacks Compressed
    pub format : Lacks Format
    pub record_length : Lacks RecordLength
    pub point_offset : Lacks PointOffset
    pub as_expected : Lacks Expect

  known_all_lacking : Known LacksAll
  known_all_lacking =
      known_like (λ h. record { short = h.0; signature = h.1.0; version = h.1.1.0; header_size = h.1.1.1.0; compressed = h.1.1.1.1.0; format = h.1.1.1.1.1.0; record_length = h.1.1.1.1.1.1.0; point_offset = h.1.1.1.1.1.1.1.0; as_expected = h.1.1.1.1.1.1.1.1 })
      (λ (a : LacksAll). (a.short, (a.signature, (a.version, (a.header_size, (a.compressed, (a.format, (a.record_length, (a.point_offset, a.as_expected)))))))))
      (known_and (known_lacks Short) (known_and (known_lacks Signature) (known_and (known_lacks Version) (known_and (known_lacks HeaderSize) (known_and (known_lacks Compressed) (known_and (known_lacks Format) (known_and (known_lacks RecordLength) (known_and (known_lacks PointOffset) (known_lacks Expect)))))))))

  none_below : LacksAll → (fault : LasError) → code_of fault < 10 → ¬ HasFault head expect fault
  unfolding Lacks
  none_below all Short less = all.short
  none_below all Signature less = all.signature
  none_below all Version less = all.version
  none_below all HeaderSize less = all.header_size
  none_below all Compressed less = all.compressed
  none_below all Format less = all.format
  none_below all RecordLength less = all.record_length
  none_below all PointOffset less = all.point_offset
  none_below all Expect less = all.as_expected
  none_below all (Truncated number) less = λ h. h

  lacks_all : HasNoneBelow head expect 10 → LacksAll
  unfolding Lacks
  lacks_all none = record {
    short = none Short (omega arith);
    signature = none Signature (omega arith);
    version = none Version (omega arith);
    header_size = none HeaderSize (omega arith);
    compressed = none Compressed (omega arith);
    format = none Format (omega arith);
    record_length = none RecordLength (omega arith);
    point_offset = none PointOffset (omega arith);
    as_expected = none Expect (omega arith);
  }

  known_sound : Known (HasNoneBelow head expect 10)
  known_sound = known_like none_below lacks_all known_all_lacking

-- what the bytes mean
header_in : List ℕ → Header
header_in head = record { minor = minor_of head; format = format_of head; length = stated_length_of head; offset = point_offset_of head; points = points_of head }

pub known_header : (reading : Reading) (file : List ℕ) → Known ((header : Header) × HasHeader reading file header)
unfolding header_in
known_header reading file =
    known_like (λ none. (header_in (head_of file), (none, record { minor_is = refl; format_is = refl; length_is = refl; offset_is = refl; points_is = refl })))
    (λ (h : (header : Header) × HasHeader reading file header). h.1.0) (known_sound (head_of file) reading.expect)

same_ok : (a b : Header) (x y : Result Header LasError) → x ≡ Ok a → y ≡ Ok b → x ≡ y → a ≡ b
same_ok a b x y is_a is_b same = cc

pub one_header : (reading : Reading) (file : List ℕ) (a b : Header) → HasHeader reading file a → HasHeader reading file b → a ≡ b
one_header reading file a b has_a has_b = same_ok a b (Ok a) (Ok b) refl refl (header_once (head_of file) reading.expect (Ok a) (Ok b) has_a has_b)
