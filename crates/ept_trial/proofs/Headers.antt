-- What the header of a generated scan reads as.
use Rattle.std.proofs.Common.{◌≡◌, ◌∙◌, ℕ, ◌<◌, ◌≤◌, ◌^◌, List, ◌++◌, length, take, refl, arith, length-append, length-take, inl, inr, None, Ok}
use Rattle.std.specs.Prelude.{replicate}
use Rattle.byteorder.specs.Numbers.{little_number-reads_back}
use Rattle.ept_las.specs.declared.header.Header.{Header}
use Rattle.ept_las.specs.declared.las_error.LasError.{LasError}
use Rattle.ept_las.specs.declared.las_error.LasError.TheVariants.{Short, Signature, Version, HeaderSize, Compressed, Format, RecordLength, PointOffset, Expect, Truncated}
use Rattle.ept_las.specs.Words.{u16_at, u32_at, bits}
use Rattle.ept_las.specs.Format.{record_length}
use Rattle.ept_las.specs.LasHeader.{HasFault, HeaderReadsAs, header_size_of, point_offset_of, format_of, stated_length_of, points_of}
use Rattle.ept_trial.specs.Scans.{header_bytes}

pub length-header : (records : ℕ) → length (header_bytes records) ≡ 227
unfolding header_bytes
length-header records = refl

-- the first bytes of a file
unfoldable pub head : ℕ → List ℕ → List ℕ
head records rest = take 375 (header_bytes records ++ rest)

pub head-long : (records : ℕ) (rest : List ℕ) → 227 ≤ length (head records rest)
unfolding head
head-long records rest =
    let a = length-take 375 (header_bytes records ++ rest) in
    let b = length-append (header_bytes records) rest in
    let d = length-header records in
    omega (arith, a, b, d)

pub head-size : (records : ℕ) (rest : List ℕ) → header_size_of (head records rest) ≡ 227
unfolding head header_bytes u16_at
head-size records rest = refl

pub head-offset : (records : ℕ) (rest : List ℕ) → point_offset_of (head records rest) ≡ 227
unfolding head header_bytes u32_at
head-offset records rest = refl

pub head-format : (records : ℕ) (rest : List ℕ) → format_of (head records rest) ≡ 0
unfolding head header_bytes
head-format records rest = refl

pub head-length : (records : ℕ) (rest : List ℕ) → stated_length_of (head records rest) ≡ 20
unfolding head header_bytes u16_at
head-length records rest = refl

pub head-points : (records : ℕ) (rest : List ℕ) → records < 256 ^ 4 → points_of (head records rest) ≡ records
unfolding head header_bytes u32_at points_of
head-points records rest small = little_number-reads_back 4 records (replicate 116 0 ++ take 148 rest) small

-- it has no fault
pub head-sound : (records : ℕ) (rest : List ℕ) (f : LasError) → HasFault (head records rest) None f → ⊥
unfolding head header_bytes bits record_length u16_at u32_at
head-sound records rest Short h = omega (arith, h, head-long records rest)
head-sound records rest Signature h = h refl
head-sound records rest Version (inl h) = h refl
head-sound records rest Version (inr (inl h)) = omega (arith, h)
head-sound records rest Version (inr (inr h)) = omega (arith, h)
head-sound records rest HeaderSize (inl h) = omega (arith, h)
head-sound records rest HeaderSize (inr h) = omega (arith, h, head-long records rest)
head-sound records rest Compressed h = h refl
head-sound records rest Format h = h refl
head-sound records rest RecordLength h = omega (arith, h)
head-sound records rest PointOffset h = omega (arith, h)
head-sound records rest Expect h = absurd h
head-sound records rest (Truncated n) h = absurd h

-- what a header that is read of it says
pub record SaysHeader (records : ℕ) (header : Header) : Type 0 where
  pub format_is : header.format ≡ 0
  pub length_is : header.length ≡ 20
  pub offset_is : header.offset ≡ 227
  pub points_are : header.points ≡ records

pub head-says : (records : ℕ) (rest : List ℕ) (header : Header) → records < 256 ^ 4 → HeaderReadsAs (head records rest) None (Ok header) → SaysHeader records header
head-says records rest header small reads = record {
  format_is = reads.1.format_is ∙ head-format records rest;
  length_is = reads.1.length_is ∙ head-length records rest;
  offset_is = reads.1.offset_is ∙ head-offset records rest;
  points_are = reads.1.points_is ∙ head-points records rest small;
}
