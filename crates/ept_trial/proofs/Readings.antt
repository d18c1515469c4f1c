-- What the file of an input reads as: the generated points, and never a refusal.
use Rattle.std.proofs.Common.{◌≡◌, ◌∙◌, ◌⊎◌, ℕ, ◌+◌, ◌*◌, ◌<◌, ◌≤◌, ◌^◌, List, [], ◌++◌, Option, Ok, Err, length, get_or, take, drop, refl, sym, ap, subst, arith, inl, inr}
use Rattle.std.proofs.lemmas.List.{append-nil}
use Rattle.std.proofs.Math.Seq.{drop-append_seam}
use Rattle.ept_point.specs.declared.point.Point.{Point}
use Rattle.ept_space.specs.declared.bounds.Bounds.{Bounds}
use Rattle.ept_las.specs.declared.header.Header.{Header}
use Rattle.ept_las.specs.declared.las_error.LasError.{LasError}
use Rattle.ept_las.specs.LasHeader.{HeaderReadsAs}
use Rattle.ept_las.specs.PointRecord.{IsPointOf, IsOutOfUnits}
use Rattle.ept_scan.specs.declared.reading.Reading.{Reading}
use Rattle.ept_scan.specs.declared.scan_error.ScanError.{ScanError}
use Rattle.ept_scan.specs.declared.scan_error.ScanError.TheVariants.{SourceFault, BadLas, OutOfBounds, TooManyPoints, NoBounds, Memory}
use Rattle.ept_scan.specs.Extents.{IsAllowed}
use Rattle.ept_scan.specs.LasFile.{head_of, HasHeader, records_of as records_in, record_at, IsOutside, ArePointsOf}
use Rattle.ept_scan.specs.Refusals.{FileIsRefused}
use Rattle.ept_trial.specs.Trials.{IsTrialPoint}
use Rattle.ept_trial.specs.Scans.{header_bytes, first_records, records_of, scan_bytes}
use Rattle.ept_trial.proofs.Records.{record-of, length-records, record-at}
use Rattle.ept_trial.proofs.Headers.{head, length-header, head-sound, head-says, SaysHeader}
use Rattle.ept_trial.proofs.Fields.{in-units, in-bounds}
use Rattle.ept_trial.proofs.Generated.{point-is}
use Rattle.ept_trial.proofs.Inputs.{IsOf}

-- the points of an input: each fourth of all
pub record AreRecords (count i : ℕ) (points : List Point) : Type 0 where
  pub length_is : length points ≡ records_of count i
  pub each : (k : ℕ) (d : Point) → k < records_of count i → IsTrialPoint count (4 * k + i) (get_or points k d)

drop-seam : (n : ℕ) (xs ys : List ℕ) → length xs ≡ n → drop n (xs ++ ys) ≡ ys
drop-seam n xs ys is = subst (λ (m : ℕ). drop m (xs ++ ys) ≡ ys) is (drop-append_seam xs ys)

module _ (count i : ℕ) (few : count ≤ 10000000) (reading : Reading) (file : List ℕ) (is : IsOf count i reading file) where
  recs : List ℕ
  recs = first_records count i (records_of count i)

  small : records_of count i < 256 ^ 4
  small = omega (arith, few)

  head-is : head_of file ≡ head (records_of count i) recs
  unfolding scan_bytes head recs
  head-is = ap (λ (f : List ℕ). take 375 f) is.file_is

  says : (header : Header) → HasHeader reading file header → SaysHeader (records_of count i) header
  says header has =
      head-says (records_of count i) recs header small
      (subst (λ (e : Option (List ℕ)). HeaderReadsAs (head (records_of count i) recs) e (Ok header)) is.expect_is
      (subst (λ (h : List ℕ). HeaderReadsAs h reading.expect (Ok header)) head-is has))

  records-are : (header : Header) → SaysHeader (records_of count i) header → records_in header file ≡ recs
  unfolding scan_bytes recs
  records-are header h =
      ap (λ (n : ℕ). drop n file) h.offset_is ∙ ap (λ (f : List ℕ). drop 227 f) is.file_is
      ∙ drop-seam 227 (header_bytes (records_of count i)) (first_records count i (records_of count i)) (length-header (records_of count i))

  record-is : (header : Header) → SaysHeader (records_of count i) header → (n : ℕ) → n < records_of count i → record_at header (records_in header file) n ≡ record-of count i n
  unfolding recs
  record-is header h n within =
      ap (λ (m : ℕ). take m (drop (m * n) (records_in header file))) h.length_is
      ∙ ap (λ (w : List ℕ). take 20 (drop (20 * n) w)) (records-are header h ∙ sym (append-nil (first_records count i (records_of count i))))
      ∙ record-at count i (records_of count i) n [] within

  long : (header : Header) → SaysHeader (records_of count i) header → length (records_in header file) ≡ 20 * records_of count i
  unfolding recs
  long header h = ap (λ (w : List ℕ). length w) (records-are header h) ∙ length-records count i (records_of count i)

  -- ---- the points

  point-at : (header : Header) → SaysHeader (records_of count i) header → (n : ℕ) (p : Point) → n < records_of count i → IsPointOf header.format reading.shift reading.origin n (record_at header (records_in header file) n) p → IsTrialPoint count (4 * n + i) p
  point-at header h n p within at =
      point-is count n i is.few reading.shift is.keeps p
      (subst (λ (b : List ℕ). IsPointOf 0 reading.shift i n b p) (record-is header h n within)
      (subst (λ (o : ℕ). IsPointOf 0 reading.shift o n (record_at header (records_in header file) n) p) is.origin_is
      (subst (λ (f : ℕ). IsPointOf f reading.shift reading.origin n (record_at header (records_in header file) n) p) h.format_is at)))

  pub points-are : (points : List Point) → ArePointsOf reading file points → AreRecords count i points
  points-are points a =
      let h = says a.header a.has_header in
      let number = h.points_are in
      record {
        length_is = a.are.count ∙ h.points_are;
        each = λ k d within. point-at a.header h k (get_or points k d) within (a.are.each k d (omega (arith, within, number))).point;
      }

  -- ---- no refusal

  not-outside : (header : Header) → SaysHeader (records_of count i) header → (n : ℕ) → n < records_of count i → IsOutside reading header.format n (record_at header (records_in header file) n) → ⊥
  not-outside header h n within (inl out) =
      in-units reading.shift is.keeps _ (4 * n + i) (subst (λ (b : List ℕ). IsOutOfUnits reading.shift b) (record-is header h n within) out)
  not-outside header h n within (inr out) =
      out.2 (subst (λ (limits : Option Bounds). IsAllowed limits out.0) (sym is.limits_are)
      (in-bounds reading.shift is.keeps _ (4 * n + i) header.format reading.origin n out.0
      (subst (λ (b : List ℕ). IsPointOf header.format reading.shift reading.origin n b out.0) (record-is header h n within) out.1)))

  not-faulty : (fault : LasError) → HeaderReadsAs (head_of file) reading.expect (Err fault) → ⊥
  not-faulty fault reads =
      let at = subst (λ (e : Option (List ℕ)). HeaderReadsAs (head (records_of count i) recs) e (Err fault)) is.expect_is
      (subst (λ (h : List ℕ). HeaderReadsAs h reading.expect (Err fault)) head-is reads) in
      head-sound (records_of count i) recs fault at.1

  pub none-refused : (error : ScanError) → FileIsRefused reading file error → (error ≡ SourceFault) ⊎ (error ≡ Memory)
  none-refused SourceFault refused = inl refl
  none-refused Memory refused = inr refl
  none-refused NoBounds (inl refused) = absurd refused
  none-refused NoBounds (inr refused) = absurd refused.3
  none-refused (BadLas source fault) (inl refused) = absurd (not-faulty fault refused.1)
  none-refused (BadLas source fault) (inr refused) =
      let h = says refused.0 refused.1 in
      let bad = refused.3.1.2 in
      let size = long refused.0 h in
      let stated = bad.stated in
      let past = subst (λ (m : ℕ). length (records_in refused.0 file) < m * (refused.3.1.0 + 1)) h.length_is bad.bad in
      let number = h.points_are in
      absurd (omega (arith, size, stated, past, number))
  none-refused (OutOfBounds source at) (inl refused) = absurd refused
  none-refused (OutOfBounds source at) (inr refused) =
      let h = says refused.0 refused.1 in
      let bad = refused.3.1 in
      let stated = bad.stated in
      let number = h.points_are in
      absurd (not-outside refused.0 h at (omega (arith, stated, number)) bad.bad.outside)
  none-refused (TooManyPoints source) (inl refused) =
      let h = says refused.1.0 refused.1.1 in
      let many = refused.1.2 in
      let number = h.points_are in
      let most = small in
      absurd (omega (arith, many, number, most, few))
  none-refused (TooManyPoints source) (inr refused) = absurd refused.3
