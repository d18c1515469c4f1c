-- What was found of a file that was read from its first byte.
use Rattle.std.proofs.Common.{◌≡◌, ⊎_elim, inl, inr, ℕ, ◌+◌, ◌*◌, ◌-◌, ◌<◌, ◌≤◌, List, ◌++◌, Option, Some, None, length, drop, sym, ◌∙◌, ap, subst, arith, length-append, length-drop}
use Rattle.std.proofs.lemmas.Bool.{cases_lt}
use Rattle.std.specs.Io.KnownBytes.{prepend_known, Keeps}
use Rattle.ept_base.specs.Files.{Tells}
use Rattle.ept_point.specs.declared.point.Point.{Point}
use Rattle.ept_space.specs.declared.bounds.Bounds.{Bounds}
use Rattle.ept_las.specs.declared.header.Header.{Header}
use Rattle.ept_las.specs.declared.header.TheConstants.{HEAD_LENGTH}
use Rattle.ept_scan.specs.declared.reading.Reading.{Reading}
use Rattle.ept_config.specs.Counts.{most_points}
use Rattle.ept_scan.specs.declared.scan_error.ScanError.{ScanError}
use Rattle.ept_scan.specs.LasFile.{HasHeader, records_of, AreFirstPoints, ArePointsOf}
use Rattle.ept_scan.specs.Reach.{HasLeftOf, Skips, ReadsNoFurther, IsWithinRecords}
use Rattle.ept_scan.specs.Refusals.{RecordsAreRefused, FileIsRefused}
use Rattle.ept_scan.specs.Counts.{FindsExtent, FindsCount}

-- the bytes ahead of the first record are the file from there on
records_told : (header : Header) (file : List ℕ) (front at : Option (List ℕ)) → Keeps (Some file) front → Skips front at header.offset → at ≡ Some (records_of header file)
records_told header file None at keeps skips = absurd keeps
records_told header file (Some front) None keeps skips = absurd skips
records_told header file (Some front) (Some at) keeps skips = ap (λ (l : List ℕ). Some l) (skips ∙ ap (λ (l : List ℕ). drop header.offset l) keeps)

module _ (reading : Reading) (header : Header) (few : header.points ≤ most_points) where
  points_are : (left front at : Option (List ℕ)) (points : List Point) → Tells (λ file. HasHeader reading file header) left → Keeps left front → Skips front at header.offset → Tells (λ records. AreFirstPoints reading header records header.points points) at
      → Tells (λ file. ArePointsOf reading file points) left
  points_are None front at points has keeps skips are = tt
  points_are (Some file) front at points has keeps skips are = record {
    header = header;
    has_header = has;
    few = few;
    are = subst (Tells (λ records. AreFirstPoints reading header records header.points points)) (records_told header file front at keeps skips) are;
  }

  pub count_found : (whole left front at : Option (List ℕ)) (extent : Option Bounds) → left ≡ whole → Tells (λ file. HasHeader reading file header) left → Keeps left front → Skips front at header.offset → FindsExtent reading header at extent
      → FindsCount reading.limits (λ points. Tells (λ file. ArePointsOf reading file points) whole) (record { points = header.points; extent = extent })
  count_found whole left front at extent start has keeps skips found = record {
    points = found.points;
    is_count = record { number = sym found.count; has_extent = found.has_extent };
    few = omega (arith, few, found.count);
    allowed = found.allowed;
    are = subst (Tells (λ file. ArePointsOf reading file found.points)) start (points_are left front at found.points has keeps skips found.are);
  }

  pub records_refused : (whole left front at : Option (List ℕ)) (error : ScanError) → left ≡ whole → Tells (λ file. HasHeader reading file header) left → Keeps left front → Skips front at header.offset → Tells (λ records. RecordsAreRefused reading header records error) at
      → Tells (λ file. FileIsRefused reading file error) whole
  records_refused whole left front at error start has keeps skips refused = subst (Tells (λ file. FileIsRefused reading file error)) start (told left has keeps refused)
    where
      told : (left : Option (List ℕ)) → Tells (λ file. HasHeader reading file header) left → Keeps left front → Tells (λ records. RecordsAreRefused reading header records error) at → Tells (λ file. FileIsRefused reading file error) left
      told None has keeps refused = tt
      told (Some file) has keeps refused = inr (header, has, few, subst (Tells (λ records. RecordsAreRefused reading header records error)) (records_told header file front at keeps skips) refused)

-- no byte was read past the last record
module _ (reading : Reading) (header : Header) (some : 0 < header.points) where
  pub far_skip : (whole left mid exit : Option (List ℕ)) (held : List ℕ) → left ≡ whole → Tells (λ file. HasHeader reading file header) left → Keeps left (prepend_known held mid) → length held ≤ HEAD_LENGTH → HasLeftOf mid exit (header.offset - length held)
      → ReadsNoFurther reading whole exit
  far_skip whole left mid exit held start has keeps short read = subst (λ (o : Option (List ℕ)). ReadsNoFurther reading o exit) start (told left mid exit has keeps read)
    where
      told : (left mid exit : Option (List ℕ)) → Tells (λ file. HasHeader reading file header) left → Keeps left (prepend_known held mid) → HasLeftOf mid exit (header.offset - length held) → ReadsNoFurther reading left exit
      told None mid exit has keeps read = tt
      told (Some file) mid None has keeps read = tt
      told (Some file) None (Some exit) has keeps read = absurd keeps
      told (Some file) (Some mid) (Some exit) has keeps read =
          let sizes : length held + length mid ≡ length file = sym (length-append held mid) ∙ ap length keeps in
          ⊎_elim (λ (less : length held < header.offset). inr (header, has, some, omega (arith, sizes, less, read))) (λ (more : header.offset ≤ length held). inl (omega (arith, sizes, more, read, short))) (cases_lt (length held) header.offset)

  pub far_records : (whole left mid at exit : Option (List ℕ)) (held rest : List ℕ) → left ≡ whole → Tells (λ file. HasHeader reading file header) left → Keeps left (prepend_known held mid) → length held ≤ HEAD_LENGTH
      → Skips (prepend_known held mid) (prepend_known rest at) header.offset → length rest ≤ length held - header.offset → HasLeftOf at exit (header.length * header.points - length rest) → ReadsNoFurther reading whole exit
  far_records whole left mid at exit held rest start has keeps short skips shorter read = subst (λ (o : Option (List ℕ)). ReadsNoFurther reading o exit) start (told left mid at exit has keeps skips read)
    where
      ends : (file mid at exit : List ℕ) → HasHeader reading file header → length held + length mid ≡ length file → length rest + length at ≡ length held + length mid - header.offset → header.length * header.points ≤ length rest → length at ≤ length exit + (header.length * header.points - length rest)
          → IsWithinRecords reading file exit
      ends file mid at exit has sizes after more read =
          ⊎_elim (λ (less : length held < header.offset). inr (header, has, some, omega (arith, sizes, after, more, read, less, shorter))) (λ (not_less : header.offset ≤ length held). inl (omega (arith, sizes, after, more, read, not_less, short, shorter))) (cases_lt (length held) header.offset)

      told : (left mid at exit : Option (List ℕ)) → Tells (λ file. HasHeader reading file header) left → Keeps left (prepend_known held mid) → Skips (prepend_known held mid) (prepend_known rest at) header.offset → HasLeftOf at exit (header.length * header.points - length rest)
          → ReadsNoFurther reading left exit
      told None mid at exit has keeps skips read = tt
      told (Some file) mid at None has keeps skips read = tt
      told (Some file) None at (Some exit) has keeps skips read = absurd keeps
      told (Some file) (Some mid) None (Some exit) has keeps skips read = absurd skips
      told (Some file) (Some mid) (Some at) (Some exit) has keeps skips read =
          let sizes : length held + length mid ≡ length file = sym (length-append held mid) ∙ ap length keeps in
          let after : length rest + length at ≡ length held + length mid - header.offset = sym (length-append rest at) ∙ ap length skips ∙ length-drop header.offset (held ++ mid) ∙ ap (λ (i : ℕ). i - header.offset) (length-append held mid) in
          ⊎_elim (λ (less : length rest < header.length * header.points). inr (header, has, some, omega (arith, sizes, after, less, read))) (λ (more : header.length * header.points ≤ length rest). ends file mid at exit has sizes after more read) (cases_lt (length rest) (header.length * header.points))
