-- Inputs are refused for one cause.
use Rattle.std.proofs.Common.{◌≡◌, ⊎_elim, inl, inr, ℕ, ◌<◌, ◌≤◌, List, Err, Ok, Option, Some, get_or, refl, sym, ◌∙◌, ap, subst, arith}
use Rattle.std.specs.Prelude.{slice_get}
use Rattle.std.proofs.lemmas.Bool.{cases_lt}
use Rattle.ept_base.specs.Files.{Files}
use Rattle.ept_point.specs.declared.point.Point.{Point}
use Rattle.ept_space.specs.declared.bounds.Bounds.{Bounds}
use Rattle.ept_config.specs.declared.input.Input.{Input}
use Rattle.ept_las.specs.declared.header.Header.{Header}
use Rattle.ept_las.specs.LasHeader.{HeaderReadsAs}
use Rattle.ept_las.specs.PointRecord.{IsPointOf, IsOutOfUnits}
use Rattle.ept_scan.specs.declared.reading.Reading.{Reading}
use Rattle.ept_config.specs.Counts.{most_points}
use Rattle.ept_scan.specs.declared.scan_error.ScanError.{ScanError}
use Rattle.ept_scan.specs.declared.scan_error.ScanError.TheVariants.{SourceFault, BadLas, OutOfBounds, TooManyPoints, NoBounds, Memory}
use Rattle.ept_scan.specs.Extents.{IsAllowed}
use Rattle.ept_scan.specs.LasFile.{head_of, HasHeader, records_of, record_at, IsTruncated, IsOutside, IsOutsideAt, AreFirstPoints}
use Rattle.ept_scan.specs.Refusals.{HeaderIsRefused, IsFirstBad, RecordsAreRefused, FileIsRefused}
use Rattle.ept_scan.specs.Scans.{Blames, IsReadingOf, IsFirstRefused, LacksBounds, ScanIsRefused}
use Rattle.ept_scan.proofs.Rereading.{point_shifted, one_input}
use Rattle.ept_scan.proofs.OneScan.{blames, from_blame, from_second, one_cause, one_content, refused_among, first_refused}

-- a file that is refused in one way of reading its input is so in each
module _ (first second : Reading) (factor : second.shift.factor ≡ first.shift.factor) (by : second.shift.by ≡ first.shift.by) (origin : second.origin ≡ first.origin) (expect : second.expect ≡ first.expect) (limits : second.limits ≡ first.limits) where
  has_again : (file : List ℕ) (header : Header) → HasHeader first file header → HasHeader second file header
  has_again file header has = subst (λ (e : Option (List ℕ)). HeaderReadsAs (head_of file) e (Ok header)) (sym expect) has

  allowed_again : (p : Point) → IsAllowed first.limits p → IsAllowed second.limits p
  allowed_again p allowed = subst (λ (o : Option Bounds). IsAllowed o p) (sym limits) allowed

  point_again : (format n : ℕ) (bytes : List ℕ) (p : Point) → IsPointOf format first.shift first.origin n bytes p → IsPointOf format second.shift second.origin n bytes p
  point_again format n bytes p is = point_shifted format first.shift second.shift first.origin second.origin n bytes p factor by origin is

  firsts_again : (header : Header) (records : List ℕ) (n : ℕ) (points : List Point) → AreFirstPoints first header records n points → AreFirstPoints second header records n points
  firsts_again header records n points are = record {
    count = are.count;
    each = λ k d lt. record {
      whole = (are.each k d lt).whole;
      point = point_again header.format k (record_at header records k) (get_or points k d) (are.each k d lt).point;
      allowed = allowed_again (get_or points k d) (are.each k d lt).allowed;
    };
  }

  units_again : (bytes : List ℕ) → IsOutOfUnits first.shift bytes → IsOutOfUnits second.shift bytes
  units_again bytes out = (out.0, out.1, rw (factor, by) out.2)

  outside_again : (format n : ℕ) (bytes : List ℕ) → IsOutside first format n bytes → IsOutside second format n bytes
  outside_again format n bytes out =
      ⊎_elim (λ (units : IsOutOfUnits first.shift bytes). inl (units_again bytes units))
      (λ (other : (p : Point) × IsPointOf format first.shift first.origin n bytes p × ¬ IsAllowed first.limits p).
      inr (other.0, point_again format n bytes other.0 other.1, λ (allowed : IsAllowed second.limits other.0). other.2 (subst (λ (o : Option Bounds). IsAllowed o other.0) limits allowed))) out

  bad_again : (header : Header) (records : List ℕ) (n : ℕ) → IsFirstBad first header records (IsOutsideAt first header records) n → IsFirstBad second header records (IsOutsideAt second header records) n
  bad_again header records n bad = record {
    stated = bad.stated;
    before = bad.before;
    good = firsts_again header records n bad.before bad.good;
    bad = record { whole = bad.bad.whole; outside = outside_again header.format n (record_at header records n) bad.bad.outside };
  }

  short_again : (header : Header) (records : List ℕ) (n : ℕ) → IsFirstBad first header records (IsTruncated header records) n → IsFirstBad second header records (IsTruncated header records) n
  short_again header records n bad = record { stated = bad.stated; before = bad.before; good = firsts_again header records n bad.before bad.good; bad = bad.bad }

  header_again : (file : List ℕ) (e : ScanError) → HeaderIsRefused first file e → HeaderIsRefused second file e
  header_again file SourceFault refused = tt
  header_again file Memory refused = tt
  header_again file NoBounds refused = refused
  header_again file (OutOfBounds source number) refused = refused
  header_again file (BadLas source fault) refused = (refused.0 ∙ sym origin, subst (λ (o : Option (List ℕ)). HeaderReadsAs (head_of file) o (Err fault)) (sym expect) refused.1)
  header_again file (TooManyPoints source) refused = (refused.0 ∙ sym origin, (refused.1.0, has_again file refused.1.0 refused.1.1, refused.1.2))

  records_again : (header : Header) (records : List ℕ) (e : ScanError) → RecordsAreRefused first header records e → RecordsAreRefused second header records e
  records_again header records SourceFault refused = tt
  records_again header records Memory refused = tt
  records_again header records NoBounds refused = refused
  records_again header records (TooManyPoints source) refused = refused
  records_again header records (BadLas source fault) refused = (refused.0 ∙ sym origin, (refused.1.0, refused.1.1, short_again header records refused.1.0 refused.1.2))
  records_again header records (OutOfBounds source number) refused = (refused.0 ∙ sym origin, bad_again header records number refused.1)

  refused_again : (file : List ℕ) (e : ScanError) → FileIsRefused first file e → FileIsRefused second file e
  refused_again file e refused =
      ⊎_elim (λ (header : HeaderIsRefused first file e). inl (header_again file e header))
      (λ (records : (h : Header) × HasHeader first file h × (h.points ≤ most_points) × RecordsAreRefused first h (records_of h file) e).
      inr (records.0, has_again file records.0 records.1, records.2, records_again records.0 (records_of records.0 file) e records.3)) refused

module _ (all : Files) (scale : ℕ) (limits : Option Bounds) (inputs : List Input) (from : ℕ) where
  -- an input is refused for one cause
  one_place : (e f : ScanError) (is_e : IsFirstRefused all scale limits inputs from e) (is_f : IsFirstRefused all scale limits inputs from f) → is_f.at ≡ is_e.at → Blames e (Blames f (e ≡ f))
  one_place e f is_e is_f same =
      let one : is_f.input ≡ is_e.input = one_input inputs is_e.at is_f.input is_e.input (subst (λ (n : ℕ). slice_get inputs n ≡ Some is_f.input) same is_f.is_input.is) is_e.is_input.is in
      let here : is_f.refused.file ≡ is_e.refused.file = one_content (all is_e.input.path) is_f.refused.file is_e.refused.file (ap (λ (q : Input). all q.path) (sym one) ∙ is_f.refused.content) is_e.refused.content in
      let now : IsReadingOf scale limits is_e.at is_e.input is_e.reading = is_e.is_input.reading_is in
      let was : IsReadingOf scale limits is_e.at is_e.input is_f.reading = subst (λ (q : Input). IsReadingOf scale limits is_e.at q is_f.reading) one (subst (λ (n : ℕ). IsReadingOf scale limits n is_f.input is_f.reading) same is_f.is_input.reading_is) in
      let refused : FileIsRefused is_f.reading is_e.refused.file f = subst (λ (l : List ℕ). FileIsRefused is_f.reading l f) here is_f.refused.refused in
      one_cause is_e.reading is_e.refused.file e f is_e.refused.refused
      (refused_again is_f.reading is_e.reading (now.factor_is ∙ sym was.factor_is) (now.shift_is ∙ sym was.shift_is) (now.origin_is ∙ sym was.origin_is) (now.expect_is ∙ sym was.expect_is) (now.limits_are ∙ sym was.limits_are) is_e.refused.file f refused)

  -- there is one first refused input
  first_once : (e f : ScanError) → IsFirstRefused all scale limits inputs from e → IsFirstRefused all scale limits inputs from f → Blames e (Blames f (e ≡ f))
  first_once e f is_e is_f =
      ⊎_elim (λ (earlier : is_e.at < is_f.at). from_blame e f (refused_among all scale limits inputs from is_f.at is_f.before e is_f.good is_e earlier))
      (λ (not_earlier : is_f.at ≤ is_e.at).
      ⊎_elim (λ (later : is_f.at < is_e.at). from_second e f (refused_among all scale limits inputs from is_e.at is_e.before f is_e.good is_f later)) (λ (not_later : is_e.at ≤ is_f.at). one_place e f is_e is_f (omega arith)) (cases_lt is_f.at is_e.at))
      (cases_lt is_e.at is_f.at)

  first_or_other : (e f : ScanError) → IsFirstRefused all scale limits inputs from e → ScanIsRefused all scale limits inputs from f → Blames e (Blames f (e ≡ f))
  first_or_other e SourceFault is_e is_f = blames e (Blames SourceFault (e ≡ SourceFault)) tt
  first_or_other e Memory is_e is_f = blames e (Blames Memory (e ≡ Memory)) tt
  first_or_other e NoBounds is_e is_f = from_blame e NoBounds (first_refused all scale limits inputs from is_f.lists e is_f.are is_e)
  first_or_other e (BadLas source fault) is_e is_f = first_once e (BadLas source fault) is_e is_f
  first_or_other e (OutOfBounds source number) is_e is_f = first_once e (OutOfBounds source number) is_e is_f
  first_or_other e (TooManyPoints source) is_e is_f = first_once e (TooManyPoints source) is_e is_f

  lacks_or_other : (f : ScanError) → LacksBounds all scale limits inputs from → ScanIsRefused all scale limits inputs from f → Blames f (NoBounds ≡ f)
  lacks_or_other SourceFault lacks is_f = tt
  lacks_or_other Memory lacks is_f = tt
  lacks_or_other NoBounds lacks is_f = refl
  lacks_or_other (BadLas source fault) lacks is_f = absurd (first_refused all scale limits inputs from lacks.lists (BadLas source fault) lacks.are is_f)
  lacks_or_other (OutOfBounds source number) lacks is_f = absurd (first_refused all scale limits inputs from lacks.lists (OutOfBounds source number) lacks.are is_f)
  lacks_or_other (TooManyPoints source) lacks is_f = absurd (first_refused all scale limits inputs from lacks.lists (TooManyPoints source) lacks.are is_f)

  pub one_refusal : (e f : ScanError) → ScanIsRefused all scale limits inputs from e → ScanIsRefused all scale limits inputs from f → Blames e (Blames f (e ≡ f))
  one_refusal SourceFault f is_e is_f = tt
  one_refusal Memory f is_e is_f = tt
  one_refusal NoBounds f is_e is_f = lacks_or_other f is_e is_f
  one_refusal (BadLas source fault) f is_e is_f = first_or_other (BadLas source fault) f is_e is_f
  one_refusal (OutOfBounds source number) f is_e is_f = first_or_other (OutOfBounds source number) f is_e is_f
  one_refusal (TooManyPoints source) f is_e is_f = first_or_other (TooManyPoints source) f is_e is_f
