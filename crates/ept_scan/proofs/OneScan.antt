-- A file, and a list of inputs, read in one way or are refused.
use Rattle.std.proofs.Common.{◌≡◌, ⊎_elim, ℕ, ◌+◌, ◌<◌, ◌≤◌, List, [], Ok, Err, Result, Option, Some, length, get_or, refl, sym, ◌∙◌, ap, subst, arith}
use Rattle.std.specs.Prelude.{All, slice_get}
use Rattle.std.proofs.lemmas.Bool.{cases_lt}
use Rattle.std.proofs.lemmas.List.{same_lists}
use Rattle.ept_base.specs.Files.{Files}
use Rattle.ept_point.specs.declared.point.Point.{Point}
use Rattle.ept_space.specs.declared.bounds.Bounds.{Bounds}
use Rattle.ept_config.specs.declared.input.Input.{Input}
use Rattle.ept_las.specs.declared.header.Header.{Header}
use Rattle.ept_las.specs.declared.las_error.LasError.{LasError}
use Rattle.ept_las.specs.declared.las_error.LasError.TheVariants.{Truncated}
use Rattle.ept_las.proofs.HeaderLaws.{header_once}
use Rattle.ept_scan.specs.declared.reading.Reading.{Reading}
use Rattle.ept_config.specs.Counts.{most_points}
use Rattle.ept_scan.specs.declared.scan_done.ScanDone.{ScanDone}
use Rattle.ept_scan.specs.declared.scan_error.ScanError.{ScanError}
use Rattle.ept_scan.specs.declared.scan_error.ScanError.TheVariants.{SourceFault, BadLas, OutOfBounds, TooManyPoints, NoBounds, Memory}
use Rattle.ept_config.specs.Extents.{IsExtentOf}
use Rattle.ept_scan.specs.Extents.{IsAllowed}
use Rattle.ept_scan.specs.LasFile.{head_of, HasHeader, records_of, IsTruncated, IsOutsideAt, AreFirstPoints, ArePointsOf}
use Rattle.ept_scan.specs.Refusals.{HeaderIsRefused, IsFirstBad, RecordsAreRefused, FileIsRefused}
use Rattle.ept_scan.specs.Scans.{in_order, Blames, IsReadingOf, AreBounds, HasPointsAt, ArePointsFrom, IsFirstRefused, LacksBounds, ScanIsRefused, IsScan}
use Rattle.ept_scan.proofs.Once.{some_point, one_header, not_err, one_point, not_truncated, not_outside}
use Rattle.ept_scan.proofs.Rereading.{one_input, reread}

-- what is known of a refusal, if it is one of a file
pub blames : (e : ScanError) (fact : Type 0) → fact → Blames e fact
blames SourceFault fact is = tt
blames Memory fact is = tt
blames NoBounds fact is = is
blames (BadLas source fault) fact is = is
blames (OutOfBounds source number) fact is = is
blames (TooManyPoints source) fact is = is

pub file_once : (reading : Reading) (file : List ℕ) (xs ys : List Point) → ArePointsOf reading file xs → ArePointsOf reading file ys → xs ≡ ys
file_once reading file xs ys as_xs as_ys =
    let header : as_ys.header ≡ as_xs.header = one_header reading file as_ys.header as_xs.header as_ys.has_header as_xs.has_header in
    let ys_are : AreFirstPoints reading as_xs.header (records_of as_xs.header file) as_xs.header.points ys = subst (λ (h : Header). AreFirstPoints reading h (records_of h file) h.points ys) header as_ys.are in
    same_lists xs ys (as_xs.are.count ∙ sym ys_are.count)
    (λ k d lt. one_point reading as_xs.header (records_of as_xs.header file) k (get_or xs k d) (get_or ys k d) (as_xs.are.each k d (omega (arith, lt, as_xs.are.count))) (ys_are.each k d (omega (arith, lt, as_xs.are.count))))

module _ (reading : Reading) (header : Header) (records : List ℕ) where
  -- a record that is one of the first points is not bad
  not_short : (n m : ℕ) (points : List Point) → AreFirstPoints reading header records m points → n < m → IsTruncated header records n → ⊥
  not_short n m points are lt bad =
      let d : Point = some_point points n (omega (arith, lt, are.count)) in
      not_truncated reading header records n (get_or points n d) (are.each n d lt) bad

  not_out : (n m : ℕ) (points : List Point) → AreFirstPoints reading header records m points → n < m → IsOutsideAt reading header records n → ⊥
  not_out n m points are lt bad =
      let d : Point = some_point points n (omega (arith, lt, are.count)) in
      not_outside reading header records n (get_or points n d) (are.each n d lt) bad

-- the header of a file that reads as points is not refused
header_fine : (reading : Reading) (file : List ℕ) (header : Header) (e : ScanError) → HasHeader reading file header → header.points ≤ most_points → HeaderIsRefused reading file e → Blames e ⊥
header_fine reading file header SourceFault has few refused = tt
header_fine reading file header Memory has few refused = tt
header_fine reading file header NoBounds has few refused = refused
header_fine reading file header (OutOfBounds source number) has few refused = refused
header_fine reading file header (BadLas source fault) has few refused = not_err header fault (Ok header) (Err fault) refl refl (header_once (head_of file) reading.expect (Ok header) (Err fault) has refused.1)
header_fine reading file header (TooManyPoints source) has few refused =
    let same : refused.1.0 ≡ header = one_header reading file refused.1.0 header refused.1.1 has in
    omega (arith, few, refused.1.2, ap (λ (h : Header). h.points) same)

records_fine : (reading : Reading) (header : Header) (records : List ℕ) (points : List Point) (e : ScanError) → AreFirstPoints reading header records header.points points → RecordsAreRefused reading header records e → Blames e ⊥
records_fine reading header records points SourceFault are refused = tt
records_fine reading header records points Memory are refused = tt
records_fine reading header records points NoBounds are refused = refused
records_fine reading header records points (TooManyPoints source) are refused = refused
records_fine reading header records points (BadLas source fault) are refused = not_short reading header records refused.1.0 header.points points are refused.1.2.stated refused.1.2.bad
records_fine reading header records points (OutOfBounds source number) are refused = not_out reading header records number header.points points are refused.1.stated refused.1.bad

pub file_or_refusal : (reading : Reading) (file : List ℕ) (xs : List Point) (e : ScanError) → ArePointsOf reading file xs → FileIsRefused reading file e → Blames e ⊥
file_or_refusal reading file xs e are refused =
    ⊎_elim (λ header. header_fine reading file are.header e are.has_header are.few header)
    (λ (records : (h : Header) × HasHeader reading file h × (h.points ≤ most_points) × RecordsAreRefused reading h (records_of h file) e).
    let same : records.0 ≡ are.header = one_header reading file records.0 are.header records.1 are.has_header in
    records_fine reading are.header (records_of are.header file) xs e are.are (subst (λ (h : Header). RecordsAreRefused reading h (records_of h file) e) same records.3)) refused

-- a header is refused for one cause
header_once_refused : (reading : Reading) (file : List ℕ) (e f : ScanError) → HeaderIsRefused reading file e → HeaderIsRefused reading file f → Blames e (Blames f (e ≡ f))
header_once_refused reading file SourceFault f is_e is_f = tt
header_once_refused reading file Memory f is_e is_f = tt
header_once_refused reading file NoBounds f is_e is_f = absurd is_e
header_once_refused reading file (OutOfBounds source number) f is_e is_f = absurd is_e
header_once_refused reading file (BadLas source fault) SourceFault is_e is_f = tt
header_once_refused reading file (BadLas source fault) Memory is_e is_f = tt
header_once_refused reading file (BadLas source fault) NoBounds is_e is_f = absurd is_f
header_once_refused reading file (BadLas source fault) (OutOfBounds other number) is_e is_f = absurd is_f
header_once_refused reading file (BadLas source fault) (BadLas other second) is_e is_f =
    same_bad source other fault second (is_e.0 ∙ sym is_f.0) (same_fault fault second (Err fault) (Err second) refl refl (header_once (head_of file) reading.expect (Err fault) (Err second) is_e.1 is_f.1))
  where
    same_fault : (a b : LasError) (x y : Result Header LasError) → x ≡ Err a → y ≡ Err b → x ≡ y → a ≡ b
    same_fault a b x y is_a is_b same = cc

    same_bad : (a b : ℕ) (x y : LasError) → a ≡ b → x ≡ y → BadLas a x ≡ BadLas b y
    same_bad a b x y p q = cc
header_once_refused reading file (BadLas source fault) (TooManyPoints other) is_e is_f = absurd (not_err is_f.1.0 fault (Ok is_f.1.0) (Err fault) refl refl (header_once (head_of file) reading.expect (Ok is_f.1.0) (Err fault) is_f.1.1 is_e.1))
header_once_refused reading file (TooManyPoints source) SourceFault is_e is_f = tt
header_once_refused reading file (TooManyPoints source) Memory is_e is_f = tt
header_once_refused reading file (TooManyPoints source) NoBounds is_e is_f = absurd is_f
header_once_refused reading file (TooManyPoints source) (OutOfBounds other number) is_e is_f = absurd is_f
header_once_refused reading file (TooManyPoints source) (BadLas other fault) is_e is_f = absurd (not_err is_e.1.0 fault (Ok is_e.1.0) (Err fault) refl refl (header_once (head_of file) reading.expect (Ok is_e.1.0) (Err fault) is_e.1.1 is_f.1))
header_once_refused reading file (TooManyPoints source) (TooManyPoints other) is_e is_f = ap (λ (n : ℕ). TooManyPoints n) (is_e.0 ∙ sym is_f.0)

-- there is one first bad record, and it is bad in one way
module _ (reading : Reading) (header : Header) (records : List ℕ) where
  one_number : (A B : ℕ → Type 0) (n m : ℕ) → IsFirstBad reading header records A n → IsFirstBad reading header records B m → ((k j : ℕ) (points : List Point) → AreFirstPoints reading header records j points → k < j → A k → ⊥)
      → ((k j : ℕ) (points : List Point) → AreFirstPoints reading header records j points → k < j → B k → ⊥) → n ≡ m
  one_number A B n m is_n is_m no_a no_b =
      ⊎_elim (λ (less : n < m). absurd (no_a n m is_m.before is_m.good less is_n.bad))
      (λ (at_least : m ≤ n). ⊎_elim (λ (more : m < n). absurd (no_b m n is_n.before is_n.good more is_m.bad)) (λ (at_most : n ≤ m). omega (arith, at_least, at_most)) (cases_lt m n)) (cases_lt n m)

  records_once : (e f : ScanError) → RecordsAreRefused reading header records e → RecordsAreRefused reading header records f → Blames e (Blames f (e ≡ f))
  records_once SourceFault f is_e is_f = tt
  records_once Memory f is_e is_f = tt
  records_once NoBounds f is_e is_f = absurd is_e
  records_once (TooManyPoints source) f is_e is_f = absurd is_e
  records_once (BadLas source fault) SourceFault is_e is_f = tt
  records_once (BadLas source fault) Memory is_e is_f = tt
  records_once (BadLas source fault) NoBounds is_e is_f = absurd is_f
  records_once (BadLas source fault) (TooManyPoints other) is_e is_f = absurd is_f
  records_once (BadLas source fault) (BadLas other second) is_e is_f =
      let same : is_e.1.0 ≡ is_f.1.0 = one_number (IsTruncated header records) (IsTruncated header records) is_e.1.0 is_f.1.0 is_e.1.2 is_f.1.2 (not_short reading header records) (not_short reading header records) in
      both source other fault second is_e.1.0 is_f.1.0 (is_e.0 ∙ sym is_f.0) is_e.1.1 is_f.1.1 same
    where
      both : (a b : ℕ) (x y : LasError) (n m : ℕ) → a ≡ b → x ≡ Truncated n → y ≡ Truncated m → n ≡ m → BadLas a x ≡ BadLas b y
      both a b x y n m p q r s = cc
  records_once (BadLas source fault) (OutOfBounds other number) is_e is_f =
      let same : is_e.1.0 ≡ number = one_number (IsTruncated header records) (IsOutsideAt reading header records) is_e.1.0 number is_e.1.2 is_f.1 (not_short reading header records) (not_out reading header records) in
      absurd (omega (arith, is_f.1.bad.whole, subst (IsTruncated header records) same is_e.1.2.bad))
  records_once (OutOfBounds source number) SourceFault is_e is_f = tt
  records_once (OutOfBounds source number) Memory is_e is_f = tt
  records_once (OutOfBounds source number) NoBounds is_e is_f = absurd is_f
  records_once (OutOfBounds source number) (TooManyPoints other) is_e is_f = absurd is_f
  records_once (OutOfBounds source number) (BadLas other fault) is_e is_f =
      let same : is_f.1.0 ≡ number = one_number (IsTruncated header records) (IsOutsideAt reading header records) is_f.1.0 number is_f.1.2 is_e.1 (not_short reading header records) (not_out reading header records) in
      absurd (omega (arith, is_e.1.bad.whole, subst (IsTruncated header records) same is_f.1.2.bad))
  records_once (OutOfBounds source number) (OutOfBounds other second) is_e is_f =
      let same : number ≡ second = one_number (IsOutsideAt reading header records) (IsOutsideAt reading header records) number second is_e.1 is_f.1 (not_out reading header records) (not_out reading header records) in
      both source other number second (is_e.0 ∙ sym is_f.0) same
    where
      both : (a b n m : ℕ) → a ≡ b → n ≡ m → OutOfBounds a n ≡ OutOfBounds b m
      both a b n m p q = cc

pub from_blame : (e f : ScanError) → Blames e ⊥ → Blames e (Blames f (e ≡ f))
from_blame SourceFault f wrong = tt
from_blame Memory f wrong = tt
from_blame NoBounds f wrong = absurd wrong
from_blame (BadLas source fault) f wrong = absurd wrong
from_blame (OutOfBounds source number) f wrong = absurd wrong
from_blame (TooManyPoints source) f wrong = absurd wrong

pub from_second : (e f : ScanError) → Blames f ⊥ → Blames e (Blames f (e ≡ f))
from_second e SourceFault wrong = blames e (Blames SourceFault (e ≡ SourceFault)) tt
from_second e Memory wrong = blames e (Blames Memory (e ≡ Memory)) tt
from_second e NoBounds wrong = absurd wrong
from_second e (BadLas source fault) wrong = absurd wrong
from_second e (OutOfBounds source number) wrong = absurd wrong
from_second e (TooManyPoints source) wrong = absurd wrong

pub one_cause : (reading : Reading) (file : List ℕ) (e f : ScanError) → FileIsRefused reading file e → FileIsRefused reading file f → Blames e (Blames f (e ≡ f))
one_cause reading file e f is_e is_f =
    ⊎_elim
    (λ header_e. ⊎_elim (λ header_f. header_once_refused reading file e f header_e header_f)
    (λ (records_f : (h : Header) × HasHeader reading file h × (h.points ≤ most_points) × RecordsAreRefused reading h (records_of h file) f). from_blame e f (header_fine reading file records_f.0 e records_f.1 records_f.2 header_e)) is_f)
    (λ (records_e : (h : Header) × HasHeader reading file h × (h.points ≤ most_points) × RecordsAreRefused reading h (records_of h file) e).
    ⊎_elim (λ header_f. from_second e f (header_fine reading file records_e.0 f records_e.1 records_e.2 header_f))
    (λ (records_f : (h : Header) × HasHeader reading file h × (h.points ≤ most_points) × RecordsAreRefused reading h (records_of h file) f).
    let same : records_f.0 ≡ records_e.0 = one_header reading file records_f.0 records_e.0 records_f.1 records_e.1 in
    records_once reading records_e.0 (records_of records_e.0 file) e f records_e.3 (subst (λ (h : Header). RecordsAreRefused reading h (records_of h file) f) same records_f.3)) is_f)
    is_e

pub one_content : (o : Option (List ℕ)) (a b : List ℕ) → o ≡ Some a → o ≡ Some b → a ≡ b
one_content o a b is_a is_b = cc

-- inputs that are read in one way
module _ (all : Files) (scale : ℕ) (limits : Option Bounds) (inputs : List Input) where
  -- a file that reads as points in one way of reading its input does so in each
  again : (i : ℕ) (points : List Point) (input : Input) (reading : Reading) (file : List ℕ) → HasPointsAt all scale limits inputs i points → slice_get inputs i ≡ Some input → IsReadingOf scale limits i input reading → all input.path ≡ Some file → ArePointsOf reading file points
  again i points input reading file has is reads content =
      let was = has.is_input.reading_is in
      let one : has.input ≡ input = one_input inputs i has.input input has.is_input.is is in
      let here : has.has.file ≡ file = one_content (all input.path) has.has.file file (ap (λ (q : Input). all q.path) (sym one) ∙ has.has.content) content in
      let reads_one : IsReadingOf scale limits i has.input reading = subst (λ (q : Input). IsReadingOf scale limits i q reading) (sym one) reads in
      let allowed : All (IsAllowed reading.limits) points = λ k d lt. subst (λ (o : Option Bounds). IsAllowed o (get_or points k d)) (was.limits_are ∙ sym reads_one.limits_are) (has.has.are.are.each k d (omega (arith, lt, has.has.are.are.count))).allowed in
      subst (λ (l : List ℕ). ArePointsOf reading l points) here
      (reread has.reading reading (reads_one.factor_is ∙ sym was.factor_is) (reads_one.shift_is ∙ sym was.shift_is) (reads_one.origin_is ∙ sym was.origin_is) (reads_one.expect_is ∙ sym was.expect_is) has.has.file points has.has.are allowed)

  lists_once : (from end : ℕ) (xs ys : List (List Point)) → ArePointsFrom all scale limits inputs from end xs → ArePointsFrom all scale limits inputs from end ys → xs ≡ ys
  lists_once from end xs ys are_xs are_ys =
      same_lists xs ys (omega (arith, are_xs.count, are_ys.count))
      (λ k d lt.
      let has = are_ys.each k d (omega (arith, lt, are_xs.count, are_ys.count)) in
      file_once has.reading has.has.file (get_or xs k d) (get_or ys k d) (again (from + k) (get_or xs k d) has.input has.reading has.has.file (are_xs.each k d lt) has.is_input.is has.is_input.reading_is has.has.content) has.has.are)

  pub scan_once : (from : ℕ) (xs ys : List Point) (a b : ScanDone) → IsScan all scale limits inputs from xs a → IsScan all scale limits inputs from ys b → xs ≡ ys
  scan_once from xs ys a b is_xs is_ys = is_xs.points_are ∙ ap in_order (lists_once from (length inputs) is_xs.lists is_ys.lists is_xs.are is_ys.are) ∙ sym is_ys.points_are

  -- an input that is refused is not among those that read as points
  pub refused_among : (from end : ℕ) (lists : List (List Point)) (e : ScanError) → ArePointsFrom all scale limits inputs from end lists → (refused : IsFirstRefused all scale limits inputs from e) → refused.at < end → Blames e ⊥
  refused_among from end lists e are refused lt =
      let within : length refused.before < length lists = omega (arith, are.count, refused.good.count, lt) in
      let has : HasPointsAt all scale limits inputs refused.at (get_or lists (length refused.before) []) = subst (λ (n : ℕ). HasPointsAt all scale limits inputs n (get_or lists (length refused.before) [])) refused.good.count (are.each (length refused.before) [] within) in
      file_or_refusal refused.reading refused.refused.file (get_or lists (length refused.before) []) e (again refused.at (get_or lists (length refused.before) []) refused.input refused.reading refused.refused.file has refused.is_input.is refused.is_input.reading_is refused.refused.content) refused.refused.refused

  pub first_refused : (from : ℕ) (lists : List (List Point)) (e : ScanError) → ArePointsFrom all scale limits inputs from (length inputs) lists → IsFirstRefused all scale limits inputs from e → Blames e ⊥
  first_refused from lists e are refused = refused_among from (length inputs) lists e are refused refused.within

  bounds_lack : (from : ℕ) (xs : List Point) (done : ScanDone) → IsScan all scale limits inputs from xs done → LacksBounds all scale limits inputs from → ⊥
  bounds_lack from xs done scan lacks =
      let bounds : IsExtentOf xs done.bounds = subst (λ (o : Option Bounds). AreBounds o xs done.bounds) lacks.unlimited scan.bounds_are in
      let empty : xs ≡ [] = scan.points_are ∙ ap in_order (lists_once from (length inputs) scan.lists lacks.lists scan.are lacks.are) ∙ lacks.none in
      omega (arith, bounds.x.least_is.2, ap length empty)

  pub scan_or_refusal : (from : ℕ) (xs : List Point) (done : ScanDone) (e : ScanError) → IsScan all scale limits inputs from xs done → ScanIsRefused all scale limits inputs from e → Blames e ⊥
  scan_or_refusal from xs done SourceFault scan refused = tt
  scan_or_refusal from xs done Memory scan refused = tt
  scan_or_refusal from xs done NoBounds scan refused = bounds_lack from xs done scan refused
  scan_or_refusal from xs done (BadLas source fault) scan refused = first_refused from scan.lists (BadLas source fault) scan.are refused
  scan_or_refusal from xs done (OutOfBounds source number) scan refused = first_refused from scan.lists (OutOfBounds source number) scan.are refused
  scan_or_refusal from xs done (TooManyPoints source) scan refused = first_refused from scan.lists (TooManyPoints source) scan.are refused
