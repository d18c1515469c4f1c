-- A file reads as points in one way. So it does not differ from what was found if it holds that.
use Rattle.std.proofs.Common.{◌≡◌, ◌⊎◌, ⊎_elim, [], ◌∷◌, ℕ, ◌<◌, List, Option, Some, Ok, Err, Result, length, get_or, refl, sym, ◌∙◌, ap, subst, arith}
use Rattle.ept_base.specs.Files.{Tells}
use Rattle.ept_point.specs.declared.point.Point.{Point}
use Rattle.ept_las.specs.declared.header.Header.{Header}
use Rattle.ept_las.specs.declared.las_error.LasError.{LasError}
use Rattle.ept_las.proofs.HeaderLaws.{header_once}
use Rattle.ept_las.proofs.RecordLaws.{point_once, out_or_point}
use Rattle.ept_scan.specs.declared.reading.Reading.{Reading}
use Rattle.ept_scan.specs.Extents.{IsAllowed}
use Rattle.ept_scan.specs.LasFile.{head_of, HasHeader, records_of, record_at, IsTruncated, IsOutsideAt, IsPointAt, ArePointsOf}
use Rattle.ept_scan.specs.Changes.{HeaderDiffers, RecordDiffers, Differs, HasRecord}

pub same_ok : (a b : Header) (x y : Result Header LasError) → x ≡ Ok a → y ≡ Ok b → x ≡ y → a ≡ b
same_ok a b x y is_a is_b same = cc

pub not_err : (a : Header) (f : LasError) (x y : Result Header LasError) → x ≡ Ok a → y ≡ Err f → x ≡ y → ⊥
not_err a f x y is_a is_err same = cc

pub one_header : (reading : Reading) (file : List ℕ) (a b : Header) → HasHeader reading file a → HasHeader reading file b → a ≡ b
one_header reading file a b has_a has_b = same_ok a b (Ok a) (Ok b) refl refl (header_once (head_of file) reading.expect (Ok a) (Ok b) has_a has_b)

-- record n has one point
pub one_point : (reading : Reading) (header : Header) (records : List ℕ) (n : ℕ) (p q : Point) → IsPointAt reading header records n p → IsPointAt reading header records n q → p ≡ q
one_point reading header records n p q is_p is_q = point_once header.format reading.shift reading.origin n (record_at header records n) p q is_p.point is_q.point

pub not_truncated : (reading : Reading) (header : Header) (records : List ℕ) (n : ℕ) (p : Point) → IsPointAt reading header records n p → IsTruncated header records n → ⊥
not_truncated reading header records n p is short = omega (arith, is.whole, short)

pub not_outside : (reading : Reading) (header : Header) (records : List ℕ) (n : ℕ) (p : Point) → IsPointAt reading header records n p → IsOutsideAt reading header records n → ⊥
not_outside reading header records n p is out =
    ⊎_elim (λ units. out_or_point header.format reading.shift reading.origin n (record_at header records n) p units is.point)
    (λ (other : (q : Point) × _ × ¬ IsAllowed reading.limits q). other.2 (subst (IsAllowed reading.limits) (point_once header.format reading.shift reading.origin n (record_at header records n) p other.0 is.point other.1) is.allowed)) out.outside

pub some_point : (points : List Point) (n : ℕ) → n < length points → Point
some_point [] n lt = absurd (omega (arith, lt))
some_point (p ∷ points) n lt = p

module _ (reading : Reading) (points : ℕ) (file : List ℕ) (mine : List Point) (are : ArePointsOf reading file mine) (count : length mine ≡ points) where
  point_at : (n : ℕ) (d : Point) → n < points → IsPointAt reading are.header (records_of are.header file) n (get_or mine n d)
  point_at n d lt = are.are.each n d (omega (arith, lt, count, are.are.count))

  header_same : HeaderDiffers reading points file → ⊥
  header_same differs =
      ⊎_elim (λ (fault : (f : LasError) × _). not_err are.header fault.0 (Ok are.header) (Err fault.0) refl refl (header_once (head_of file) reading.expect (Ok are.header) (Err fault.0) are.has_header fault.1))
      (λ (other : (h : Header) × HasHeader reading file h × _). other.2 (ap (λ (h : Header). h.points) (one_header reading file other.0 are.header other.1 are.has_header) ∙ sym are.are.count ∙ count)) differs

  record_same : (n : ℕ) → RecordDiffers reading points file n → ⊥
  record_same n differs =
      let header : differs.1 ≡ are.header = one_header reading file differs.1 are.header differs.2.has_header are.has_header in
      let d : Point = some_point mine n (omega (arith, differs.0, count)) in
      let bad : IsTruncated are.header (records_of are.header file) n ⊎ IsOutsideAt reading are.header (records_of are.header file) n = subst (λ (h : Header). IsTruncated h (records_of h file) n ⊎ IsOutsideAt reading h (records_of h file) n) header differs.3 in
      ⊎_elim (not_truncated reading are.header (records_of are.header file) n (get_or mine n d) (point_at n d differs.0)) (not_outside reading are.header (records_of are.header file) n (get_or mine n d) (point_at n d differs.0)) bad

  pub not_changed : (told : Option (List ℕ)) (next n : ℕ) → told ≡ Some file → Differs reading points told next n → ⊥
  not_changed told next n is differs =
      ⊎_elim (λ (header : (n ≡ 0) × Tells (HeaderDiffers reading points) told). header_same (subst (Tells (HeaderDiffers reading points)) is header.1))
      (λ (other : (n ≡ next) × Tells (λ bytes. RecordDiffers reading points bytes next) told). record_same next (subst (Tells (λ bytes. RecordDiffers reading points bytes next)) is other.1)) differs

  pub same_record : (n : ℕ) (p d : Point) → n < points → HasRecord reading points file n p → get_or mine n d ≡ p
  same_record n p d lt has =
      let header : has.0 ≡ are.header = one_header reading file has.0 are.header has.1.has_header are.has_header in
      one_point reading are.header (records_of are.header file) n (get_or mine n d) p (point_at n d lt) (subst (λ (h : Header). IsPointAt reading h (records_of h file) n p) header has.2)
