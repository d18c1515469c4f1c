-- The points of a file, if it holds those that were found.
use Rattle.std.proofs.Common.{◌≡◌, inl, inr, ℕ, zero, suc, ◌+◌, ◌*◌, ◌≤◌, List, [], ◌∷◌, ◌++◌, Option, Some, None, refl, sym, ◌∙◌, ap, subst, length, take, get_or, arith, length-append, get_or-take}
use Rattle.std.proofs.lemmas.Bool.{cases_eq}
use Rattle.std.proofs.lemmas.List.{length-take-le, get_or_append_left}
use Rattle.std.proofs.Math.Seq.{get_or-append_seam}
use Rattle.ept_space.specs.declared.bounds.Bounds.{Bounds}
use Rattle.ept_space.specs.Place.{coordinate}
use Rattle.ept_space.specs.ClosedBox.{IsBetween}
use Rattle.ept_point.specs.declared.point.Point.{Point}
use Rattle.ept_las.specs.declared.header.Header.{Header}
use Rattle.ept_las.specs.PointRecord.{IsPointOf}
use Rattle.ept_las.proofs.RecordLaws.{point_once}
use Rattle.ept_config.specs.Extents.{IsWithin}
use Rattle.ept_scan.specs.declared.reading.Reading.{Reading}
use Rattle.ept_scan.specs.Extents.{IsAllowed}
use Rattle.ept_scan.specs.LasFile.{HasHeader, records_of, record_at, IsWhole, IsPointAt, AreFirstPoints, ArePointsOf}
use Rattle.ept_config.specs.Counts.{most_points}
use Rattle.ept_decidable.proofs.Deciding.{Known, known_and, known_like, known_le, known_most_int}
use Rattle.ept_decidable.proofs.Headers.{known_header, one_header}
use Rattle.ept_decidable.proofs.Records.{known_point}

-- ---- where a point may lie

known_between : (least greatest at : _) → Known (IsBetween least greatest at)
known_between least greatest at = known_and (known_most_int least at) (known_most_int at greatest)

known_within : (bounds : Bounds) (p : Point) → Known (IsWithin bounds p)
known_within bounds p =
    known_like (λ h. record { x = h.0; y = h.1.0; z = h.1.1 }) (λ (w : IsWithin bounds p). (w.x, (w.y, w.z)))
    (known_and (known_between (coordinate bounds.min 0) (coordinate bounds.max 0) p.x) (known_and (known_between (coordinate bounds.min 1) (coordinate bounds.max 1) p.y) (known_between (coordinate bounds.min 2) (coordinate bounds.max 2) p.z)))

known_allowed : (limits : Option Bounds) (p : Point) → Known (IsAllowed limits p)
known_allowed None p = inl tt
known_allowed (Some bounds) p = known_within bounds p

-- ---- the points of the first records

module _ (reading : Reading) (header : Header) (records : List ℕ) where
  with_point : (n : ℕ) → IsWhole header records n → Known ((p : Point) × IsPointOf header.format reading.shift reading.origin n (record_at header records n) p) → Known ((p : Point) × IsPointAt reading header records n p)
  with_point n whole (inl is) =
      known_like (λ may. (is.0, record { whole = whole; point = is.1; allowed = may }))
      (λ (at : (p : Point) × IsPointAt reading header records n p). subst (IsAllowed reading.limits) (point_once header.format reading.shift reading.origin n (record_at header records n) at.0 is.0 at.1.point is.1) at.1.allowed)
      (known_allowed reading.limits is.0)
  with_point n whole (inr none) = inr (λ at. none (at.0, at.1.point))

  known_point_at : (n : ℕ) → Known ((p : Point) × IsPointAt reading header records n p)
  known_point_at n =
      elim (known_le (header.length * (n + 1)) (length records)) [
        | inl whole ↦ with_point n whole (known_point header.format reading.shift reading.origin n (record_at header records n))
        | inr short ↦ inr (λ at. short at.1.whole)
      ]

  first : (n : ℕ) (points : List Point) → AreFirstPoints reading header records (suc n) points → AreFirstPoints reading header records n (take n points)
  first n points are = record {
    count = length-take-le n points (omega (arith, are.count));
    each = λ k d less. subst (IsPointAt reading header records k) (sym (get_or-take n points k d less)) (are.each k d (omega (arith, less)));
  }

  more : (n : ℕ) (points : List Point) (p : Point) → AreFirstPoints reading header records n points → IsPointAt reading header records n p → AreFirstPoints reading header records (suc n) (points ++ p ∷ [])
  more n points p are is = record {
    count = omega (arith, length-append points (p ∷ []), are.count);
    each = λ k d less. elim (cases_eq k n) [
      | inl last ↦ subst (λ (q : Point). IsPointAt reading header records k q) (sym (at_last k d last)) (subst (λ (j : ℕ). IsPointAt reading header records j p) (sym last) is)
      | inr other ↦ subst (λ (q : Point). IsPointAt reading header records k q) (sym (get_or_append_left points (p ∷ []) d k (omega (arith, less, other, are.count)))) (are.each k d (omega (arith, less, other)))
    ];
  }
    where
      at_last : (k : ℕ) (d : Point) → k ≡ n → get_or (points ++ p ∷ []) k d ≡ p
      at_last k d last = ap (λ (j : ℕ). get_or (points ++ p ∷ []) j d) (last ∙ sym are.count) ∙ get_or-append_seam points p [] d

  last_point : (n : ℕ) (points : List Point) → AreFirstPoints reading header records (suc n) points → (p : Point) × IsPointAt reading header records n p
  last_point n [] are = absurd (omega (arith, are.count))
  last_point n (q ∷ points) are = (get_or (q ∷ points) n q, are.each n q (omega arith))

  known_first : (n : ℕ) → Known ((points : List Point) × AreFirstPoints reading header records n points)
  known_first zero = inl ([], record { count = refl; each = λ k d less. absurd (omega (arith, less)) })
  known_first (suc n) =
      known_like (λ (h : ((points : List Point) × AreFirstPoints reading header records n points) × ((p : Point) × IsPointAt reading header records n p)). (h.0.0 ++ h.1.0 ∷ [], more n h.0.0 h.1.0 h.0.1 h.1.1))
      (λ (h : (points : List Point) × AreFirstPoints reading header records (suc n) points). ((take n h.0, first n h.0 h.1), last_point n h.0 h.1)) (known_and (known_first n) (known_point_at n))

-- ---- the points of a file

with_header : (reading : Reading) (file : List ℕ) → Known ((header : Header) × HasHeader reading file header) → Known ((points : List Point) × ArePointsOf reading file points)
with_header reading file (inr none) = inr (λ h. none (h.1.header, h.1.has_header))
with_header reading file (inl has) =
    known_like (λ (h : (has.0.points ≤ most_points) × ((points : List Point) × AreFirstPoints reading has.0 (records_of has.0 file) has.0.points points)). (h.1.0, record { header = has.0; has_header = has.1; few = h.0; are = h.1.1 }))
    (λ (h : (points : List Point) × ArePointsOf reading file points). as_told h.0 h.1) (known_and (known_le has.0.points most_points) (known_first reading has.0 (records_of has.0 file) has.0.points))
  where
    as_told : (points : List Point) → ArePointsOf reading file points → (has.0.points ≤ most_points) × ((points : List Point) × AreFirstPoints reading has.0 (records_of has.0 file) has.0.points points)
    as_told points are =
        subst (λ (h : Header). (h.points ≤ most_points) × ((points : List Point) × AreFirstPoints reading h (records_of h file) h.points points)) (one_header reading file are.header has.0 are.has_header has.1) (are.few, (points, are.are))

pub known_points : (reading : Reading) (file : List ℕ) → Known ((points : List Point) × ArePointsOf reading file points)
known_points reading file = with_header reading file (known_header reading file)
