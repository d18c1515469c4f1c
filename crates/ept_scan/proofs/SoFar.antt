-- The records that were read so far.
use Rattle.std.proofs.Common.{◌≡◌, ⊎_elim, ℕ, ◌+◌, ◌*◌, ◌<◌, ◌≤◌, List, [], ◌∷◌, ◌++◌, Option, Some, None, length, drop, get_or, refl, sym, ◌∙◌, ap, subst, arith, length-append, length-drop}
use Rattle.std.specs.Prelude.{All, ⊤}
use Rattle.std.proofs.lemmas.Bool.{cases_lt}
use Rattle.std.proofs.lemmas.List.{drop-drop, get_or_append_left}
use Rattle.std.proofs.lemmas.List.Elements.{All-nil, All-push}
use Rattle.std.proofs.Math.Seq.{get_or-append_seam}
use Rattle.ept_base.specs.Files.{Tells}
use Rattle.ept_point.specs.declared.point.Point.{Point}
use Rattle.ept_space.specs.declared.bounds.Bounds.{Bounds}
use Rattle.ept_las.specs.declared.header.Header.{Header}
use Rattle.ept_las.specs.declared.las_error.LasError.TheVariants.{Truncated}
use Rattle.ept_scan.specs.declared.reading.Reading.{Reading}
use Rattle.ept_scan.specs.declared.scan_error.ScanError.TheVariants.{BadLas, OutOfBounds}
use Rattle.ept_scan.specs.declared.record.Found.{Found}
use Rattle.ept_scan.specs.declared.record.Found.TheVariants as found
use Rattle.ept_config.specs.Extents.{HasExtent, IsExtentOf}
use Rattle.ept_scan.specs.Extents.{IsAllowed}
use Rattle.ept_scan.specs.LasFile.{IsWhole, IsTruncated, IsPointAt, IsOutsideAt, AreFirstPoints}
use Rattle.ept_scan.specs.Records.{Takes, ReadsNext}
use Rattle.ept_scan.specs.Refusals.{RecordsAreRefused}
use Rattle.ept_scan.specs.Counts.{FindsExtent}

-- the place of the next record in the bytes from the first record on
pub record IsPlace (header : Header) (records : List ℕ) (now : Option (List ℕ)) (n : ℕ) : Type 0 where
  pub ahead : now ≡ Some (drop (header.length * n) records)

-- the same if the bytes of the source are visible
abbrev pub IsAtRecord : Header → Option (List ℕ) → Option (List ℕ) → ℕ → Type 0
IsAtRecord header None now n = ⊤
IsAtRecord header (Some records) now n = IsPlace header records now n

pub at_first : (header : Header) (known : Option (List ℕ)) → IsAtRecord header known known 0
at_first header None = tt
at_first header (Some records) =
    let start : 0 ≡ header.length * 0 = omega arith in
    record { ahead = ap (λ (i : ℕ). Some (drop i records)) start }

-- the record that was taken has this number, and the next place is after it
module _ (reading : Reading) (header : Header) (records : List ℕ) (n : ℕ) (now new : Option (List ℕ)) (it : Found Point) (some : 0 < header.length) (place : IsPlace header records now n)
    (takes : Takes reading header n (drop (header.length * n) records) new it) where
  whole_is : IsWhole header records n
  whole_is = omega (arith, some, takes.whole, length-drop (header.length * n) records)

  next_place : IsPlace header records new (n + 1)
  next_place =
      let sum : header.length * n + header.length ≡ header.length * (n + 1) = omega arith in
      record { ahead = takes.rest ∙ ap (λ (l : List ℕ). Some l) (drop-drop header.length (header.length * n) records ∙ ap (λ (i : ℕ). drop i records) sum) }

pub at_next : (reading : Reading) (header : Header) (some : 0 < header.length) (known now new : Option (List ℕ)) (n : ℕ) (p : Point) → IsAtRecord header known now n → ReadsNext reading header n now new (found.At p) → IsAtRecord header known new (n + 1)
at_next reading header some None now new n p place next = tt
at_next reading header some (Some records) now new n p place next =
    let taken = subst (λ (o : Option (List ℕ)). ReadsNext reading header n o new (found.At p)) place.ahead next in
    next_place reading header records n now new (found.At p) some place taken

-- its point is that of this number
pub point_is : (reading : Reading) (header : Header) (some : 0 < header.length) (known now new : Option (List ℕ)) (n : ℕ) (p : Point) → IsAtRecord header known now n → ReadsNext reading header n now new (found.At p) → IsAllowed reading.limits p
    → Tells (λ records. IsPointAt reading header records n p) known
point_is reading header some None now new n p place next allowed = tt
point_is reading header some (Some records) now new n p place next allowed =
    let taken = subst (λ (o : Option (List ℕ)). ReadsNext reading header n o new (found.At p)) place.ahead next in
    record { whole = whole_is reading header records n now new (found.At p) some place taken; point = taken.bytes; allowed = allowed }

pub outside_is : (reading : Reading) (header : Header) (some : 0 < header.length) (known now new : Option (List ℕ)) (n : ℕ) → IsAtRecord header known now n → ReadsNext reading header n now new found.Outside → Tells (λ records. IsOutsideAt reading header records n) known
outside_is reading header some None now new n place next = tt
outside_is reading header some (Some records) now new n place next =
    let taken = subst (λ (o : Option (List ℕ)). ReadsNext reading header n o new found.Outside) place.ahead next in
    record { whole = whole_is reading header records n now new found.Outside some place taken; outside = taken.bytes }

pub early_is : (reading : Reading) (header : Header) (known now new : Option (List ℕ)) (n : ℕ) → IsAtRecord header known now n → ReadsNext reading header n now new found.Early → Tells (λ records. IsTruncated header records n) known
early_is reading header None now new n place next = tt
early_is reading header (Some records) now new n place next =
    let short : length (drop (header.length * n) records) < header.length = subst (λ (o : Option (List ℕ)). ReadsNext reading header n o new found.Early) place.ahead next in
    omega (arith, short, length-drop (header.length * n) records)

-- the points of n records, with one more
pub first_points_none : (reading : Reading) (header : Header) (records : List ℕ) → AreFirstPoints reading header records 0 []
first_points_none reading header records = record { count = refl; each = λ k d lt. absurd (omega (arith, lt)) }

pub first_points_more : (reading : Reading) (header : Header) (records : List ℕ) (n : ℕ) (points : List Point) (p : Point) → AreFirstPoints reading header records n points → IsPointAt reading header records n p → AreFirstPoints reading header records (n + 1) (points ++ p ∷ [])
first_points_more reading header records n points p are is = record {
  count = omega (arith, are.count, length-append points (p ∷ []));
  each = λ k d lt. ⊎_elim (λ (before : k < n). subst (λ (q : Point). IsPointAt reading header records k q) (sym (get_or_append_left points (p ∷ []) d k (omega (arith, before, are.count)))) (are.each k d before))
      (λ (past : n ≤ k). newest k d (omega (arith, lt, past, are.count))) (cases_lt k n);
}
  where
    newest : (k : ℕ) (d : Point) → k ≡ length points → IsPointAt reading header records k (get_or (points ++ p ∷ []) k d)
    newest k d same =
        let read : get_or (points ++ p ∷ []) k d ≡ p = ap (λ (i : ℕ). get_or (points ++ p ∷ []) i d) same ∙ get_or-append_seam points p [] d in
        subst (λ (q : Point). IsPointAt reading header records k q) (sym read) (subst (λ (i : ℕ). IsPointAt reading header records i p) (sym (same ∙ are.count)) is)

-- the records that were read so far, and their extent
pub record HasRead (reading : Reading) (header : Header) (known : Option (List ℕ)) (n : ℕ) (extent : Option Bounds) : Type 0 where
  pub points : List Point
  pub count : length points ≡ n
  pub allowed : All (IsAllowed reading.limits) points
  pub has_extent : HasExtent points extent
  pub are : Tells (λ records. AreFirstPoints reading header records n points) known

tells_none : (reading : Reading) (header : Header) (known : Option (List ℕ)) → Tells (λ records. AreFirstPoints reading header records 0 []) known
tells_none reading header None = tt
tells_none reading header (Some records) = first_points_none reading header records

tells_more : (reading : Reading) (header : Header) (known : Option (List ℕ)) (n : ℕ) (points : List Point) (p : Point) → Tells (λ records. AreFirstPoints reading header records n points) known → Tells (λ records. IsPointAt reading header records n p) known
    → Tells (λ records. AreFirstPoints reading header records (n + 1) (points ++ p ∷ [])) known
tells_more reading header None n points p are is = tt
tells_more reading header (Some records) n points p are is = first_points_more reading header records n points p are is

pub read_none : (reading : Reading) (header : Header) (known : Option (List ℕ)) → HasRead reading header known 0 None
read_none reading header known = record { points = []; count = refl; allowed = All-nil (IsAllowed reading.limits); has_extent = refl; are = tells_none reading header known }

pub read_more : (reading : Reading) (header : Header) (known : Option (List ℕ)) (n : ℕ) (old : Option Bounds) (new : Bounds) (p : Point) → HasRead reading header known n old → IsAllowed reading.limits p → Tells (λ records. IsPointAt reading header records n p) known
    → ((xs : List Point) → HasExtent xs old → IsExtentOf (xs ++ p ∷ []) new) → HasRead reading header known (n + 1) (Some new)
read_more reading header known n old new p so_far allowed is grows = record {
  points = so_far.points ++ p ∷ [];
  count = omega (arith, so_far.count, length-append so_far.points (p ∷ []));
  allowed = All-push (IsAllowed reading.limits) so_far.points p so_far.allowed allowed;
  has_extent = grows so_far.points so_far.has_extent;
  are = tells_more reading header known n so_far.points p so_far.are is;
}

pub read_all : (reading : Reading) (header : Header) (known : Option (List ℕ)) (n : ℕ) (extent : Option Bounds) → n ≡ header.points → HasRead reading header known n extent → FindsExtent reading header known extent
read_all reading header known n extent all so_far = record {
  points = so_far.points;
  count = so_far.count ∙ all;
  allowed = so_far.allowed;
  has_extent = so_far.has_extent;
  are = subst (λ (k : ℕ). Tells (λ records. AreFirstPoints reading header records k so_far.points) known) all so_far.are;
}

-- the first bad record
pub refused_outside : (reading : Reading) (header : Header) (known : Option (List ℕ)) (n : ℕ) (extent : Option Bounds) → n < header.points → HasRead reading header known n extent → Tells (λ records. IsOutsideAt reading header records n) known
    → Tells (λ records. RecordsAreRefused reading header records (OutOfBounds reading.origin n)) known
refused_outside reading header None n extent stated so_far bad = tt
refused_outside reading header (Some records) n extent stated so_far bad = (refl, record { stated = stated; before = so_far.points; good = so_far.are; bad = bad })

pub refused_early : (reading : Reading) (header : Header) (known : Option (List ℕ)) (n : ℕ) (extent : Option Bounds) → n < header.points → HasRead reading header known n extent → Tells (λ records. IsTruncated header records n) known
    → Tells (λ records. RecordsAreRefused reading header records (BadLas reading.origin (Truncated n))) known
refused_early reading header None n extent stated so_far bad = tt
refused_early reading header (Some records) n extent stated so_far bad = (refl, (n, refl, record { stated = stated; before = so_far.points; good = so_far.are; bad = bad }))
