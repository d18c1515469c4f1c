-- The points of a scan are in the order of their ids, and no two have the same id.
use Rattle.std.proofs.Common.{◌≡◌, ⊎_elim, ℕ, zero, suc, ◌+◌, ◌<◌, ◌≤◌, List, [], ◌∷◌, ◌++◌, Option, length, get_or, sym, ◌∙◌, subst, arith, inl, inr}
use Rattle.std.specs.Prelude.{All}
use Rattle.std.specs.List.{AllZip}
use Rattle.std.proofs.lemmas.Bool.{cases_lt}
use Rattle.std.proofs.lemmas.List.Elements.{All-nil, All-head, All-tail, All-append, All-weaker}
use Rattle.ept_base.specs.Files.{Files}
use Rattle.ept_point.specs.declared.id.PointId.{PointId}
use Rattle.ept_point.specs.declared.point.Point.{Point}
use Rattle.ept_point.specs.Order.{id, IsBefore, FollowedBy, IsAscending}
use Rattle.ept_point.proofs.OrderLaws.{not_before_itself, before_trans}
use Rattle.ept_space.specs.declared.bounds.Bounds.{Bounds}
use Rattle.ept_config.specs.declared.input.Input.{Input}
use Rattle.ept_config.specs.declared.source_count.SourceCount.{SourceCount}
use Rattle.ept_config.specs.Counts.{IsCountOf}
use Rattle.ept_scan.specs.declared.scan_done.ScanDone.{ScanDone}
use Rattle.ept_scan.specs.Laws.{HaveDistinctIds}
use Rattle.ept_scan.specs.Scans.{in_order, HasPointsAt, IsScan}
use Rattle.ept_scan.proofs.Scanned.{all_in_order}

-- the points come from this input, one record after the other, from this number on
abbrev AreNumbered : ℕ → ℕ → List Point → Type 0
AreNumbered i n points = (k : ℕ) (d : Point) → k < length points → ((get_or points k d).origin ≡ i) × ((get_or points k d).number ≡ n + k)

module _ (i : ℕ) where
  -- after a point of an input comes its next one, or one of a later input
  followed : (n : ℕ) (p : Point) (points later : List Point) → AreNumbered i n (p ∷ points) → All (λ q. i < q.origin) later → FollowedBy p (points ++ later)
  followed n p [] [] are behind = tt
  followed n p [] (q ∷ later) are behind = inl (omega (arith, (are 0 p (omega arith)).0, behind 0 q (omega arith)))
  followed n p (q ∷ points) later are behind =
      let here = are 0 p (omega arith) in
      let next = are 1 p (omega arith) in
      inr (here.0 ∙ sym next.0, omega (arith, here.1, next.1))

  -- the points of an input ascend, and then those of later inputs do
  ascend_on : (n : ℕ) (points later : List Point) → AreNumbered i n points → All (λ q. i < q.origin) later → IsAscending later → IsAscending (points ++ later)
  ascend_on n [] later are behind up = up
  ascend_on n (p ∷ points) later are behind up = (
    followed n p points later are behind,
    ascend_on (n + 1) points later (λ k d lt. let at = are (suc k) d (omega (arith, lt)) in (at.0, omega (arith, at.1))) behind up,
  )

-- the points of inputs that follow one another ascend, and none is of an earlier input
lists_ascend : (i : ℕ) (lists : List (List Point)) → ((k : ℕ) (d : List Point) → k < length lists → AreNumbered (i + k) 0 (get_or lists k d)) → IsAscending (in_order lists) × All (λ p. i ≤ p.origin) (in_order lists)
lists_ascend i [] each = (tt, All-nil (λ p. i ≤ p.origin))
lists_ascend i (l ∷ lists) each =
    let here : AreNumbered i 0 l = λ k d lt. let at = each 0 l (omega arith) k d lt in (omega (arith, at.0), at.1) in
    let others = lists_ascend (i + 1) lists (λ k d lt j e inside. let at = each (suc k) d (omega (arith, lt)) j e inside in (omega (arith, at.0), at.1)) in (
      ascend_on i 0 l (in_order lists) here (All-weaker (λ p. i + 1 ≤ p.origin) (λ p. i < p.origin) (λ p h. omega (arith, h)) (in_order lists) others.1) others.0,
      All-append (λ p. i ≤ p.origin) l (in_order lists) (λ k d lt. omega (arith, (here k d lt).0)) (All-weaker (λ p. i + 1 ≤ p.origin) (λ p. i ≤ p.origin) (λ p h. omega (arith, h)) (in_order lists) others.1),
    )

-- if no input has more than `most` points, they have numbers below it
numbers_below : (i most : ℕ) (lists : List (List Point)) (counts : List SourceCount) → AllZip IsCountOf lists counts → All (λ count. count.points ≤ most) counts
    → ((k : ℕ) (d : List Point) → k < length lists → AreNumbered (i + k) 0 (get_or lists k d)) → All (λ p. p.number < most) (in_order lists)
numbers_below i most [] counts zip few each = All-nil (λ p. p.number < most)
numbers_below i most (l ∷ lists) [] zip few each = absurd zip
numbers_below i most (l ∷ lists) (c ∷ counts) zip few each =
    let here : c.points ≤ most = All-head (λ (count : SourceCount). count.points ≤ most) c counts few in
    All-append (λ p. p.number < most) l (in_order lists) (λ k d lt. omega (arith, (each 0 l (omega arith) k d lt).1, lt, zip.0.number, here))
    (numbers_below (i + 1) most lists counts zip.1 (All-tail (λ (count : SourceCount). count.points ≤ most) c counts few) (λ k d lt j e inside. let at = each (suc k) d (omega (arith, lt)) j e inside in (omega (arith, at.0), at.1)))

-- the first of ascending points comes before each other
first_before : (p : Point) (points : List Point) (k : ℕ) (d : Point) → IsAscending (p ∷ points) → k < length points → IsBefore (id p) (id (get_or points k d))
first_before p [] k d up lt = absurd (omega (arith, lt))
first_before p (q ∷ points) zero d up lt = up.0
first_before p (q ∷ points) (suc k) d up lt = before_trans (id p) (id q) (id (get_or points k d)) up.0 (first_before q points k d up.1 (omega (arith, lt)))

-- of two ascending points the one at the lower place comes first
one_before : (points : List Point) (i j : ℕ) (d : Point) → IsAscending points → i < j → j < length points → IsBefore (id (get_or points i d)) (id (get_or points j d))
one_before [] i j d up less lt = absurd (omega (arith, lt))
one_before (p ∷ points) i zero d up less lt = absurd (omega (arith, less))
one_before (p ∷ points) zero (suc j) d up less lt = first_before p points j d up (omega (arith, lt))
one_before (p ∷ points) (suc i) (suc j) d up less lt = one_before points i j d up.1 (omega (arith, less)) (omega (arith, lt))

-- so no two of them have the same id
distinct : (points : List Point) → IsAscending points → HaveDistinctIds points
distinct points up i j d lt_i lt_j same =
    ⊎_elim (λ (less : i < j). absurd (not_before_itself (id (get_or points j d)) (subst (λ (a : PointId). IsBefore a (id (get_or points j d))) same (one_before points i j d up less lt_j))))
    (λ (at_least : j ≤ i). ⊎_elim (λ (more : j < i). absurd (not_before_itself (id (get_or points i d)) (subst (λ (a : PointId). IsBefore a (id (get_or points i d))) (sym same) (one_before points j i d up more lt_i)))) (λ (at_most : i ≤ j). omega (arith, at_least, at_most)) (cases_lt j i)) (cases_lt i j)

module _ (all : Files) (scale : ℕ) (limits : Option Bounds) (inputs : List Input) where
  -- the points of a file carry the place of their input and the numbers of their records
  numbered : (i : ℕ) (points : List Point) → HasPointsAt all scale limits inputs i points → AreNumbered i 0 points
  numbered i points has = λ k d lt.
      let point = (has.has.are.are.each k d (omega (arith, lt, has.has.are.are.count))).point in
      (point.origin_is ∙ has.is_input.reading_is.origin_is, omega (arith, point.number_is))

  pub scan_ascends : (from : ℕ) (points : List Point) (done : ScanDone) → IsScan all scale limits inputs from points done → IsAscending points
  scan_ascends from points done scan =
      subst IsAscending (sym scan.points_are) (lists_ascend from scan.lists (λ k d lt. numbered (from + k) (get_or scan.lists k d) (scan.are.each k d lt))).0

  pub scan_distinct : (from : ℕ) (points : List Point) (done : ScanDone) → IsScan all scale limits inputs from points done → HaveDistinctIds points
  scan_distinct from points done scan = distinct points (scan_ascends from points done scan)

  pub scan_numbered : (from : ℕ) (points : List Point) (done : ScanDone) (most : ℕ) → IsScan all scale limits inputs from points done → All (λ count. count.points ≤ most) done.counts → All (λ p. p.number < most) points
  scan_numbered from points done most scan few =
      subst (All (λ p. p.number < most)) (sym scan.points_are) (numbers_below from most scan.lists done.counts scan.counts_are few (λ k d lt. numbered (from + k) (get_or scan.lists k d) (scan.are.each k d lt)))

  pub scan_origins : (from : ℕ) (points : List Point) (done : ScanDone) → IsScan all scale limits inputs from points done → All (λ p. p.origin < length inputs) points
  scan_origins from points done scan =
      let each : All (All (λ p. p.origin < length inputs)) scan.lists =
      λ k d lt j e inside. omega (arith, (numbered (from + k) (get_or scan.lists k d) (scan.are.each k d lt) j e inside).0, lt, scan.are.count)
      in
      subst (All (λ p. p.origin < length inputs)) (sym scan.points_are) (all_in_order (λ p. p.origin < length inputs) scan.lists each)
