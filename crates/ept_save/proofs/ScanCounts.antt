-- The counts of a scan are those of its points, input by input.
use Rattle.std.proofs.Common.{◌≡◌, ◌≢◌, ◌∙◌, ℕ, zero, suc, ◌+◌, ◌<◌, ◌≤◌, ◌^◌, Bool, true, false, cond, ◌==◌, inl, inr, List, [], ◌∷◌, ◌++◌, Option, None, refl, sym, ap, subst, arith, length, get_or}
use Rattle.std.specs.Prelude.{All}
use Rattle.std.specs.List.{AllZip}
use Rattle.std.proofs.lemmas.Bool.Decides.{nat_tests}
use Rattle.std.proofs.lemmas.Bool.{cases_lt}
use Rattle.std.proofs.lemmas.List.{append-nil}
use Rattle.std.proofs.lemmas.List.Elements.{filter-append, All-nil, All-append, All-weaker}
use Rattle.ept_base.specs.Files.{Files}
use Rattle.ept_point.specs.declared.point.Point.{Point}
use Rattle.ept_space.specs.declared.bounds.Bounds.{Bounds}
use Rattle.ept_config.specs.declared.input.Input.{Input}
use Rattle.ept_config.specs.declared.source_count.SourceCount.{SourceCount}
use Rattle.ept_config.specs.Counts.{IsCountOf, IsCount}
use Rattle.ept_scan.specs.declared.scan_done.ScanDone.{ScanDone}
use Rattle.ept_scan.specs.Scans.{in_order, HasPointsAt, IsScan}
use Rattle.ept_meta.specs.Output.{points_from}

abbrev IsFrom : ℕ → Point → Type 0
IsFrom source p = p.origin ≡ source

-- all of the points are of the input
all_from : (source : ℕ) (points : List Point) → All (IsFrom source) points → points_from source points ≡ points
all_from source [] each = refl
all_from source (p ∷ points) each =
    let here : (p.origin == source) ≡ true = is_same p.origin source (each 0 p (omega arith)) in
    ap (λ (b : Bool). cond b (p ∷ points_from source points) (points_from source points)) here
    ∙ ap (λ (w : List Point). p ∷ w) (all_from source points (λ k d lt. each (suc k) d (omega (arith, lt))))
  where
    is_same : (a b : ℕ) → a ≡ b → (a == b) ≡ true
    is_same a b e = grind (arith, nat_tests)

-- none of them is
pub none_from : (source : ℕ) (points : List Point) → All (λ p. p.origin ≢ source) points → points_from source points ≡ []
none_from source [] each = refl
none_from source (p ∷ points) each =
    let here : (p.origin == source) ≡ false = is_other p.origin source (each 0 p (omega arith)) in
    ap (λ (b : Bool). cond b (p ∷ points_from source points) (points_from source points)) here
    ∙ none_from source points (λ k d lt. each (suc k) d (omega (arith, lt)))
  where
    is_other : (a b : ℕ) → a ≢ b → (a == b) ≡ false
    is_other a b e = grind (arith, nat_tests)

-- the lists are of inputs that follow one another
abbrev AreLists : ℕ → List (List Point) → Type 0
AreLists from lists = (k : ℕ) (d : List Point) → k < length lists → All (IsFrom (from + k)) (get_or lists k d)

tail_lists : (from : ℕ) (points : List Point) (lists : List (List Point)) → AreLists from (points ∷ lists) → AreLists (from + 1) lists
tail_lists from points lists are k d lt =
    let moved : from + suc k ≡ from + 1 + k = omega arith in
    subst (λ (n : ℕ). All (IsFrom n) (get_or lists k d)) moved (are (suc k) d (omega (arith, lt)))

head_list : (from : ℕ) (points : List Point) (lists : List (List Point)) → AreLists from (points ∷ lists) → All (IsFrom from) points
head_list from points lists are =
    let moved : from + 0 ≡ from = omega arith in subst (λ (n : ℕ). All (IsFrom n) points) moved (are 0 points (omega arith))

-- all of them are of inputs from one on
later : (from : ℕ) (lists : List (List Point)) → AreLists from lists → All (λ p. from ≤ p.origin) (in_order lists)
later from [] are = All-nil (λ p. from ≤ p.origin)
later from (points ∷ lists) are =
    All-append (λ p. from ≤ p.origin) points (in_order lists) (All-weaker (IsFrom from) (λ p. from ≤ p.origin) (λ p e. omega (arith, e)) points (head_list from points lists are))
    (All-weaker (λ p. from + 1 ≤ p.origin) (λ p. from ≤ p.origin) (λ p le. omega (arith, le)) (in_order lists) (later (from + 1) lists (tail_lists from points lists are)))

-- so the points of an input are its list
from_list : (from : ℕ) (lists : List (List Point)) (k : ℕ) → AreLists from lists → k < length lists → points_from (from + k) (in_order lists) ≡ get_or lists k []
from_list from [] k are lt = absurd (omega (arith, lt))
from_list from (points ∷ lists) zero are lt =
    let here : from + 0 ≡ from = omega arith in
    ap (λ (n : ℕ). points_from n (points ++ in_order lists)) here
    ∙ (filter-append (λ (p : Point). p.origin == from) points (in_order lists)
    ∙ (ap (λ (w : List Point). w ++ points_from from (in_order lists)) (all_from from points (head_list from points lists are))
    ∙ (ap (λ (w : List Point). points ++ w) (none_from from (in_order lists) (All-weaker (λ p. from + 1 ≤ p.origin) (λ p. p.origin ≢ from) (λ p le e. omega (arith, le, e)) (in_order lists) (later (from + 1) lists (tail_lists from points lists are))))
    ∙ append-nil points)))
from_list from (points ∷ lists) (suc k) are lt =
    let moved : from + suc k ≡ from + 1 + k = omega arith in
    ap (λ (n : ℕ). points_from n (points ++ in_order lists)) moved
    ∙ (filter-append (λ (p : Point). p.origin == from + 1 + k) points (in_order lists)
    ∙ (ap (λ (w : List Point). w ++ points_from (from + 1 + k) (in_order lists)) (none_from (from + 1 + k) points (All-weaker (IsFrom from) (λ p. p.origin ≢ from + 1 + k) (λ p e same. omega (arith, e, same)) points (head_list from points lists are)))
    ∙ from_list (from + 1) lists k (tail_lists from points lists are) (omega (arith, lt))))

zip_length : {A B : Type 0} (R : A → B → Type 0) (xs : List A) (ys : List B) → AllZip R xs ys → length xs ≡ length ys
zip_length R [] [] all = refl
zip_length R [] (y ∷ ys) all = absurd all
zip_length R (x ∷ xs) [] all = absurd all
zip_length R (x ∷ xs) (y ∷ ys) all = ap suc (zip_length R xs ys all.1)

zip_at : {A B : Type 0} (R : A → B → Type 0) (xs : List A) (ys : List B) (k : ℕ) (d : A) (e : B) → AllZip R xs ys → k < length ys → R (get_or xs k d) (get_or ys k e)
zip_at R [] [] k d e all lt = absurd (omega (arith, lt))
zip_at R [] (y ∷ ys) k d e all lt = absurd all
zip_at R (x ∷ xs) [] k d e all lt = absurd all
zip_at R (x ∷ xs) (y ∷ ys) zero d e all lt = all.0
zip_at R (x ∷ xs) (y ∷ ys) (suc k) d e all lt = zip_at R xs ys k d e all.1 (omega (arith, lt))

module _ (shelf : Files) (scale : ℕ) (limits : Option Bounds) (inputs : List Input) (points : List Point) (done : ScanDone) (scan : IsScan shelf scale limits inputs 0 points done) where
  are_lists : AreLists 0 scan.lists
  are_lists k d lt = λ j p inside.
      let has : HasPointsAt shelf scale limits inputs (0 + k) (get_or scan.lists k d) = scan.are.each k d lt in
      (has.has.are.are.each j p (omega (arith, inside, has.has.are.are.count))).point.origin_is ∙ has.is_input.reading_is.origin_is

  pub scan_each : length done.counts ≡ length inputs
  scan_each = omega (arith, scan.are.count, zip_length IsCountOf scan.lists done.counts scan.counts_are)

  -- the counts are those of the points, input by input
  pub scan_counted : (source : ℕ) (none : SourceCount) → source < length done.counts → IsCountOf (points_from source points) (get_or done.counts source none)
  scan_counted source none lt =
      let zero_on : 0 + source ≡ source = omega arith in
      let list : points_from source points ≡ get_or scan.lists source [] =
      ap (λ (w : List Point). points_from source w) scan.points_are ∙ (ap (λ (n : ℕ). points_from n (in_order scan.lists)) (sym zero_on) ∙ from_list 0 scan.lists source are_lists (omega (arith, lt, zip_length IsCountOf scan.lists done.counts scan.counts_are)))
      in
      subst (λ (w : List Point). IsCountOf w (get_or done.counts source none)) (sym list) (zip_at IsCountOf scan.lists done.counts source [] none scan.counts_are lt)

  -- where each count is below 2 ^ 40, no input has more points
  pub scan_few : (bounds : Bounds) → All (IsCount bounds) done.counts → All (λ p. p.origin < length inputs) points → (source : ℕ) → length (points_from source points) < 2 ^ 40
  scan_few bounds counts origins source = elim (cases_lt source (length done.counts)) [
    | inl lt ↦ omega (arith, (scan_counted source no_count lt).number, (counts source no_count lt).few)
    | inr past ↦ (
        let none : points_from source points ≡ [] = none_from source points (All-weaker (λ p. p.origin < length inputs) (λ p. p.origin ≢ source) (λ p low e. omega (arith, low, e, past, scan_each)) points origins) in
        omega (arith, ap (λ (w : List Point). length w) none))
  ]
    where
      no_count : SourceCount
      no_count = record { points = 0; extent = None }
