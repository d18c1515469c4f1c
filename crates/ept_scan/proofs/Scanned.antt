-- What was scanned lies within the bounds that were found, and is read the same within them.
use Rattle.std.proofs.Common.{ℕ, ◌+◌, ◌<◌, List, [], ◌∷◌, Option, Some, None, length, take, get_or, refl, sym, subst, arith}
use Rattle.std.specs.Prelude.{All}
use Rattle.std.proofs.lemmas.List.Concat.{get_or-flat_map}
use Rattle.std.proofs.lemmas.List.Folds.{length-flat_map-take}
use Rattle.std.proofs.lemmas.List.Elements.{All-nil, All-head, All-tail, All-append}
use Rattle.ept_base.specs.Files.{Files}
use Rattle.ept_point.specs.declared.point.Point.{Point}
use Rattle.ept_space.specs.declared.bounds.Bounds.{Bounds}
use Rattle.ept_config.specs.declared.input.Input.{Input}
use Rattle.ept_scan.specs.declared.reading.Reading.{Reading}
use Rattle.ept_scan.specs.declared.scan_done.ScanDone.{ScanDone}
use Rattle.ept_config.specs.Extents.{IsWithin}
use Rattle.ept_scan.specs.Extents.{IsAllowed}
use Rattle.ept_scan.specs.Scans.{in_order, HasPointsAt, IsScan}
use Rattle.ept_scan.proofs.Rereading.{reread}
use Rattle.ept_scan.proofs.Sound.{all_within}

-- what holds of the points of each list holds of all points
pub all_in_order : (P : Point → Type 0) (lists : List (List Point)) → All (All P) lists → All P (in_order lists)
all_in_order P [] each = All-nil P
all_in_order P (l ∷ lists) each = All-append P l (in_order lists) (All-head (All P) l lists each) (all_in_order P lists (All-tail (All P) l lists each))

-- what holds of all points holds of the points of each list
all_of_list : (P : Point → Type 0) (lists : List (List Point)) (k : ℕ) (d : List Point) → k < length lists → All P (in_order lists) → All P (get_or lists k d)
all_of_list P lists k d lt all = λ j e inside.
    subst P (get_or-flat_map (λ (l : List Point). l) lists k j d e lt inside)
    (all (length (in_order (take k lists)) + j) e (omega (arith, inside, length-flat_map-take (λ (l : List Point). l) lists k d lt)))

module _ (all : Files) (scale : ℕ) (inputs : List Input) where
  -- points that were read within some limits lie within them
  allowed : (limits : Option Bounds) (i : ℕ) (points : List Point) → HasPointsAt all scale limits inputs i points → All (IsAllowed limits) points
  allowed limits i points has = λ k d lt.
      subst (λ (o : Option Bounds). IsAllowed o (get_or points k d)) has.is_input.reading_is.limits_are (has.has.are.are.each k d (omega (arith, lt, has.has.are.are.count))).allowed

  -- a file is read the same within other limits if its points lie within them
  reread_at : (limits other : Option Bounds) (i : ℕ) (points : List Point) → HasPointsAt all scale limits inputs i points → All (IsAllowed other) points → HasPointsAt all scale other inputs i points
  reread_at limits other i points has within =
      let old : Reading = has.reading in
      let was = has.is_input.reading_is in
      let new : Reading = record { origin = old.origin; shift = old.shift; expect = old.expect; limits = other; origin_fits = old.origin_fits } in
      record {
        input = has.input;
        reading = new;
        is_input = record {
          is = has.is_input.is;
          reading_is = record { origin_is = was.origin_is; factor_is = was.factor_is; shift_is = was.shift_is; expect_is = was.expect_is; limits_are = refl };
        };
        has = record { file = has.has.file; content = has.has.content; are = reread old new refl refl refl refl has.has.file points has.has.are within };
      }

  pub scan_placed : (limits : Option Bounds) (from : ℕ) (points : List Point) (done : ScanDone) → IsScan all scale limits inputs from points done → All (IsWithin done.bounds) points
  scan_placed None from points done scan = all_within points done.bounds scan.bounds_are
  scan_placed (Some given) from points done scan =
      let each : All (All (IsWithin given)) scan.lists = λ k d lt. allowed (Some given) (from + k) (get_or scan.lists k d) (scan.are.each k d lt) in
      subst (λ (l : List Point). All (IsWithin done.bounds) l) (sym scan.points_are) (subst (λ (b : Bounds). All (IsWithin b) (in_order scan.lists)) (sym scan.bounds_are) (all_in_order (IsWithin given) scan.lists each))

  pub scan_kept : (limits : Option Bounds) (from : ℕ) (points : List Point) (done : ScanDone) → IsScan all scale limits inputs from points done → IsScan all scale (Some done.bounds) inputs from points done
  scan_kept limits from points done scan =
      let within : All (IsWithin done.bounds) (in_order scan.lists) = subst (λ (l : List Point). All (IsWithin done.bounds) l) scan.points_are (scan_placed limits from points done scan) in
      record {
        lists = scan.lists;
        are = record {
          count = scan.are.count;
          each = λ k d lt. reread_at limits (Some done.bounds) (from + k) (get_or scan.lists k d) (scan.are.each k d lt) (all_of_list (IsWithin done.bounds) scan.lists k d lt within);
        };
        points_are = scan.points_are;
        counts_are = scan.counts_are;
        bounds_are = refl;
      }
