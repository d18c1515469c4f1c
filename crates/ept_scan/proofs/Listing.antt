-- The inputs that were read so far, their points and their counts.
use Rattle.std.proofs.Common.{◌≡◌, ⊎_elim, ℕ, zero, suc, ◌+◌, ◌<◌, ◌≤◌, List, [], ◌∷◌, ◌++◌, Option, Some, None, length, take, get_or, refl, sym, ◌∙◌, ap, subst, arith, length-append}
use Rattle.std.specs.Prelude.{All, slice_get}
use Rattle.std.specs.List.{AllZip}
use Rattle.std.proofs.lemmas.Bool.{cases_lt}
use Rattle.std.proofs.lemmas.Grind.{flat_map-append}
use Rattle.std.proofs.lemmas.List.{append-nil, take_more, get_or_append_left, take_all}
use Rattle.std.proofs.lemmas.List.Elements.{All-nil, All-push}
use Rattle.std.proofs.Math.Seq.{get_or-append_seam}
use Rattle.ept_base.specs.Files.{Files, Tells}
use Rattle.ept_point.specs.declared.point.Point.{Point}
use Rattle.ept_space.specs.declared.bounds.Bounds.{Bounds}
use Rattle.ept_config.specs.declared.input.Input.{Input}
use Rattle.ept_config.specs.declared.source_count.SourceCount.{SourceCount}
use Rattle.ept_scan.specs.declared.reading.Reading.{Reading}
use Rattle.ept_config.specs.Counts.{most_points}
use Rattle.ept_scan.specs.declared.scan_error.ScanError.{ScanError}
use Rattle.ept_scan.specs.declared.scan_error.ScanError.TheVariants.{SourceFault, BadLas, OutOfBounds, TooManyPoints, NoBounds, Memory}
use Rattle.ept_config.specs.Extents.{HasExtent}
use Rattle.ept_scan.specs.Extents.{IsAllowed}
use Rattle.ept_config.specs.Counts.{IsCountOf}
use Rattle.ept_scan.specs.Counts.{FindsCount}
use Rattle.ept_scan.specs.Scans.{in_order, IsReadingOf, Blames, HasPoints, PathIsRefused, HasPointsAt, ArePointsFrom, ScanIsRefused}
use Rattle.ept_scan.specs.Found.{FindsLists}

-- pairs of two lists
pub zip_push : {A B : Type 0} (R : A → B → Type 0) (xs : List A) (ys : List B) (x : A) (y : B) → AllZip R xs ys → R x y → AllZip R (xs ++ x ∷ []) (ys ++ y ∷ [])
zip_push R [] [] x y all here = (here, tt)
zip_push R [] (b ∷ ys) x y all here = absurd all
zip_push R (a ∷ xs) [] x y all here = absurd all
zip_push R (a ∷ xs) (b ∷ ys) x y all here = (all.0, zip_push R xs ys x y all.1 here)

pub zip_at : {A B : Type 0} (R : A → B → Type 0) (xs : List A) (ys : List B) (i : ℕ) (d : A) (e : B) → AllZip R xs ys → i < length ys → R (get_or xs i d) (get_or ys i e)
zip_at R [] [] i d e all lt = absurd (omega (arith, lt))
zip_at R [] (b ∷ ys) i d e all lt = absurd all
zip_at R (a ∷ xs) [] i d e all lt = absurd all
zip_at R (a ∷ xs) (b ∷ ys) zero d e all lt = all.0
zip_at R (a ∷ xs) (b ∷ ys) (suc i) d e all lt = zip_at R xs ys i d e all.1 (omega (arith, lt))

pub zip_length : {A B : Type 0} (R : A → B → Type 0) (xs : List A) (ys : List B) → AllZip R xs ys → length xs ≡ length ys
zip_length R [] [] all = refl
zip_length R [] (b ∷ ys) all = absurd all
zip_length R (a ∷ xs) [] all = absurd all
zip_length R (a ∷ xs) (b ∷ ys) all = ap (λ (n : ℕ). suc n) (zip_length R xs ys all.1)

-- the points of one more list
pub in_order_push : (lists : List (List Point)) (points : List Point) → in_order (lists ++ points ∷ []) ≡ in_order lists ++ points
in_order_push lists points = flat_map-append (λ (l : List Point). l) lists (points ∷ []) ∙ ap (λ (l : List Point). in_order lists ++ l) (append-nil points)

pub in_order_more : (lists : List (List Point)) (i : ℕ) → i < length lists → in_order (take (i + 1) lists) ≡ in_order (take i lists) ++ get_or lists i []
in_order_more lists i lt = ap in_order (take_more lists i [] lt) ∙ in_order_push (take i lists) (get_or lists i [])

-- the extent of the points of the first lists
pub extent_more : (lists : List (List Point)) (counts : List SourceCount) (i : ℕ) (d : SourceCount) (old new : Option Bounds) → i < length counts → AllZip IsCountOf lists counts
    → ((xs ys : List Point) → HasExtent xs old → HasExtent ys (get_or counts i d).extent → HasExtent (xs ++ ys) new) → HasExtent (in_order (take i lists)) old → HasExtent (in_order (take (i + 1) lists)) new
extent_more lists counts i d old new lt all unite so_far =
    let here : IsCountOf (get_or lists i []) (get_or counts i d) = zip_at IsCountOf lists counts i [] d all lt in
    subst (λ (l : List Point). HasExtent l new) (sym (in_order_more lists i (omega (arith, lt, zip_length IsCountOf lists counts all)))) (unite (in_order (take i lists)) (get_or lists i []) so_far here.has_extent)

pub extent_all : (lists : List (List Point)) (counts : List SourceCount) (i : ℕ) (extent : Option Bounds) → i ≡ length counts → AllZip IsCountOf lists counts → HasExtent (in_order (take i lists)) extent → HasExtent (in_order lists) extent
extent_all lists counts i extent all zip has =
    subst (λ (l : List (List Point)). HasExtent (in_order l) extent) (take_all i lists (omega (arith, all, zip_length IsCountOf lists counts zip))) has

-- the first inputs were read
module _ (files : Option Files) (scale : ℕ) (limits : Option Bounds) (inputs : List Input) (from : ℕ) where
  told_none : (files : Option Files) → Tells (λ all. ArePointsFrom all scale limits inputs from from []) files
  told_none None = tt
  told_none (Some all) = record { count = omega arith; each = λ k d lt. absurd (omega (arith, lt)) }

  pub found_none : FindsLists files scale limits inputs from from []
  found_none = record { lists = []; size = omega arith; counts_are = tt; few = All-nil (λ points. length points ≤ most_points); allowed = All-nil (All (IsAllowed limits)); are = told_none files }

  module _ (i : ℕ) (input : Input) (reading : Reading) (is : slice_get inputs i ≡ Some input) (reading_is : IsReadingOf scale limits i input reading) where
    more : (all : Files) (lists : List (List Point)) (points : List Point) → ArePointsFrom all scale limits inputs from i lists → HasPoints all input.path reading points → ArePointsFrom all scale limits inputs from (i + 1) (lists ++ points ∷ [])
    more all lists points are has = record {
      count = omega (arith, are.count, length-append lists (points ∷ []));
      each = λ k d lt. ⊎_elim (λ (before : k < length lists). subst (λ (l : List Point). HasPointsAt all scale limits inputs (from + k) l) (sym (get_or_append_left lists (points ∷ []) d k before)) (are.each k d before))
          (λ (past : length lists ≤ k). newest k d (omega (arith, lt, past, length-append lists (points ∷ [])))) (cases_lt k (length lists));
    }
      where
        newest : (k : ℕ) (d : List Point) → k ≡ length lists → HasPointsAt all scale limits inputs (from + k) (get_or (lists ++ points ∷ []) k d)
        newest k d same =
            let read : get_or (lists ++ points ∷ []) k d ≡ points = ap (λ (n : ℕ). get_or (lists ++ points ∷ []) n d) same ∙ get_or-append_seam lists points [] d in
            let place : from + k ≡ i = omega (arith, same, are.count) in
            subst (λ (l : List Point). HasPointsAt all scale limits inputs (from + k) l) (sym read)
            (subst (λ (n : ℕ). HasPointsAt all scale limits inputs n points) (sym place) (record { input = input; reading = reading; is_input = record { is = is; reading_is = reading_is }; has = has }))

    told_more : (files : Option Files) (lists : List (List Point)) (points : List Point) → Tells (λ all. ArePointsFrom all scale limits inputs from i lists) files → Tells (λ all. HasPoints all input.path reading points) files
        → Tells (λ all. ArePointsFrom all scale limits inputs from (i + 1) (lists ++ points ∷ [])) files
    told_more None lists points are has = tt
    told_more (Some all) lists points are has = more all lists points are has

    pub found_more : (counts : List SourceCount) (count : SourceCount) → FindsLists files scale limits inputs from i counts → FindsCount reading.limits (λ points. Tells (λ all. HasPoints all input.path reading points) files) count
        → FindsLists files scale limits inputs from (i + 1) (counts ++ count ∷ [])
    found_more counts count so_far found = record {
      lists = so_far.lists ++ found.points ∷ [];
      size = omega (arith, so_far.size, length-append so_far.lists (found.points ∷ []));
      counts_are = zip_push IsCountOf so_far.lists counts found.points count so_far.counts_are found.is_count;
      few = All-push (λ points. length points ≤ most_points) so_far.lists found.points so_far.few found.few;
      allowed = All-push (All (IsAllowed limits)) so_far.lists found.points so_far.allowed (subst (λ (o : Option Bounds). All (IsAllowed o) found.points) reading_is.limits_are found.allowed);
      are = told_more files so_far.lists found.points so_far.are found.are;
    }

    within : i < length inputs → (all : Files) (lists : List (List Point)) (e : ScanError) → ArePointsFrom all scale limits inputs from i lists → Blames e (PathIsRefused all input.path reading e) → ScanIsRefused all scale limits inputs from e
    within lt all lists SourceFault are refused = tt
    within lt all lists Memory are refused = tt
    within lt all lists NoBounds are refused = absurd (⊎_elim (λ (no : ⊥). no) (λ some. some.3) refused.refused)
    within lt all lists (BadLas source fault) are refused = record { at = i; within = lt; before = lists; good = are; input = input; reading = reading; is_input = record { is = is; reading_is = reading_is }; refused = refused }
    within lt all lists (OutOfBounds source number) are refused = record { at = i; within = lt; before = lists; good = are; input = input; reading = reading; is_input = record { is = is; reading_is = reading_is }; refused = refused }
    within lt all lists (TooManyPoints source) are refused = record { at = i; within = lt; before = lists; good = are; input = input; reading = reading; is_input = record { is = is; reading_is = reading_is }; refused = refused }

    told_refused : i < length inputs → (files : Option Files) (lists : List (List Point)) (e : ScanError) → Tells (λ all. ArePointsFrom all scale limits inputs from i lists) files → Tells (λ all. Blames e (PathIsRefused all input.path reading e)) files
        → Tells (λ all. ScanIsRefused all scale limits inputs from e) files
    told_refused lt None lists e are refused = tt
    told_refused lt (Some all) lists e are refused = within lt all lists e are refused

    pub found_refused : (counts : List SourceCount) (e : ScanError) → i < length inputs → FindsLists files scale limits inputs from i counts → Tells (λ all. Blames e (PathIsRefused all input.path reading e)) files
        → Tells (λ all. ScanIsRefused all scale limits inputs from e) files
    found_refused counts e lt so_far refused = told_refused lt files so_far.lists e so_far.are refused

-- what was found for a path of a shelf, for the same path and shelf under other names
pub found_at : (limits : Option Bounds) (reading : Reading) (count : SourceCount) (there here : Option Files) (path name : List ℕ) → there ≡ here → path ≡ name → FindsCount limits (λ points. Tells (λ all. HasPoints all path reading points) there) count
    → FindsCount limits (λ points. Tells (λ all. HasPoints all name reading points) here) count
found_at limits reading count there here path name same_files same_path found =
    subst (λ (l : List ℕ). FindsCount limits (λ points. Tells (λ all. HasPoints all l reading points) here) count) same_path
    (subst (λ (o : Option Files). FindsCount limits (λ points. Tells (λ all. HasPoints all path reading points) o) count) same_files found)

pub refused_at : (reading : Reading) (e error : ScanError) (there here : Option Files) (path name : List ℕ) → there ≡ here → path ≡ name → error ≡ e → Tells (λ all. Blames e (PathIsRefused all path reading e)) there → Tells (λ all. Blames error (PathIsRefused all name reading error)) here
refused_at reading e error there here path name same_files same_path same refused =
    subst (λ (f : ScanError). Tells (λ all. Blames f (PathIsRefused all name reading f)) here) (sym same)
    (subst (λ (l : List ℕ). Tells (λ all. Blames e (PathIsRefused all l reading e)) here) same_path (subst (λ (o : Option Files). Tells (λ all. Blames e (PathIsRefused all path reading e)) o) same_files refused))
