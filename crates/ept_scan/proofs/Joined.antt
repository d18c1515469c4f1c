-- The scan of the first inputs and that of the later inputs are the scan of all.
use Rattle.std.proofs.Common.{◌≡◌, ⊎_elim, ℕ, zero, suc, ◌+◌, ◌-◌, ◌<◌, ◌≤◌, List, [], ◌∷◌, ◌++◌, Some, None, length, take, drop, get_or, refl, sym, ◌∙◌, ap, subst, arith, length-append, length-drop}
use Rattle.std.specs.Prelude.{slice_get}
use Rattle.std.specs.List.{AllZip}
use Rattle.std.proofs.lemmas.Bool.{cases_lt}
use Rattle.std.proofs.lemmas.Option.{get_or_from_slice_get, slice_get-get_or, slice_get_within}
use Rattle.std.proofs.lemmas.Grind.{flat_map-append}
use Rattle.std.proofs.lemmas.List.{length-take-le, take_all, drop_all, take-append-le, drop-append-le, take-append-drop, get_or_append_left, get_or-append_right, get_or-take, get_or-drop}
use Rattle.ept_base.specs.Files.{Files}
use Rattle.ept_point.specs.declared.point.Point.{Point}
use Rattle.ept_space.specs.declared.bounds.Bounds.{Bounds}
use Rattle.ept_config.specs.declared.input.Input.{Input}
use Rattle.ept_config.specs.Counts.{IsCountOf, total}
use Rattle.ept_scan.specs.declared.scan_error.ScanError.{ScanError}
use Rattle.ept_scan.specs.declared.scan_error.ScanError.TheVariants.{SourceFault, BadLas, OutOfBounds, TooManyPoints, NoBounds, Memory}
use Rattle.ept_scan.specs.Scans.{in_order, HasPointsAt, ArePointsFrom, IsFirstRefused, ScanIsRefused}
use Rattle.ept_scan.specs.Laws.{ScansJoin, ScanFront, ScanBack, RefusedBehind}
use Rattle.ept_scan.proofs.Begun.{total_length}

-- pairs of two lists: of lists that are joined, and of their first and last parts
zip_append : {A B : Type 0} (R : A → B → Type 0) (xs more_xs : List A) (ys more_ys : List B) → AllZip R xs ys → AllZip R more_xs more_ys → AllZip R (xs ++ more_xs) (ys ++ more_ys)
zip_append R [] more_xs [] more_ys first rest = rest
zip_append R [] more_xs (y ∷ ys) more_ys first rest = absurd first
zip_append R (x ∷ xs) more_xs [] more_ys first rest = absurd first
zip_append R (x ∷ xs) more_xs (y ∷ ys) more_ys first rest = (first.0, zip_append R xs more_xs ys more_ys first.1 rest)

zip_take : {A B : Type 0} (R : A → B → Type 0) (n : ℕ) (xs : List A) (ys : List B) → AllZip R xs ys → AllZip R (take n xs) (take n ys)
zip_take R zero xs ys all = tt
zip_take R (suc n) [] [] all = tt
zip_take R (suc n) [] (y ∷ ys) all = absurd all
zip_take R (suc n) (x ∷ xs) [] all = absurd all
zip_take R (suc n) (x ∷ xs) (y ∷ ys) all = (all.0, zip_take R n xs ys all.1)

zip_drop : {A B : Type 0} (R : A → B → Type 0) (n : ℕ) (xs : List A) (ys : List B) → AllZip R xs ys → AllZip R (drop n xs) (drop n ys)
zip_drop R zero xs ys all = all
zip_drop R (suc n) [] [] all = tt
zip_drop R (suc n) [] (y ∷ ys) all = absurd all
zip_drop R (suc n) (x ∷ xs) [] all = absurd all
zip_drop R (suc n) (x ∷ xs) (y ∷ ys) all = zip_drop R n xs ys all.1

-- the points of lists that are joined, and of the first and of the last ones
joined_order : (xs ys : List (List Point)) → in_order (xs ++ ys) ≡ in_order xs ++ in_order ys
joined_order xs ys = flat_map-append (λ (l : List Point). l) xs ys

parted_order : (n : ℕ) (lists : List (List Point)) → in_order lists ≡ in_order (take n lists) ++ in_order (drop n lists)
parted_order n lists = ap in_order (sym (take-append-drop n lists)) ∙ joined_order (take n lists) (drop n lists)

take_front : (m : ℕ) (xs ys : List Point) → length xs ≡ m → take m (xs ++ ys) ≡ xs
take_front m xs ys size = take-append-le m xs ys (omega (arith, size)) ∙ take_all m xs (omega (arith, size))

drop_front : (m : ℕ) (xs ys : List Point) → length xs ≡ m → drop m (xs ++ ys) ≡ ys
drop_front m xs ys size = drop-append-le m xs ys (omega (arith, size)) ∙ ap (λ (l : List Point). l ++ ys) (drop_all m xs (omega (arith, size)))

-- one of the first inputs is at the same place among all
among_all : (first others : List Input) (i : ℕ) (input : Input) → slice_get first i ≡ Some input → slice_get (first ++ others) i ≡ Some input
among_all first others i input is =
    let lt : i < length first = slice_get_within first i input is in
    slice_get-get_or (first ++ others) i input (omega (arith, lt, length-append first others)) ∙ ap (λ (a : Input). Some a) (get_or_append_left first others input i lt ∙ get_or_from_slice_get first i input input is)

among_first : (first others : List Input) (i : ℕ) (input : Input) → i < length first → slice_get (first ++ others) i ≡ Some input → slice_get first i ≡ Some input
among_first first others i input lt is = slice_get-get_or first i input lt ∙ ap (λ (a : Input). Some a) (sym (get_or_append_left first others input i lt) ∙ get_or_from_slice_get (first ++ others) i input input is)

module _ (all : Files) (scale : ℕ) (bounds : Bounds) where
  has_elsewhere : (here there : List Input) (i : ℕ) (points : List Point) → ((input : Input) → slice_get here i ≡ Some input → slice_get there i ≡ Some input) → HasPointsAt all scale (Some bounds) here i points → HasPointsAt all scale (Some bounds) there i points
  has_elsewhere here there i points same has = record {
    input = has.input;
    reading = has.reading;
    is_input = record { is = same has.input has.is_input.is; reading_is = has.is_input.reading_is };
    has = has.has;
  }

  module _ (first others : List Input) where
    -- the points of the first inputs, and of the later ones
    points_joined : (end : ℕ) (xs ys : List (List Point)) → ArePointsFrom all scale (Some bounds) first 0 (length first) xs → ArePointsFrom all scale (Some bounds) (first ++ others) (length first) end ys → ArePointsFrom all scale (Some bounds) (first ++ others) 0 end (xs ++ ys)
    points_joined end xs ys of_xs of_ys = record {
      count = omega (arith, of_xs.count, of_ys.count, length-append xs ys);
      each = λ k d lt. ⊎_elim (λ (before : k < length xs). early k d before) (λ (past : length xs ≤ k). late k d past (omega (arith, lt, past, length-append xs ys))) (cases_lt k (length xs));
    }
      where
        early : (k : ℕ) (d : List Point) → k < length xs → HasPointsAt all scale (Some bounds) (first ++ others) (0 + k) (get_or (xs ++ ys) k d)
        early k d before =
            subst (λ (l : List Point). HasPointsAt all scale (Some bounds) (first ++ others) (0 + k) l) (sym (get_or_append_left xs ys d k before))
            (has_elsewhere first (first ++ others) (0 + k) (get_or xs k d) (among_all first others (0 + k)) (of_xs.each k d before))

        late : (k : ℕ) (d : List Point) → length xs ≤ k → k - length xs < length ys → HasPointsAt all scale (Some bounds) (first ++ others) (0 + k) (get_or (xs ++ ys) k d)
        late k d past lt =
            let place : length first + (k - length xs) ≡ 0 + k = omega (arith, of_xs.count, past) in
            subst (λ (l : List Point). HasPointsAt all scale (Some bounds) (first ++ others) (0 + k) l) (sym (get_or-append_right xs ys (length xs) k d refl past))
            (subst (λ (n : ℕ). HasPointsAt all scale (Some bounds) (first ++ others) n (get_or ys (k - length xs) d)) place (of_ys.each (k - length xs) d lt))

    points_front : (lists : List (List Point)) → ArePointsFrom all scale (Some bounds) (first ++ others) 0 (length (first ++ others)) lists → ArePointsFrom all scale (Some bounds) first 0 (length first) (take (length first) lists)
    points_front lists are =
        let size : length (take (length first) lists) ≡ length first = length-take-le (length first) lists (omega (arith, are.count, length-append first others)) in
        record {
          count = omega (arith, size);
          each = λ k d lt.
              let before : k < length first = omega (arith, lt, size) in
              has_elsewhere (first ++ others) first (0 + k) (get_or (take (length first) lists) k d) (λ input. among_first first others (0 + k) input (omega (arith, before)))
              (subst (λ (l : List Point). HasPointsAt all scale (Some bounds) (first ++ others) (0 + k) l) (sym (get_or-take (length first) lists k d before)) (are.each k d (omega (arith, before, are.count, length-append first others))));
        }

    points_back : (lists : List (List Point)) → ArePointsFrom all scale (Some bounds) (first ++ others) 0 (length (first ++ others)) lists → ArePointsFrom all scale (Some bounds) (first ++ others) (length first) (length (first ++ others)) (drop (length first) lists)
    points_back lists are = record {
      count = omega (arith, are.count, length-drop (length first) lists, length-append first others);
      each = λ k d lt.
          let place : 0 + (length first + k) ≡ length first + k = omega arith in
          subst (λ (l : List Point). HasPointsAt all scale (Some bounds) (first ++ others) (length first + k) l) (sym (get_or-drop (length first) lists k d))
          (subst (λ (n : ℕ). HasPointsAt all scale (Some bounds) (first ++ others) n (get_or lists (length first + k) d)) place (are.each (length first + k) d (omega (arith, lt, length-drop (length first) lists))));
    }

pub scans_join : ScansJoin
scans_join all scale bounds first others xs ys front back of_front of_back = record {
  lists = of_front.lists ++ of_back.lists;
  are = points_joined all scale bounds first others (length (first ++ others)) of_front.lists of_back.lists of_front.are of_back.are;
  points_are = ap (λ (l : List Point). l ++ ys) of_front.points_are ∙ ap (λ (l : List Point). in_order of_front.lists ++ l) of_back.points_are ∙ sym (joined_order of_front.lists of_back.lists);
  counts_are = zip_append IsCountOf of_front.lists of_back.lists front.counts back.counts of_front.counts_are of_back.counts_are;
  bounds_are = refl;
}

pub scan_front : ScanFront
scan_front all scale bounds first others points done scan =
    let n : ℕ = length first in
    record {
      lists = take n scan.lists;
      are = points_front all scale bounds first others scan.lists scan.are;
      points_are = ap (λ (l : List Point). take (total (take n done.counts)) l) (scan.points_are ∙ parted_order n scan.lists) ∙ take_front (total (take n done.counts)) (in_order (take n scan.lists)) (in_order (drop n scan.lists)) (total_length scan.lists done.counts n scan.counts_are);
      counts_are = zip_take IsCountOf n scan.lists done.counts scan.counts_are;
      bounds_are = refl;
    }

pub scan_back : ScanBack
scan_back all scale bounds first others points done scan =
    let n : ℕ = length first in
    record {
      lists = drop n scan.lists;
      are = points_back all scale bounds first others scan.lists scan.are;
      points_are = ap (λ (l : List Point). drop (total (take n done.counts)) l) (scan.points_are ∙ parted_order n scan.lists) ∙ drop_front (total (take n done.counts)) (in_order (take n scan.lists)) (in_order (drop n scan.lists)) (total_length scan.lists done.counts n scan.counts_are);
      counts_are = zip_drop IsCountOf n scan.lists done.counts scan.counts_are;
      bounds_are = refl;
    }

pub refused_behind : RefusedBehind
refused_behind all scale bounds first others points done e scan refused = of e refused
  where
    earlier : (error : ScanError) → IsFirstRefused all scale (Some bounds) (first ++ others) (length first) error → IsFirstRefused all scale (Some bounds) (first ++ others) 0 error
    earlier error is = record {
      at = is.at;
      within = is.within;
      before = scan.lists ++ is.before;
      good = points_joined all scale bounds first others is.at scan.lists is.before scan.are is.good;
      input = is.input;
      reading = is.reading;
      is_input = is.is_input;
      refused = is.refused;
    }

    bounded : Some bounds ≡ None → ⊥
    bounded same = cc

    of : (error : ScanError) → ScanIsRefused all scale (Some bounds) (first ++ others) (length first) error → ScanIsRefused all scale (Some bounds) (first ++ others) 0 error
    of SourceFault is = tt
    of Memory is = tt
    of NoBounds is = absurd (bounded is.unlimited)
    of (BadLas source fault) is = earlier (BadLas source fault) is
    of (OutOfBounds source number) is = earlier (OutOfBounds source number) is
    of (TooManyPoints source) is = earlier (TooManyPoints source) is
