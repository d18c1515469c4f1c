-- Inputs that are opened one after the other.
use Rattle.std.proofs.Common.{◌≡◌, ◌≢◌, ⊎_elim, ℕ, ◌+◌, ◌<◌, ◌≤◌, List, [], ◌∷◌, ◌++◌, Option, Some, None, length, take, drop, get_or, refl, sym, ◌∙◌, ap, subst, arith, length-take}
use Rattle.std.specs.Prelude.{true, false, All, Any, IsSome, is_some, map, slice_get}
use Rattle.std.specs.List.{AllZip}
use Rattle.std.proofs.lemmas.Bool.{cases_lt}
use Rattle.std.proofs.lemmas.Option.{get_or_from_slice_get, slice_get-get_or}
use Rattle.std.proofs.lemmas.List.{append-nil, take_more, drop-take, drop-append-le, map-append}
use Rattle.std.proofs.lemmas.List.Elements.{All-nil, All-push}
use Rattle.std.proofs.lemmas.List.Sums.{sum_by_push}
use Rattle.ept_base.specs.Files.{Files, Tells}
use Rattle.ept_base.specs.Devices.{Opens}
use Rattle.ept_point.specs.declared.point.Point.{Point}
use Rattle.ept_space.specs.declared.bounds.Bounds.{Bounds}
use Rattle.ept_config.specs.declared.input.Input.{Input}
use Rattle.ept_config.specs.declared.kept.Kept.{Kept}
use Rattle.ept_config.specs.declared.source_count.SourceCount.{SourceCount}
use Rattle.ept_scan.specs.declared.part.Part.{Part}
use Rattle.ept_config.specs.Counts.{IsCountOf, total, IsCount}
use Rattle.ept_scan.specs.Scans.{in_order, IsReadingOf, HasPointsAt, ArePointsFrom}
use Rattle.ept_scan.specs.Queue.{Held, HoldsPoints, held, IsUnread, IsLimited}
use Rattle.ept_scan.specs.Opening.{AreHeld, IsFileOf, HasBytesOf, HasOpened, AddsInput}
use Rattle.ept_scan.proofs.Listing.{zip_push, zip_at, zip_length, in_order_push}
use Rattle.ept_scan.proofs.Spans.{extent_none}
use Rattle.ept_scan.proofs.Rereading.{part_holds}

pub total_more : (counts : List SourceCount) (i : ℕ) (d : SourceCount) → i < length counts → total (take (i + 1) counts) ≡ total (take i counts) + (get_or counts i d).points
total_more counts i d lt = ap total (take_more counts i d lt) ∙ sum_by_push (λ (c : SourceCount). c.points) (take i counts) (get_or counts i d)

-- the lists from one place up to another, and one more
part_more : (lists : List (List Point)) (from i : ℕ) → from ≤ i → i < length lists → in_order (drop from (take (i + 1) lists)) ≡ in_order (drop from (take i lists)) ++ get_or lists i []
part_more lists from i le lt =
    let size : from ≤ length (take i lists) = omega (arith, le, lt, length-take i lists) in
    ap (λ (l : List (List Point)). in_order (drop from l)) (take_more lists i [] lt) ∙ ap in_order (drop-append-le from (take i lists) (get_or lists i [] ∷ []) size) ∙ in_order_push (drop from (take i lists)) (get_or lists i [])

part_none : (lists : List (List Point)) (from : ℕ) → in_order (drop from (take from lists)) ≡ []
part_none lists from =
    let same : from ≡ from + 0 = omega arith in
    ap (λ (n : ℕ). in_order (drop from (take n lists))) same ∙ ap in_order (drop-take from 0 lists)

zero_plus : (i : ℕ) → 0 + i ≡ i
zero_plus i = omega arith

one_count : (counts : List SourceCount) (i : ℕ) (a d : SourceCount) → slice_get counts i ≡ Some a → get_or counts i d ≡ a
one_count counts i a d is = get_or_from_slice_get counts i a d is

module _ {S : Type 0} (whole left : S → Option (List ℕ)) (given : S → ℕ) (faults : S → ℕ) (files : Option Files) (kept : Kept) (counts : List SourceCount) (each : length counts ≡ length kept.inputs) (from : ℕ) where
  lists_none : (files : Option Files) → Tells (λ all. (lists : List (List Point)) → ArePointsFrom all kept.scale (Some kept.bounds) kept.inputs 0 (length kept.inputs) lists → AllZip IsCountOf lists counts → AreHeld whole [] (drop from (take from lists))) files
  lists_none None = tt
  lists_none (Some all) = λ lists are zip. record { mine = []; hold = tt; same = sym (part_none lists from) }

  bytes_none : (files : Option Files) → Tells (λ all. All (λ part. HasBytesOf all kept.inputs (held whole part)) []) files
  bytes_none None = tt
  bytes_none (Some all) = All-nil (λ part. HasBytesOf all kept.inputs (held whole part))

  pub opened_none : HasOpened whole left given faults files kept counts from from []
  opened_none = record {
    unread = All-nil (IsUnread whole left given);
    limited = All-nil IsLimited;
    known = All-nil (λ part. IsFileOf kept counts (held whole part));
    bytes = bytes_none files;
    fresh = All-nil (λ part. faults part.source ≡ 0);
    sum = omega arith;
    none = λ same. refl;
    first = λ count is some lt. absurd (omega (arith, lt));
    holds = lists_none files;
  }

  module _ (i : ℕ) (d : SourceCount) (le : from ≤ i) (lt : i < length counts) (parts : List (Part S)) (so_far : HasOpened whole left given faults files kept counts from i parts) where
    -- an input without points is left out
    module _ (none : (get_or counts i d).extent ≡ None) (zero : (get_or counts i d).points ≡ 0) where
      skip_first : (count : SourceCount) → slice_get counts from ≡ Some count → 0 < count.points → from < i + 1 → (part : Part S) × (others : List (Part S)) × (parts ≡ part ∷ others) × (part.points ≡ count.points)
      skip_first count is some within =
          ⊎_elim (λ (before : from < i). so_far.first count is some before) (λ (here : i ≤ from). absurd (wrong (omega (arith, here, le)))) (cases_lt from i)
        where
          wrong : from ≡ i → ⊥
          wrong same =
              let is_here : get_or counts i d ≡ count = ap (λ (n : ℕ). get_or counts n d) (sym same) ∙ one_count counts from count d is in
              omega (arith, some, zero, ap (λ (c : SourceCount). c.points) is_here)

      skip_lists : (files : Option Files) → Tells (λ all. (lists : List (List Point)) → ArePointsFrom all kept.scale (Some kept.bounds) kept.inputs 0 (length kept.inputs) lists → AllZip IsCountOf lists counts → AreHeld whole parts (drop from (take i lists))) files
          → Tells (λ all. (lists : List (List Point)) → ArePointsFrom all kept.scale (Some kept.bounds) kept.inputs 0 (length kept.inputs) lists → AllZip IsCountOf lists counts → AreHeld whole parts (drop from (take (i + 1) lists))) files
      skip_lists None before = tt
      skip_lists (Some all) before = λ lists are zip.
          let held = before lists are zip in
          let size : i < length lists = omega (arith, lt, zip_length IsCountOf lists counts zip) in
          let empty : get_or lists i [] ≡ [] = extent_none (get_or counts i d).extent (get_or lists i []) none (zip_at IsCountOf lists counts i [] d zip lt).has_extent in
          record { mine = held.mine; hold = held.hold; same = held.same ∙ sym (part_more lists from i le size ∙ ap (λ (l : List Point). in_order (drop from (take i lists)) ++ l) empty ∙ append-nil (in_order (drop from (take i lists)))) }

      pub opened_skip : HasOpened whole left given faults files kept counts from (i + 1) parts
      opened_skip = record {
        unread = so_far.unread;
        limited = so_far.limited;
        known = so_far.known;
        bytes = so_far.bytes;
        fresh = so_far.fresh;
        sum = omega (arith, so_far.sum, total_more counts i d lt, zero);
        none = λ same. absurd (omega (arith, same, le));
        first = skip_first;
        holds = skip_lists files so_far.holds;
      }

    -- an input with points is opened
    module _ (extent : Bounds) (p : Part S) (input : Input) (is_extent : (get_or counts i d).extent ≡ Some extent) (some : 0 < (get_or counts i d).points) (points : p.points ≡ (get_or counts i d).points) (is : slice_get kept.inputs i ≡ Some input)
        (reads : IsReadingOf kept.scale (Some extent) i input p.reading) (opens : Opens files input.path (whole p.source) (left p.source)) (fresh : faults p.source ≡ 0) (unread : given p.source ≡ 0) where
      more_first : (count : SourceCount) → slice_get counts from ≡ Some count → 0 < count.points → from < i + 1 → (part : Part S) × (others : List (Part S)) × (parts ++ p ∷ [] ≡ part ∷ others) × (part.points ≡ count.points)
      more_first count at_from positive within =
          ⊎_elim (λ (before : from < i). earlier (so_far.first count at_from positive before)) (λ (here : i ≤ from). newest (omega (arith, here, le))) (cases_lt from i)
        where
          earlier : (part : Part S) × (others : List (Part S)) × (parts ≡ part ∷ others) × (part.points ≡ count.points) → (part : Part S) × (others : List (Part S)) × (parts ++ p ∷ [] ≡ part ∷ others) × (part.points ≡ count.points)
          earlier first = (first.0, first.1 ++ p ∷ [], ap (λ (l : List (Part S)). l ++ p ∷ []) first.2, first.3)

          newest : i ≡ from → (part : Part S) × (others : List (Part S)) × (parts ++ p ∷ [] ≡ part ∷ others) × (part.points ≡ count.points)
          newest same = (p, [], ap (λ (l : List (Part S)). l ++ p ∷ []) (so_far.none same), points ∙ ap (λ (c : SourceCount). c.points) (ap (λ (n : ℕ). get_or counts n d) same ∙ one_count counts from count d at_from))

      more_lists : (files : Option Files) → Opens files input.path (whole p.source) (left p.source) → Tells (λ all. (lists : List (List Point)) → ArePointsFrom all kept.scale (Some kept.bounds) kept.inputs 0 (length kept.inputs) lists → AllZip IsCountOf lists counts → AreHeld whole parts (drop from (take i lists))) files
          → Tells (λ all. (lists : List (List Point)) → ArePointsFrom all kept.scale (Some kept.bounds) kept.inputs 0 (length kept.inputs) lists → AllZip IsCountOf lists counts → AreHeld whole (parts ++ p ∷ []) (drop from (take (i + 1) lists))) files
      more_lists None opened before = tt
      more_lists (Some all) opened before = λ lists are zip.
          let held_before = before lists are zip in
          let size : i < length lists = omega (arith, lt, zip_length IsCountOf lists counts zip) in
          let mine : HoldsPoints (held whole p) (get_or lists i []) =
          part_holds all kept.scale (Some kept.bounds) kept.inputs i (get_or lists i []) (get_or counts i d) extent input p.reading (whole p.source) p.points (subst (λ (n : ℕ). HasPointsAt all kept.scale (Some kept.bounds) kept.inputs n (get_or lists i [])) (zero_plus i) (are.each i [] size)) (zip_at IsCountOf lists counts i [] d zip lt) is_extent is reads opened.content.1 points in
          record {
            mine = held_before.mine ++ get_or lists i [] ∷ [];
            hold = subst (λ (l : List Held). AllZip HoldsPoints l (held_before.mine ++ get_or lists i [] ∷ [])) (sym (map-append (held whole) parts (p ∷ []))) (zip_push HoldsPoints (map (held whole) parts) held_before.mine (held whole p) (get_or lists i []) held_before.hold mine);
            same = in_order_push held_before.mine (get_or lists i []) ∙ ap (λ (l : List Point). l ++ get_or lists i []) held_before.same ∙ sym (part_more lists from i le size);
          }

      is_file : IsFileOf kept counts (held whole p)
      is_file =
          let here : p.reading.origin ≡ i = reads.origin_is in
          let at_extent : IsReadingOf kept.scale (get_or counts i d).extent i input p.reading = subst (λ (o : Option Bounds). IsReadingOf kept.scale o i input p.reading) (sym is_extent) reads in
          record {
            input = input;
            is_input = ap (λ (n : ℕ). slice_get kept.inputs n) here ∙ is;
            count = get_or counts i d;
            is_count = ap (λ (n : ℕ). slice_get counts n) here ∙ slice_get-get_or counts i d lt;
            reads = subst (λ (n : ℕ). IsReadingOf kept.scale (get_or counts i d).extent n input p.reading) (sym here) at_extent;
            points_are = points;
          }

      more_bytes : (files : Option Files) → Opens files input.path (whole p.source) (left p.source) → Tells (λ all. All (λ part. HasBytesOf all kept.inputs (held whole part)) parts) files
          → Tells (λ all. All (λ part. HasBytesOf all kept.inputs (held whole part)) (parts ++ p ∷ [])) files
      more_bytes None opened before = tt
      more_bytes (Some all) opened before =
          All-push (λ part. HasBytesOf all kept.inputs (held whole part)) parts p before (record { input = input; is_input = ap (λ (n : ℕ). slice_get kept.inputs n) reads.origin_is ∙ is; there = opened.content.0; bytes = opened.content.1 })

      pub opened_more : HasOpened whole left given faults files kept counts from (i + 1) (parts ++ p ∷ [])
      opened_more = record {
        unread = All-push (IsUnread whole left given) parts p so_far.unread (record { some = omega (arith, some, points); front = opens.at_start; unread = unread });
        limited = All-push IsLimited parts p so_far.limited (extent, reads.limits_are);
        known = All-push (λ part. IsFileOf kept counts (held whole part)) parts p so_far.known is_file;
        bytes = more_bytes files opens so_far.bytes;
        fresh = All-push (λ part. faults part.source ≡ 0) parts p so_far.fresh fresh;
        sum = omega (arith, so_far.sum, total_more counts i d lt, points, sum_by_push (λ (part : Part S). part.points) parts p);
        none = λ same. absurd (omega (arith, same, le));
        first = more_first;
        holds = more_lists files opens so_far.holds;
      }

    no_points : (count : SourceCount) → count.extent ≡ None → IsCount kept.bounds count → count.points ≡ 0
    no_points count none sound = ⊎_elim (λ (some : 0 < count.points). absurd (nothing (sym (subst IsSome none (sound.there.1 some))))) (λ (zero : count.points ≤ 0). omega (arith, zero)) (cases_lt 0 count.points)
      where
        nothing : true ≡ false → ⊥
        nothing e = cc

    some_points : (count : SourceCount) (extent : Bounds) → count.extent ≡ Some extent → IsCount kept.bounds count → 0 < count.points
    some_points count extent some sound = sound.there.0 (ap is_some some)

    -- what an input adds
    pub opened_next : (new : List (Part S)) → IsCount kept.bounds (get_or counts i d) → AddsInput whole left given faults files kept i (get_or counts i d).points (get_or counts i d).extent parts new → HasOpened whole left given faults files kept counts from (i + 1) new
    opened_next new sound adds = at (get_or counts i d).extent refl adds
      where
        at : (e : Option Bounds) → (get_or counts i d).extent ≡ e → AddsInput whole left given faults files kept i (get_or counts i d).points e parts new → HasOpened whole left given faults files kept counts from (i + 1) new
        at None none same = subst (λ (l : List (Part S)). HasOpened whole left given faults files kept counts from (i + 1) l) (sym same) (opened_skip none (no_points (get_or counts i d) none sound))
        at (Some extent) some added =
            let is = added.2 in
            subst (λ (l : List (Part S)). HasOpened whole left given faults files kept counts from (i + 1) l) (sym added.1) (opened_more extent added.0 is.input some (some_points (get_or counts i d) extent some sound) is.points_are is.is is.reads is.opens is.fresh is.unread)

-- no file that was opened has failed
pub none_failed : {S : Type 0} (faults : S → ℕ) (parts : List (Part S)) → All (λ part. faults part.source ≡ 0) parts → Any (λ part. faults part.source ≢ 0) parts → ⊥
none_failed faults parts fresh any = any.4 (ap (λ (part : Part _). faults part.source) (sym any.3) ∙ fresh any.0 any.1 any.2)
