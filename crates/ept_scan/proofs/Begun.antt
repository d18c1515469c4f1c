-- Where the second reading begins.
use Rattle.std.proofs.Common.{◌≡◌, ⊎_elim, inl, ℕ, zero, suc, ◌+◌, ◌-◌, ◌<◌, ◌≤◌, List, [], ◌∷◌, ◌++◌, Option, Some, None, length, take, drop, refl, sym, ◌∙◌, ap, subst, arith, length-append}
use Rattle.std.specs.Prelude.{All, map, sum_by}
use Rattle.std.specs.List.{AllZip}
use Rattle.std.proofs.lemmas.Bool.{cases_lt}
use Rattle.std.proofs.lemmas.Grind.{flat_map-append}
use Rattle.std.proofs.lemmas.List.{take-append-drop, take_all}
use Rattle.std.proofs.lemmas.List.Sums.{sum_by-cons}
use Rattle.std.proofs.lemmas.List.Elements.{All-head, All-tail, All-map, All-weaker}
use Rattle.std.proofs.Math.Seq.{drop-append-add}
use Rattle.ept_base.specs.Files.{Files, Tells}
use Rattle.ept_point.specs.declared.point.Point.{Point}
use Rattle.ept_config.specs.declared.kept.Kept.{Kept}
use Rattle.ept_config.specs.declared.source_count.SourceCount.{SourceCount}
use Rattle.ept_las.specs.declared.header.Header.{Header}
use Rattle.ept_scan.specs.declared.reading.Reading.{Reading}
use Rattle.ept_scan.specs.declared.part.Part.{Part}
use Rattle.ept_scan.specs.declared.queue.Queue.{Queue}
use Rattle.ept_config.specs.Counts.{IsCountOf, total}
use Rattle.ept_scan.specs.Places.{StandsAt, GivenAt}
use Rattle.ept_scan.specs.Reach.{ReadsNoFurther, TakesOfFile}
use Rattle.ept_scan.specs.Scans.{in_order, ArePointsFrom}
use Rattle.ept_scan.specs.Queue.{HoldsPoints, held, RestOf, records_left, IsUnread, StandsBefore, IsQueue, AreNear, GiveNoMore}
use Rattle.ept_scan.specs.Opening.{IsKeptScan, StartsAt, AreHeld, IsFileOf, HasBytesOf, HasOpened}
use Rattle.ept_scan.proofs.Listing.{zip_length}
use Rattle.ept_scan.proofs.Asked.{some_of}
use Rattle.ept_scan.proofs.Taking.{taken_none}

-- the lengths of the first lists are those that the counts state
pub total_length : (lists : List (List Point)) (counts : List SourceCount) (n : ℕ) → AllZip IsCountOf lists counts → length (in_order (take n lists)) ≡ total (take n counts)
total_length [] [] zero zip = refl
total_length [] [] (suc n) zip = refl
total_length [] (c ∷ counts) n zip = absurd zip
total_length (l ∷ lists) [] n zip = absurd zip
total_length (l ∷ lists) (c ∷ counts) zero zip = refl
total_length (l ∷ lists) (c ∷ counts) (suc n) zip =
    omega (arith, length-append l (in_order (take n lists)), sum_by-cons (λ (count : SourceCount). count.points) c (take n counts), total_length lists counts n zip.1, zip.0.number)

same_head : {X : Type 0} (x y : X) (xs ys : List X) → x ∷ xs ≡ y ∷ ys → x ≡ y
same_head x y xs ys same = cc

not_empty : {X : Type 0} (x : X) (xs : List X) → [] ≡ x ∷ xs → ⊥
not_empty x xs same = cc

near_front : (reading : Reading) (whole left : Option (List ℕ)) → left ≡ whole → ReadsNoFurther reading whole left
near_front reading whole left front = subst (λ (o : Option (List ℕ)). ReadsNoFurther reading whole o) (sym front) (same whole)
  where
    same : (o : Option (List ℕ)) → ReadsNoFurther reading o o
    same None = tt
    same (Some file) = inl (omega arith)

module _ {S : Type 0} (whole left : S → Option (List ℕ)) (given : S → ℕ) (faults : S → ℕ) (files : Option Files) (kept : Kept) (counts : List SourceCount) (drawn index : ℕ) (queue : Queue S) (at : queue.at ≡ 0) (header : queue.cursor.header ≡ None)
    (starts : StartsAt counts drawn index queue.cursor.number) (opened : HasOpened whole left given faults files kept counts index (length counts) queue.parts.items) where
  number_none : queue.parts.items ≡ [] → queue.cursor.number ≡ 0
  number_none none =
      ⊎_elim (λ (lt : index < length counts). absurd (some lt)) (λ (end : length counts ≤ index). starts.end end) (cases_lt index (length counts))
    where
      some : index < length counts → ⊥
      some lt =
          let count = some_of counts index lt in
          let first = opened.first count.0 count.1 (omega (arith, starts.more count.0 count.1)) lt in
          not_empty first.0 first.1 (sym none ∙ first.2)

  first_more : (p : Part S) (parts : List (Part S)) → queue.parts.items ≡ p ∷ parts → queue.cursor.number < p.points
  first_more p parts is =
      ⊎_elim (λ (lt : index < length counts). some lt) (λ (end : length counts ≤ index). absurd (not_empty p parts (sym (opened.none (omega (arith, end, starts.within))) ∙ is))) (cases_lt index (length counts))
    where
      some : index < length counts → queue.cursor.number < p.points
      some lt =
          let count = some_of counts index lt in
          let first = opened.first count.0 count.1 (omega (arith, starts.more count.0 count.1)) lt in
          let same : p ≡ first.0 = same_head p first.0 parts first.1 (sym is ∙ first.2) in
          omega (arith, starts.more count.0 count.1, first.3, ap (λ (q : Part S). q.points) same)

  front : (parts : List (Part S)) → queue.parts.items ≡ parts → StandsBefore whole left given parts queue.cursor queue.window
  front [] is = number_none is
  front (p ∷ parts) is =
      let unread : All (IsUnread whole left given) (p ∷ parts) = subst (All (IsUnread whole left given)) is opened.unread in
      let mine : IsUnread whole left given p = All-head (IsUnread whole left given) p parts unread in (
        record {
          more = first_more p parts is;
          at = subst (λ (h : Option Header). StandsAt p.reading p.points (whole p.source) (left p.source) queue.window queue.cursor.number h) (sym header) mine.front;
          given_at = subst (λ (h : Option Header). GivenAt (given p.source) queue.window queue.cursor.number h) (sym header) mine.unread;
        },
        All-tail (IsUnread whole left given) p parts unread,
      )

  pub begun_queue : IsQueue whole left given queue
  begun_queue = record {
    within = omega (arith, at);
    stands = subst (λ (n : ℕ). StandsBefore whole left given (drop n queue.parts.items) queue.cursor queue.window) (sym at) (front queue.parts.items refl);
    limited = opened.limited;
  }

  pub begun_near : AreNear whole left queue
  begun_near = All-weaker (IsUnread whole left given) (λ part. ReadsNoFurther part.reading (whole part.source) (left part.source)) (λ part unread. near_front part.reading (whole part.source) (left part.source) unread.front) queue.parts.items opened.unread

  pub begun_given : GiveNoMore whole given queue
  begun_given = All-weaker (IsUnread whole left given) (λ part. Tells (λ file. TakesOfFile part.reading file 0 (given part.source)) (whole part.source)) (λ part unread. taken_none part.reading (whole part.source) (given part.source) unread.unread) queue.parts.items opened.unread

  pub begun_count : (n : ℕ) → drawn ≤ total counts → n ≡ total counts - drawn → records_left queue ≡ n
  begun_count n within is =
      let all : sum_by (λ part. part.points) (drop queue.at queue.parts.items) ≡ sum_by (λ part. part.points) queue.parts.items = ap (λ (k : ℕ). sum_by (λ (part : Part S). part.points) (drop k queue.parts.items)) at in
      let whole_total : total (take (length counts) counts) ≡ total counts = ap total (take_all (length counts) counts (omega arith)) in
      omega (arith, all, whole_total, opened.sum, starts.passed, within, is)

  pub begun_files : All (IsFileOf kept counts) (map (held whole) queue.parts.items)
  begun_files = All-map (IsFileOf kept counts) (held whole) queue.parts.items opened.known

  pub begun_bytes : Tells (λ all. All (HasBytesOf all kept.inputs) (map (held whole) queue.parts.items)) files
  begun_bytes = told files opened.bytes
    where
      told : (files : Option Files) → Tells (λ all. All (λ part. HasBytesOf all kept.inputs (held whole part)) queue.parts.items) files → Tells (λ all. All (HasBytesOf all kept.inputs) (map (held whole) queue.parts.items)) files
      told None known = tt
      told (Some all) known = All-map (HasBytesOf all kept.inputs) (held whole) queue.parts.items known

  rest_told : (all : Files) → ((lists : List (List Point)) → ArePointsFrom all kept.scale (Some kept.bounds) kept.inputs 0 (length kept.inputs) lists → AllZip IsCountOf lists counts → AreHeld whole queue.parts.items (drop index (take (length counts) lists)))
      → (points : List Point) → IsKeptScan all kept counts points → RestOf whole queue (drop drawn points)
  rest_told all holds points scan =
      let lists = scan.lists in
      let kept_lists = holds lists scan.are scan.counts_are in
      let every : take (length counts) lists ≡ lists = take_all (length counts) lists (omega (arith, zip_length IsCountOf lists counts scan.counts_are)) in
      let parts : in_order (take index lists) ++ in_order (drop index lists) ≡ in_order lists = sym (flat_map-append (λ (l : List Point). l) (take index lists) (drop index lists)) ∙ ap in_order (take-append-drop index lists) in
      let size : length (in_order (take index lists)) + queue.cursor.number ≡ drawn = omega (arith, total_length lists counts index scan.counts_are, starts.passed) in
      record {
        lists = kept_lists.mine;
        hold = subst (λ (n : ℕ). AllZip HoldsPoints (map (held whole) (drop n queue.parts.items)) kept_lists.mine) (sym at) kept_lists.hold;
        rest = ap (λ (l : List Point). drop drawn l) (scan.points_are ∙ sym parts) ∙ ap (λ (n : ℕ). drop n (in_order (take index lists) ++ in_order (drop index lists))) (sym size) ∙ drop-append-add (in_order (take index lists)) (in_order (drop index lists)) queue.cursor.number
            ∙ ap (λ (l : List (List Point)). drop queue.cursor.number (in_order (drop index l))) (sym every) ∙ ap (λ (l : List Point). drop queue.cursor.number l) (sym kept_lists.same);
      }

  pub begun_rest : Tells (λ all. (points : List Point) → IsKeptScan all kept counts points → RestOf whole queue (drop drawn points)) files
  begun_rest = told files opened.holds
    where
      told : (files : Option Files) → Tells (λ all. (lists : List (List Point)) → ArePointsFrom all kept.scale (Some kept.bounds) kept.inputs 0 (length kept.inputs) lists → AllZip IsCountOf lists counts → AreHeld whole queue.parts.items (drop index (take (length counts) lists))) files
          → Tells (λ all. (points : List Point) → IsKeptScan all kept counts points → RestOf whole queue (drop drawn points)) files
      told None holds = tt
      told (Some all) holds = rest_told all holds
