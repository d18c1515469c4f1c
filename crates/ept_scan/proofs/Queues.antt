-- The files of the second reading, after one of them was read further.
use Rattle.std.proofs.Common.{◌≡◌, ◌≢◌, ⊎_elim, ℕ, ◌+◌, ◌-◌, ◌<◌, ◌≤◌, List, [], ◌∷◌, ◌++◌, Option, Some, None, length, take, drop, get_or, set, refl, sym, ◌∙◌, ap, subst, arith, length-append}
use Rattle.std.specs.Prelude.{All, Any, Contains, map, sum_by}
use Rattle.std.specs.List.{AllZip}
use Rattle.std.proofs.lemmas.Bool.{cases_lt}
use Rattle.std.proofs.lemmas.List.{length-map, length-set, drop-map, take-set, take_more_set, drop-set, drop-set-lt, drop_more, get_or-set_same, get_or-set_other, get_or_default, get_or-map, get_or_append_left}
use Rattle.std.proofs.lemmas.List.Elements.{All-set, All-head, All-tail, All-push}
use Rattle.std.proofs.lemmas.List.Sums.{sum_by-cons}
use Rattle.std.proofs.lemmas.Option.{slice_get-get_or}
use Rattle.std.proofs.Math.Seq.{map-set_same, drop-append_seam}
use Rattle.ept_base.specs.Files.{Tells}
use Rattle.ept_point.specs.declared.point.Point.{Point}
use Rattle.ept_space.specs.declared.bounds.Bounds.{Bounds}
use Rattle.ept_scan.specs.declared.reading.Reading.{Reading}
use Rattle.ept_scan.specs.declared.read_error.ReadError.{ReadError}
use Rattle.ept_scan.specs.declared.read_error.ReadError.TheVariants.{SourceFault, SourceChanged, Memory}
use Rattle.ept_scan.specs.declared.part.Part.{Part}
use Rattle.ept_scan.specs.declared.part.Cursor.{Cursor}
use Rattle.ept_scan.specs.Extents.{IsAllowed}
use Rattle.ept_scan.specs.Scans.{in_order}
use Rattle.ept_base.specs.Causes.{Rose}
use Rattle.ept_scan.specs.Reach.{ReadsNoFurther, TakesOfFile}
use Rattle.ept_scan.specs.Places.{StandsAt, GivenAt}
use Rattle.ept_scan.specs.Changes.{IsChange, IfChanged, HasRecord}
use Rattle.ept_scan.specs.Queue.{Held, HoldsPoints, AreRest, LiesIn, IsNext, IsDrawn, HasChanged, held, IsAtFront, IsUnread, IsCurrent, StandsBefore, IsLimited}
use Rattle.ept_scan.proofs.Once.{not_changed, same_record}

held_sum : {S : Type 0} (whole : S → Option (List ℕ)) (parts : List (Part S)) → sum_by (λ (h : Held). h.points) (map (held whole) parts) ≡ sum_by (λ (part : Part S). part.points) parts
held_sum whole [] = refl
held_sum {S} whole (p ∷ parts) =
    omega (arith, sum_by-cons (λ (h : Held). h.points) (held whole p) (map (held whole) parts), sum_by-cons (λ (part : Part S). part.points) p parts, held_sum whole parts)

-- one file of a list was replaced by a file that holds the same
module _ {S : Type 0} (whole left : S → Option (List ℕ)) (given : S → ℕ) (parts : List (Part S)) (at : ℕ) (p y : Part S) (lt : at < length parts) (here : p ≡ get_or parts at p) where
  pub ahead_old : drop at parts ≡ p ∷ drop (at + 1) parts
  ahead_old = drop_more parts at p lt ∙ ap (λ (q : Part S). q ∷ drop (at + 1) parts) (sym here)

  pub ahead_new : drop at (set parts at y) ≡ y ∷ drop (at + 1) parts
  ahead_new = drop-set parts at y lt

  pub behind_new : drop (at + 1) (set parts at y) ≡ drop (at + 1) parts
  behind_new = drop-set-lt (at + 1) parts at y (omega arith)

  pub among : Contains (map (held whole) parts) (held whole p)
  among = (at, omega (arith, length-map_is), get_or-map (held whole) parts at p (held whole p) lt ∙ ap (held whole) (sym here))
    where
      length-map_is : length (map (held whole) parts) ≡ length parts
      length-map_is = simp length-map

  -- the place from which the file is read further
  module _ (reading : y.reading ≡ p.reading) (points : y.points ≡ p.points) (same : whole y.source ≡ whole p.source) where
    pub held_is : held whole y ≡ held whole p
    held_is = λ i. record { reading = reading i; points = points i; file = same i }

    pub held_same : map (held whole) (set parts at y) ≡ map (held whole) parts
    held_same = map-set_same (held whole) parts at y p (held_is ∙ ap (held whole) here)

    pub limited_same : All IsLimited parts → All IsLimited (set parts at y)
    limited_same all =
        let mine : IsLimited p = subst IsLimited (sym here) (all at p lt) in
        All-set IsLimited parts at y (mine.0, ap (λ (r : Reading). r.limits) reading ∙ mine.1) all

    pub near_same : ReadsNoFurther p.reading (whole p.source) (left y.source) → All (λ part. ReadsNoFurther part.reading (whole part.source) (left part.source)) parts → All (λ part. ReadsNoFurther part.reading (whole part.source) (left part.source)) (set parts at y)
    near_same far all =
        All-set (λ part. ReadsNoFurther part.reading (whole part.source) (left part.source)) parts at y
        (subst (λ (r : Reading). ReadsNoFurther r (whole y.source) (left y.source)) (sym reading) (subst (λ (o : Option (List ℕ)). ReadsNoFurther p.reading o (left y.source)) (sym same) far)) all

    pub current_new : (cursor : Cursor) (window : List ℕ) → cursor.number < p.points → StandsAt p.reading p.points (whole p.source) (left y.source) window cursor.number cursor.header → GivenAt (given y.source) window cursor.number cursor.header → IsCurrent whole left given y cursor window
    current_new cursor window more stands taken = record { more = omega (arith, more, points); at = rw (reading, points, same) stands; given_at = taken }

    pub given_same : Tells (λ file. TakesOfFile p.reading file 0 (given y.source)) (whole p.source) → All (λ part. Tells (λ file. TakesOfFile part.reading file 0 (given part.source)) (whole part.source)) parts → All (λ part. Tells (λ file. TakesOfFile part.reading file 0 (given part.source)) (whole part.source)) (set parts at y)
    given_same taken all =
        All-set (λ part. Tells (λ file. TakesOfFile part.reading file 0 (given part.source)) (whole part.source)) parts at y
        (subst (λ (r : Reading). Tells (λ file. TakesOfFile r file 0 (given y.source)) (whole y.source)) (sym reading) (subst (λ (o : Option (List ℕ)). Tells (λ file. TakesOfFile p.reading file 0 (given y.source)) o) (sym same) taken)) all

  -- files are rewound after their last records
  pub rewound_same : All (IsAtFront whole left) (take at parts) → All (IsAtFront whole left) (take at (set parts at y))
  rewound_same all = subst (All (IsAtFront whole left)) (sym (take-set parts at y)) all

  pub rewound_past : All (IsAtFront whole left) (take at parts) → left y.source ≡ whole y.source → All (IsAtFront whole left) (take (at + 1) (set parts at y))
  rewound_past all front = subst (All (IsAtFront whole left)) (sym (take_more_set parts at y lt)) (All-push (IsAtFront whole left) (take at parts) y all front)

  -- the record of this number of the file is the next one
  module _ (n : ℕ) (more : n < p.points) where
    pub next_is : IsNext (map (held whole) parts) (sum_by (λ (part : Part S). part.points) (drop at parts) - n) (held whole p) n
    unfolding among
    next_is = record {
      index = at;
      is = slice_get-get_or (map (held whole) parts) at (held whole p) among.1 ∙ ap (λ (h : Held). Some h) among.2;
      more = more;
      left_is = omega (arith, more, ap (λ (l : List Held). sum_by (λ (h : Held). h.points) l) (drop-map (held whole) at parts), held_sum whole (drop at parts), ap (λ (l : List (Part S)). sum_by (λ (q : Part S). q.points) l) ahead_old, sum_by-cons (λ (q : Part S). q.points) p (drop (at + 1) parts));
    }

    pub drawn_next : (q : Point) → q.number ≡ n → q.origin ≡ p.reading.origin → Tells (λ file. HasRecord p.reading p.points file n q) (whole p.source) → IsDrawn (map (held whole) parts) (sum_by (λ (part : Part S). part.points) (drop at parts) - n) q
    drawn_next q number origin has = record {
      held = held whole p;
      next = subst (λ (k : ℕ). IsNext (map (held whole) parts) (sum_by (λ (part : Part S). part.points) (drop at parts) - n) (held whole p) k) (sym number) next_is;
      origin = origin;
      record_is = subst (λ (k : ℕ). Tells (λ file. HasRecord p.reading p.points file k q) (whole p.source)) (sym number) has;
    }

    changed_at : (e : ReadError) → IsChange p.reading p.points n (whole p.source) e → IfChanged (HasChanged (map (held whole) parts) (sum_by (λ (part : Part S). part.points) (drop at parts) - n)) e
    changed_at SourceFault change = tt
    changed_at Memory change = tt
    changed_at (SourceChanged source m) change = record { held = held whole p; number = n; next = next_is; origin = change.0; differs = change.1 }

    pub changed_is : (e error : ReadError) → error ≡ e → IsChange p.reading p.points n (whole p.source) e → IfChanged (HasChanged (map (held whole) parts) (sum_by (λ (part : Part S). part.points) (drop at parts) - n)) error
    changed_is e error is change = subst (IfChanged (HasChanged (map (held whole) parts) (sum_by (λ (part : Part S). part.points) (drop at parts) - n))) (sym is) (changed_at e change)

  -- the faults of the sources
  module _ (faults : S → ℕ) where
    pub fault_new : Rose (faults p.source) (faults y.source) → Any (λ part. faults part.source ≢ 0) (set parts at y)
    fault_new rose = (at, y, simp length-set lt, get_or-set_same parts at y y lt, λ none. omega (arith, rose, none))

    pub faults_kept : faults p.source ≤ faults y.source → Any (λ part. faults part.source ≢ 0) parts → Any (λ part. faults part.source ≢ 0) (set parts at y)
    faults_kept later any =
        ⊎_elim (λ (before : any.0 < at). other (omega (arith, before))) (λ (past : at ≤ any.0). ⊎_elim (λ (behind : at < any.0). other (omega (arith, behind))) (λ (not_behind : any.0 ≤ at). mine (omega (arith, past, not_behind))) (cases_lt at any.0)) (cases_lt any.0 at)
      where
        other : any.0 ≢ at → Any (λ part. faults part.source ≢ 0) (set parts at y)
        other differs = (any.0, any.1, simp length-set any.2, get_or-set_other parts at any.0 y any.1 differs ∙ any.3, any.4)

        mine : any.0 ≡ at → Any (λ part. faults part.source ≢ 0) (set parts at y)
        mine same =
            let is : any.1 ≡ p = sym any.3 ∙ ap (λ (k : ℕ). get_or parts k any.1) same ∙ get_or_default parts at any.1 p lt ∙ sym here in
            (at, y, simp length-set lt, get_or-set_same parts at y y lt, λ none. any.4 (ap (λ (q : Part S). faults q.source) is ∙ zero_below (faults p.source) (faults y.source) later none))
          where
            zero_below : (a b : ℕ) → a ≤ b → b ≡ 0 → a ≡ 0
            zero_below a b le none = omega arith

  -- the place of the reading
  pub stands_old : (cursor : Cursor) (window : List ℕ) → StandsBefore whole left given (drop at parts) cursor window → IsCurrent whole left given p cursor window × All (IsUnread whole left given) (drop (at + 1) parts)
  stands_old cursor window stands = subst (λ (l : List (Part S)). StandsBefore whole left given l cursor window) ahead_old stands

  pub stands_on : (cursor : Cursor) (window : List ℕ) → IsCurrent whole left given y cursor window → All (IsUnread whole left given) (drop (at + 1) parts) → StandsBefore whole left given (drop at (set parts at y)) cursor window
  stands_on cursor window current unread = subst (λ (l : List (Part S)). StandsBefore whole left given l cursor window) (sym ahead_new) (current, unread)

  pub stands_past : (cursor : Cursor) (window : List ℕ) → cursor.header ≡ None → cursor.number ≡ 0 → All (IsUnread whole left given) (drop (at + 1) parts) → StandsBefore whole left given (drop (at + 1) (set parts at y)) cursor window
  stands_past cursor window none start unread = subst (λ (l : List (Part S)). StandsBefore whole left given l cursor window) (sym behind_new) (at_front (drop (at + 1) parts) unread)
    where
      at_front : (l : List (Part S)) → All (IsUnread whole left given) l → StandsBefore whole left given l cursor window
      at_front [] all = start
      at_front (q ∷ l) all =
          let unread : IsUnread whole left given q = All-head (IsUnread whole left given) q l all in (
            record {
              more = omega (arith, start, unread.some);
              at = subst (λ (h : Option _). StandsAt q.reading q.points (whole q.source) (left q.source) window cursor.number h) (sym none) unread.front;
              given_at = subst (λ (h : Option _). GivenAt (given q.source) window cursor.number h) (sym none) unread.unread;
            },
            All-tail (IsUnread whole left given) q l all,
          )

  -- the points that are left
  module _ (n : ℕ) (points : List Point) (rest : AreRest (map (held whole) (drop at parts)) n points) where
    split : AllZip HoldsPoints (held whole p ∷ map (held whole) (drop (at + 1) parts)) rest.lists
    split = subst (λ (l : List (Part S)). AllZip HoldsPoints (map (held whole) l) rest.lists) ahead_old rest.hold

    pub never_changed : (source number : ℕ) (e : ReadError) → e ≡ SourceChanged source number → IsChange p.reading p.points n (whole p.source) e → ⊥
    never_changed source number e is change = differs rest.lists split (subst (IsChange p.reading p.points n (whole p.source)) is change)
      where
        differs : (lists : List (List Point)) → AllZip HoldsPoints (held whole p ∷ map (held whole) (drop (at + 1) parts)) lists → IsChange p.reading p.points n (whole p.source) (SourceChanged source number) → ⊥
        differs [] hold change = hold
        differs (mine ∷ lists) hold change =
            let holds = hold.0 in
            not_changed p.reading p.points holds.file mine holds.are holds.count (whole p.source) n number holds.told change.1

    -- the first of them is the point that was drawn
    module _ (q : Point) (more : n < p.points) (has : Tells (λ file. HasRecord p.reading p.points file n q) (whole p.source)) where
      first_is : (mine : List Point) (lists : List (List Point)) → HoldsPoints (held whole p) mine → drop n (mine ++ in_order lists) ≡ q ∷ drop (n + 1) (mine ++ in_order lists)
      first_is mine lists holds =
          let within : n < length mine = omega (arith, more, holds.count) in
          let same : get_or mine n q ≡ q = same_record p.reading p.points holds.file mine holds.are holds.count n q q more (subst (Tells (λ file. HasRecord p.reading p.points file n q)) holds.told has) in
          drop_more (mine ++ in_order lists) n q (omega (arith, within, length-append mine (in_order lists))) ∙ ap (λ (r : Point). r ∷ drop (n + 1) (mine ++ in_order lists)) (get_or_append_left mine (in_order lists) q n within ∙ same)

      pub rest_on : (m : ℕ) → held whole y ≡ held whole p → n + 1 ≡ m → (after : List Point) × (points ≡ q ∷ after) × AreRest (map (held whole) (drop at (set parts at y))) m after
      rest_on m same next = on rest.lists split rest.rest
        where
          on : (lists : List (List Point)) → AllZip HoldsPoints (held whole p ∷ map (held whole) (drop (at + 1) parts)) lists → points ≡ drop n (in_order lists) → (after : List Point) × (points ≡ q ∷ after) × AreRest (map (held whole) (drop at (set parts at y))) m after
          on [] hold are = absurd hold
          on (mine ∷ lists) hold are = (
            drop (n + 1) (mine ++ in_order lists),
            are ∙ first_is mine lists hold.0,
            record {
              lists = mine ∷ lists;
              hold = subst (λ (l : List (Part S)). AllZip HoldsPoints (map (held whole) l) (mine ∷ lists)) (sym ahead_new) (subst (λ (h : Held). HoldsPoints h mine) (sym same) hold.0, hold.1);
              rest = ap (λ (k : ℕ). drop k (mine ++ in_order lists)) next;
            },
          )

      pub rest_past : n + 1 ≡ p.points → (after : List Point) × (points ≡ q ∷ after) × AreRest (map (held whole) (drop (at + 1) (set parts at y))) 0 after
      rest_past last = past rest.lists split rest.rest
        where
          past : (lists : List (List Point)) → AllZip HoldsPoints (held whole p ∷ map (held whole) (drop (at + 1) parts)) lists → points ≡ drop n (in_order lists) → (after : List Point) × (points ≡ q ∷ after) × AreRest (map (held whole) (drop (at + 1) (set parts at y))) 0 after
          past [] hold are = absurd hold
          past (mine ∷ lists) hold are =
              let whole_list : n + 1 ≡ length mine = last ∙ sym hold.0.count in (
                in_order lists,
                are ∙ first_is mine lists hold.0 ∙ ap (λ (l : List Point). q ∷ l) (ap (λ (k : ℕ). drop k (mine ++ in_order lists)) whole_list ∙ drop-append_seam mine (in_order lists)),
                record { lists = lists; hold = subst (λ (l : List (Part S)). AllZip HoldsPoints (map (held whole) l) lists) (sym behind_new) hold.1; rest = refl },
              )

      pub rest_past_at : (m : ℕ) → m ≡ 0 → n + 1 ≡ p.points → (after : List Point) × (points ≡ q ∷ after) × AreRest (map (held whole) (drop (at + 1) (set parts at y))) m after
      rest_past_at m start last = subst (λ (k : ℕ). (after : List Point) × (points ≡ q ∷ after) × AreRest (map (held whole) (drop (at + 1) (set parts at y))) k after) (sym start) (rest_past last)

  pub lies_is : (q : Point) → All IsLimited parts → q.origin ≡ p.reading.origin → IsAllowed p.reading.limits q → LiesIn (map (held whole) parts) q
  lies_is q all origin allowed =
      let mine : IsLimited p = subst IsLimited (sym here) (all at p lt) in
      record { held = held whole p; among = among; origin = origin; extent = mine.0; kept = mine.1; within = subst (λ (o : Option Bounds). IsAllowed o q) mine.1 allowed }
