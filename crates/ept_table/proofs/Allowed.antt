-- Each step on a table of slots is allowed by the rule of a table of nodes.
use Rattle.std.proofs.Common.{◌≡◌, ◌∙◌, ◌⊎◌, ℕ, ◌+◌, ◌-◌, ◌/◌, ◌<◌, true, inl, inr, List, [], ◌∷◌, ◌++◌, map, set, refl, sym, ap, subst, arith, Option, Some, None, MatchOption}
use Rattle.std.proofs.lemmas.List.{map-append}
use mathlib.Core.Option.{some}
use lib.ListN.{get_elem?}
use Rattle.ept_slots.specs.declared.view.View as slots
use Rattle.ept_slots.specs.declared.view.Held.{Held}
use Rattle.ept_slots.specs.Views as views
use Rattle.ept_slots.specs.Seats.{Seats}
use Rattle.ept_slots.specs.Seating.{Ended}
use Rattle.ept_slots.specs.Asks.{Takes, Gives, HasPermits, Notes, Looks, Draws, IsRefused, Splits, Joins}
use Rattle.ept_sample.specs.Members.{IsMember}
use Rattle.ept_sample.proofs.Members.{IsMember-append}
use Rattle.ept_node.specs.declared.error.NodeError.{NodeError}
use Rattle.ept_table.specs.declared.item.Item.{Item}
use Rattle.ept_table.specs.declared.note.Note.{Note}
use Rattle.ept_table.specs.declared.note.Told.{Told}
use Rattle.ept_table.specs.declared.done.Done.{Done}
use Rattle.ept_table.specs.declared.done.Done.TheVariants.{Nothing, Draw, Arrive}
use Rattle.ept_table.specs.declared.done.Said.TheVariants.{Did, Wish}
use Rattle.ept_table.specs.declared.taken.Taken.{Taken}
use Rattle.ept_table.specs.declared.taken.Taken.TheVariants.{Blank, Standing, Reading}
use Rattle.ept_table.specs.At.{At}
use Rattle.ept_table.specs.View.{View}
use Rattle.ept_table.specs.Shown.{Holds, AreLocked}
use Rattle.ept_table.specs.Steps.{holding, given_back, noting, refused_more, wishing, drawing, abandoned, merged, beginning, together, lacks_slot, first_note, GoTogether, MayDraw, IsSpent, noting_broken}
use Rattle.ept_table.specs.Tells.{IsTooMany, Fits, ShowsLaw, IsLast, IsEnded}
use Rattle.ept_table.specs.Item.{seen, broken_by, StaysBroken, Filed}
use Rattle.ept_table.specs.Standing.{seen_hold, known, HasBroken, HaveBroken, Stands}
use Rattle.ept_table.specs.Visits.{note_after, note_said, Visits}
use Rattle.ept_table.proofs.Lists.{same_or_not, at-same, at-below, at-set, at-other, set-at, set-again, end-at, set-set}
use Rattle.ept_table.proofs.Glue.{at-from, at-to, at-map, map-at, map-set}
use Rattle.ept_table.proofs.SlotDrawn.{draw-keeps}
use Rattle.ept_table.proofs.Refused.{refusal-is-true, refusal-keeps}
use Rattle.ept_table.proofs.Moves.{take-keeps, wish-keeps, broken-keeps, abandon-keeps, lacks-one}
use Rattle.ept_table.proofs.Merging.{merge-keeps}
use Rattle.ept_table.proofs.Seating.{split-keeps, join-keeps}
use Rattle.ept_table.proofs.Telling.{take-fits, lack-is-too-many, state-keeps-law}
use Rattle.ept_table.proofs.Visiting.{visit-keeps}
use Rattle.ept_table.proofs.Ending.{last-seat-tells}
use Rattle.ept_table.proofs.Mirrors.{none_some}

abbrev pair_or : ℕ → Taken → Option (ℕ × Taken) → ℕ × Taken
pair_or k x None = (k, x)
pair_or k x (Some p) = p

module _ (F S : Type 0) (held : F → Option (List ℕ)) (node_faults keeps : F → ℕ) (whole left : S → Option (List ℕ)) (given faults : S → ℕ) (told : Told) where
  abbrev pub ItemOf : Type 0
  ItemOf = Item F S

  abbrev pub ViewOf : Type 0
  ViewOf = slots.View (Item F S) Note

  abbrev pub rule : ℕ → List ItemOf → List ViewOf → Type 0
  rule drawn items seats = Stands held node_faults keeps whole left given faults told drawn items seats

  abbrev see : ItemOf → Taken
  see x = seen held whole x

  abbrev know : ViewOf → View
  know v = known held whole v

  -- ---- the locks

  held_from : (o : Option (Held ItemOf)) (k : ℕ) (x : Taken) → seen_hold held whole o ≡ Some (k, x) → (y : Held ItemOf) × (o ≡ Some y) × (y.slot ≡ k) × (see y.item ≡ x)
  held_from None k x e = absurd (none_some e)
  held_from (Some y) k x e =
      (y, refl, ap (λ (o : Option (ℕ × Taken)). (pair_or k x o).0) e, ap (λ (o : Option (ℕ × Taken)). (pair_or k x o).1) e)

  module _ (drawn : ℕ) (items : List ItemOf) (seats : List ViewOf) (locked : Seats told.most drawn items seats) where
    holder : (i : ℕ) (v : View) (k : ℕ) (x : Taken) → At (map know seats) i v → v.hold ≡ Some (k, x) → (u : ViewOf) × (y : ItemOf) × (get_elem? seats i ≡ some u) × views.Holds u k y × (see y ≡ x)
    holder i v k x a e =
        let r = map-at know seats i v a in
        let y = held_from r.0.hold k x (ap (λ (z : View). z.hold) r.2 ∙ e) in
        let same : (let z : Held ItemOf = record { slot = y.0.slot; item = y.0.item } in z) ≡ record { slot = k; item = y.0.item } = ap (λ (n : ℕ). let z : Held ItemOf = record { slot = n; item = y.0.item } in z) y.2 in
        (r.0, y.0.item, at-to seats i r.0 r.1, y.1 ∙ ap (λ (z : Held ItemOf). let s : Option (Held ItemOf) = Some z in s) same, y.3)

    pub locks : AreLocked (map see items) (map know seats)
    locks = record {
      as_taken = λ i v k x a e. (
          let r = holder i v k x a e in
          subst (λ (z : Taken). At (map see items) k z) r.4 (at-map see items k r.1 (at-from items k r.1 (locked.held i k r.0 r.1 r.2 r.3))));
      idle = λ i v a e. (
          let r = map-at know seats i v a in
          sym (ap (λ (z : View). z.hold) r.2) ∙ ap (λ (o : Option (Held ItemOf)). seen_hold held whole o) (locked.idle i r.0 (at-to seats i r.0 r.1) (ap (λ (z : View). z.parts) r.2 ∙ e)));
      one_holder = λ i j v w k x y a b e f. (
          let r = holder i v k x a e in
          let q = holder j w k y b f in
          locked.one_holder i j k r.0 q.0 r.1 q.1 r.2 q.2 r.3 q.3);
    }

  at_known : (seats : List ViewOf) (id : ℕ) (v : ViewOf) → get_elem? seats id ≡ some v → At (map know seats) id (know v)
  at_known seats id v a = at-map know seats id v (at-from seats id v a)

  same_items : (drawn : ℕ) (items : List ItemOf) (old : List ViewOf) (new : List ViewOf) (plain : List View) → plain ≡ map know new → rule drawn items old → HaveBroken items new → (after : ℕ) → Holds told after (map see items) plain → rule after items new
  same_items drawn items old new plain e h broken after holds = record { rule = subst (λ (vs : List View). Holds told after (map see items) vs) e holds; filed = h.filed; broken = broken }

  -- ---- broken nodes

  -- one seat knows something else
  one_seat : (items : List ItemOf) (seats : List ViewOf) (id : ℕ) (w : ViewOf) → HaveBroken items seats → ((why : NodeError) → IsMember why w.note.broken → HasBroken items why) → HaveBroken items (set seats id w)
  one_seat items seats id w all mine i u why a m = elim (set-at seats id w a) [
    | inl s ↦ mine why (subst (λ (z : ViewOf). IsMember why z.note.broken) (sym s.1) m)
    | inr o ↦ all i u why o.1 m
  ]

  -- and notes the refusals that it noted
  noting_so : (items : List ItemOf) (seats : List ViewOf) (id : ℕ) (v w : ViewOf) → HaveBroken items seats → get_elem? seats id ≡ some v → w.note.broken ≡ v.note.broken → HaveBroken items (set seats id w)
  noting_so items seats id v w all at same =
      one_seat items seats id w all (λ why m. all id v why (at-from seats id v at) (subst (λ (es : List NodeError). IsMember why es) same m))

  -- an item is returned
  still_broken : (items : List ItemOf) (k : ℕ) (x y : ItemOf) → At items k x → StaysBroken x y → (why : NodeError) → HasBroken items why → HasBroken (set items k y) why
  still_broken items k x y here stays why (j, z, a, is) = elim (same_or_not j k) [
    | inl one ↦
        let same : z ≡ x = at-same (subst (λ (n : ℕ). At items n z) one a) here in
        (k, y, at-set items k y (at-below here), stays why (ap (λ (w : ItemOf). broken_by w) (sym same) ∙ is))
    | inr apart ↦ (j, z, at-other k y a apart, is)
  ]

  -- a visit notes no refusal of a node by itself
  after_visit : (n : Note) (y : Taken) (done : Done) → (note_after n y done).broken ≡ n.broken
  after_visit n Blank Nothing = refl
  after_visit n Blank (Draw fresh) = refl
  after_visit n Blank (Arrive number fresh) = refl
  after_visit n (Standing c) Nothing = refl
  after_visit n (Standing c) (Draw fresh) = refl
  after_visit n (Standing c) (Arrive number fresh) = refl
  after_visit n (Reading r) done = refl

  noted_why : (o : Option NodeError) (n : Note) (why : NodeError) → IsMember why (noting_broken o n).broken → (o ≡ Some why) ⊎ IsMember why n.broken
  noted_why None n why m = inr m
  noted_why (Some e) n why (inl is) = inl (ap (λ (d : NodeError). let p : Option NodeError = Some d in p) is)
  noted_why (Some e) n why (inr m) = inr m

  -- ---- take

  pub takes-allowed : (id : ℕ) (v : ViewOf) (k : ℕ) → views.HoldsNothing v → Takes rule told.most id v k (λ x n. (n ≡ v.note) × Fits told (know v) k (see x) × Filed held node_faults keeps whole left given faults told x)
  takes-allowed id v k free = λ drawn items seats x locked h at there others. (
      let a : At (map know seats) id (know v) = at_known seats id v at in
      let none : (know v).hold ≡ None = ap (λ (o : Option (Held ItemOf)). seen_hold held whole o) free in
      let x_there : At items k x = at-from items k x there in
      (v.note, same_items drawn items seats (set seats id (views.taken v k x v.note)) (set (map know seats) id (holding (know v) k (see x))) (sym (map-set know seats id (views.taken v k x v.note))) h (noting_so items seats id v (views.taken v k x v.note) h.broken at refl) drawn (take-keeps told drawn (map see items) (map know seats) id (know v) h.rule a k (see x) none), (refl, take-fits told drawn (map see items) (map know seats) id (know v) h.rule a k (see x) (at-map see items k x x_there), h.filed k x x_there)))

  -- ---- give

  hold_known : (v : ViewOf) (k : ℕ) (x : ItemOf) → views.Holds v k x → (know v).hold ≡ Some (k, see x)
  hold_known v k x e = ap (λ (o : Option (Held ItemOf)). seen_hold held whole o) e

  pub gives-allowed : (id : ℕ) (v : ViewOf) (k : ℕ) (x y : ItemOf) (p : ℕ) (done : Done) → views.Holds v k x → Visits told (know v) k (see x) (see y) done → StaysBroken x y → Filed held node_faults keeps whole left given faults told y → Gives rule told.most id v k y p (λ n. n ≡ noting_broken (broken_by y) (note_said v.note (see y) (Did done)))
  gives-allowed id v k x y p done holds visit stays filed = λ drawn items seats locked h at. (
      let note : Note = note_after v.note (see y) done in
      let noted : Note = noting_broken (broken_by y) note in
      let new : ViewOf = views.given v p noted in
      let a : At (map know seats) id (know v) = at_known seats id v at in
      let back : View = given_back (know v) note in
      let visited : Holds told drawn (set (map see items) k (see y)) (set (map know seats) id back) = visit-keeps told drawn (map see items) (map know seats) id (know v) k (see x) h.rule (locks drawn items seats locked) a (hold_known v k x holds) (see y) done visit in
      let there : At (set (map know seats) id back) id back = at-set (map know seats) id back (at-below a) in
      let kept : Holds told drawn (set (map see items) k (see y)) (set (map know seats) id (given_back (know v) noted)) = subst (λ (vs : List View). Holds told drawn (set (map see items) k (see y)) vs) (set-set (map know seats) id back (given_back (know v) noted)) (broken-keeps told drawn (set (map see items) k (see y)) (set (map know seats) id back) id back visited there (broken_by y)) in
      let views_is : set (map know seats) id (given_back (know v) noted) ≡ map know (set seats id new) = sym (map-set know seats id new) in
      let items_is : set (map see items) k (see y) ≡ map see (set items k y) = sym (map-set see items k y) in
      let here : At items k x = at-from items k x (locked.held id k v x at holds) in
      let still : (why : NodeError) → HasBroken items why → HasBroken (set items k y) why = still_broken items k x y here stays in
      let before : HaveBroken (set items k y) seats = λ i u why b m. still why (h.broken i u why b m) in (
        noted,
        record {
          rule = subst (λ (xs : List Taken). Holds told drawn xs (map know (set seats id new))) items_is (subst (λ (vs : List View). Holds told drawn (set (map see items) k (see y)) vs) views_is kept);
          filed = λ j z b. elim (set-at items k y b) [ inl s ↦ subst (λ (w : ItemOf). Filed held node_faults keeps whole left given faults told w) s.1 filed | inr o ↦ h.filed j z o.1 ];
          broken = one_seat (set items k y) seats id new before (λ why m. elim (noted_why (broken_by y) note why m) [
            | inl mine ↦ (k, y, at-set items k y (at-below here), mine)
            | inr was ↦ still why (h.broken id v why (at-from seats id v at) (subst (λ (es : List NodeError). IsMember why es) (after_visit v.note (see y) done) was))
          ]);
        },
        refl,
      ))

  -- ---- permits

  pub permits-allowed : (id : ℕ) (v : ViewOf) (p : ℕ) → HasPermits rule told.most id v p
  permits-allowed id v p = λ drawn items seats locked h at. (
      same_items drawn items seats (set seats id (views.with_permits v p)) (map know seats) (sym (map-set know seats id (views.with_permits v p) ∙ set-again (at_known seats id v at))) h (noting_so items seats id v (views.with_permits v p) h.broken at refl) drawn h.rule)

  -- ---- note an octant

  pub wishes-allowed : (id : ℕ) (v : ViewOf) (o : ℕ) → Notes rule told.most id v (λ n. n ≡ note_said v.note Blank (Wish o))
  wishes-allowed id v o = λ drawn items seats locked h at. (
      let n : Note = wishing v.note o in
      (n, same_items drawn items seats (set seats id (views.noted v n)) (set (map know seats) id (noting (know v) n)) (sym (map-set know seats id (views.noted v n))) h (noting_so items seats id v (views.noted v n) h.broken at refl) drawn (wish-keeps told drawn (map see items) (map know seats) id (know v) h.rule (at_known seats id v at) o), refl))

  -- ---- draw

  pub draws-allowed : (id : ℕ) (v : ViewOf) (k : ℕ) (x : ItemOf) → views.Holds v k x → MayDraw told (know v) k (see x) v.note.wish → Draws rule told.most id v (λ d n. MatchOption d ((n ≡ v.note) × IsTooMany told) (λ s. n ≡ drawing v.note s))
  draws-allowed id v k x holds may = λ drawn items seats locked h at more. (
      let n : Note = drawing v.note (drawn + 1) in
      (n, same_items drawn items seats (set seats id (views.noted v n)) (set (map know seats) id (noting (know v) n)) (sym (map-set know seats id (views.noted v n))) h (noting_so items seats id v (views.noted v n) h.broken at refl) (drawn + 1) (draw-keeps told drawn (map see items) (map know seats) id (know v) k (see x) h.rule (locks drawn items seats locked) (at_known seats id v at) (hold_known v k x holds) may more), refl))

  pub refusal-allowed : (id : ℕ) (v : ViewOf) (k : ℕ) (x : ItemOf) → views.Holds v k x → MayDraw told (know v) k (see x) v.note.wish → IsRefused rule told.most id v (λ d n. MatchOption d ((n ≡ v.note) × IsTooMany told) (λ s. n ≡ drawing v.note s))
  refusal-allowed id v k x holds may = λ drawn items seats locked h at all_drawn. (
      let a : At (map know seats) id (know v) = at_known seats id v at in
      let l : AreLocked (map see items) (map know seats) = locks drawn items seats locked in
      (v.note, same_items drawn items seats (set seats id (views.refused v v.note)) (set (map know seats) id (refused_more (know v))) (sym (map-set know seats id (views.refused v v.note))) h (noting_so items seats id v (views.refused v v.note) h.broken at refl) (drawn + 1) (refusal-keeps told drawn (map see items) (map know seats) id (know v) k (see x) h.rule l a (hold_known v k x holds) may all_drawn), (refl, refusal-is-true told drawn (map see items) (map know seats) id (know v) k (see x) h.rule l a (hold_known v k x holds) may all_drawn)))

  -- the same after the note of an octant
  may_after : (v : ViewOf) (o k : ℕ) (x : ItemOf) → MayDraw told (know v) k (see x) o → MayDraw told (know (views.noted v (wishing v.note o))) k (see x) o
  may_after v o k x may = record {
    is_node = may.is_node;
    low = may.low;
    closed = may.closed;
    not_yet = may.not_yet;
    goes_there = may.goes_there;
    opens = may.opens;
  }

  wished : (v u : ViewOf) (n : Note) (o : ℕ) → u ≡ views.noted v n → n ≡ note_said v.note Blank (Wish o) → views.noted v (wishing v.note o) ≡ u
  wished v u n o is noted = ap (λ (m : Note). views.noted v m) (sym noted) ∙ sym is

  pub draws-after : (id : ℕ) (v u : ViewOf) (n : Note) (o k : ℕ) (x : ItemOf) → u ≡ views.noted v n → n ≡ note_said v.note Blank (Wish o) → views.Holds v k x → MayDraw told (know v) k (see x) o → Draws rule told.most id u (λ d m. MatchOption d ((m ≡ u.note) × IsTooMany told) (λ s. m ≡ drawing u.note s))
  draws-after id v u n o k x is noted holds may =
      subst (λ (z : ViewOf). Draws rule told.most id z (λ d m. MatchOption d ((m ≡ z.note) × IsTooMany told) (λ s. m ≡ drawing z.note s))) (wished v u n o is noted) (draws-allowed id (views.noted v (wishing v.note o)) k x holds (may_after v o k x may))

  pub refusal-after : (id : ℕ) (v u : ViewOf) (n : Note) (o k : ℕ) (x : ItemOf) → u ≡ views.noted v n → n ≡ note_said v.note Blank (Wish o) → views.Holds v k x → MayDraw told (know v) k (see x) o → IsRefused rule told.most id u (λ d m. MatchOption d ((m ≡ u.note) × IsTooMany told) (λ s. m ≡ drawing u.note s))
  refusal-after id v u n o k x is noted holds may =
      subst (λ (z : ViewOf). IsRefused rule told.most id z (λ d m. MatchOption d ((m ≡ z.note) × IsTooMany told) (λ s. m ≡ drawing z.note s))) (wished v u n o is noted) (refusal-allowed id (views.noted v (wishing v.note o)) k x holds (may_after v o k x may))

  -- ---- look, abandon, merge

  pub looks-allowed : (id : ℕ) (v : ViewOf) → Looks rule told.most id v (λ d n. (n ≡ v.note) × (told.tells ≡ true → ShowsLaw told (know v)))
  looks-allowed id v = λ drawn items seats locked h at. (
      (v.note, subst (λ (vs : List ViewOf). rule drawn items vs) (sym (set-again (at-from seats id v at))) h, (refl, state-keeps-law told drawn (map see items) (map know seats) id (know v) h.rule (at_known seats id v at) (locks drawn items seats locked))))

  pub abandons-allowed : (id : ℕ) (v : ViewOf) → views.HoldsNothing v → 0 < v.parts → Looks rule told.most id v (λ d n. (n ≡ abandoned v.note) × (lacks_slot v.note.flights ≡ true → IsTooMany told))
  abandons-allowed id v free more = λ drawn items seats locked h at. (
      let n : Note = abandoned v.note in
      let a : At (map know seats) id (know v) = at_known seats id v at in
      let none : (know v).hold ≡ None = ap (λ (o : Option (Held ItemOf)). seen_hold held whole o) free in
      (n, same_items drawn items seats (set seats id (views.noted v n)) (set (map know seats) id (noting (know v) n)) (sym (map-set know seats id (views.noted v n))) h (noting_so items seats id v (views.noted v n) h.broken at refl) drawn (abandon-keeps told drawn (map see items) (map know seats) id (know v) h.rule a more none), (refl, λ lacks. (let c = lacks-one v.note.flights lacks in lack-is-too-many told drawn (map see items) (map know seats) id (know v) h.rule a c.0 c.1 c.2))))

  pub merges-allowed : (id : ℕ) (v : ViewOf) → views.HoldsNothing v → 0 < v.parts → GoTogether v.note.flights → Looks rule told.most id v (λ d n. n ≡ merged v.note)
  merges-allowed id v free more together = λ drawn items seats locked h at. (
      let n : Note = merged v.note in
      let a : At (map know seats) id (know v) = at_known seats id v at in
      let none : (know v).hold ≡ None = ap (λ (o : Option (Held ItemOf)). seen_hold held whole o) free in
      (n, same_items drawn items seats (set seats id (views.noted v n)) (set (map know seats) id (noting (know v) n)) (sym (map-set know seats id (views.noted v n))) h (noting_so items seats id v (views.noted v n) h.broken at refl) drawn (merge-keeps told drawn (map see items) (map know seats) id (know v) h.rule a more none together), refl))

  -- ---- split, join

  pub splits-allowed : (id : ℕ) (v : ViewOf) → 1 < v.parts → Splits rule told.most id v v.note (beginning v.note)
  splits-allowed id v more = λ drawn items seats locked h at. (
      let l : ViewOf = views.left_of v v.note in
      let r : ViewOf = views.right_of v (beginning v.note) in
      let new : List ViewOf = set seats id l ++ r ∷ [] in
      let is : map know new ≡ set (map know seats) id (know l) ++ know r ∷ [] = map-append know (set seats id l) (r ∷ []) ∙ ap (λ (w : List View). w ++ know r ∷ []) (map-set know seats id l) in
      same_items drawn items seats new (set (map know seats) id (know l) ++ know r ∷ []) (sym is) h (λ i u why a m. elim (end-at (set seats id l) r a) [
        | inl o ↦ noting_so items seats id v l h.broken at refl i u why o m
        | inr s ↦ absurd (let none : IsMember why [] = subst (λ (z : ViewOf). IsMember why z.note.broken) (sym s.1) m in none)
      ]) drawn (split-keeps told drawn (map see items) (map know seats) id (know v) (v.parts - v.parts / 2) (v.parts / 2) h.rule (at_known seats id v at) (omega (arith, more)) (halves v.parts more)))
    where
      halves : (n : ℕ) → 1 < n → 0 < n - n / 2
      halves n more = omega (arith, more)

  spent-one : IsSpent (know (views.spent_view (first_note told)))
  spent-one = record {
    parts = refl;
    refused = refl;
    hold = refl;
    flights = refl;
    gone = refl;
    draws = refl;
    over = refl;
    given = refl;
    failures = refl;
  }

  pub joins-allowed : (id : ℕ) (v : ViewOf) (j : ℕ) (w : ViewOf) → 0 < v.parts → views.HoldsNothing w → w.note.flights ≡ [] → Joins rule told.most id v j w (together v.note w.note) (first_note told)
  joins-allowed id v j w more free landed = λ drawn items seats locked h at other apart. (
      let both : ViewOf = views.both_of v w (together v.note w.note) in
      let spent : ViewOf = views.spent_view (first_note told) in
      let new : List ViewOf = set (set seats id both) j spent in
      let none : (know w).hold ≡ None = ap (λ (o : Option (Held ItemOf)). seen_hold held whole o) free in
      let is : map know new ≡ set (set (map know seats) id (know both)) j (know spent) = map-set know (set seats id both) j spent ∙ ap (λ (vs : List View). set vs j (know spent)) (map-set know seats id both) in
      let first : HaveBroken items (set seats id both) = one_seat items seats id both h.broken (λ why m. elim (IsMember-append why v.note.broken w.note.broken m) [
        | inl mine ↦ h.broken id v why (at-from seats id v at) mine
        | inr its ↦ h.broken j w why (at-from seats j w other) its
      ]) in
      same_items drawn items seats new (set (set (map know seats) id (know both)) j (know spent)) (sym is) h (one_seat items (set seats id both) j spent first (λ why m. absurd m)) drawn (join-keeps told drawn (map see items) (map know seats) h.rule id j (know v) (know w) (know spent) (at_known seats id v at) (at_known seats j w other) apart more none landed spent-one))

  -- ---- the end

  pub ended-known : (drawn : ℕ) (items : List ItemOf) (id : ℕ) (v : ViewOf) → Ended rule told.most id v drawn items → views.HoldsNothing v → IsEnded told drawn (map see items) (know v)
  ended-known drawn items id v e free =
      last-seat-tells told drawn (map see items) (map know e.0) id (know v) e.2.rule (locks drawn items e.0 e.1) (at_known e.0 id v e.3) alone (ap (λ (o : Option (Held ItemOf)). seen_hold held whole o) free)
    where
      alone : IsLast (map know e.0) id
      alone j w a apart =
          let r = map-at know e.0 j w a in
          sym (ap (λ (z : View). z.parts) r.2) ∙ e.4 j r.0 (at-to e.0 j r.0 r.1) apart
