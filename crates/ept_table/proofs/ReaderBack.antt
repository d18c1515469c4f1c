-- The reader is returned.
use Rattle.std.proofs.Common.{◌≡◌, ◌∙◌, ℕ, suc, ◌+◌, ◌<◌, ◌≤◌, true, ◌⊎◌, inl, inr, List, [], ◌∷◌, ◌++◌, map, length, take, drop, set, refl, sym, ap, subst, arith, Option, Some, None, sum_by}
use Rattle.std.specs.List.Sorted.{IsPermutation}
use Rattle.std.proofs.lemmas.List.{append_assoc, drop-drop}
use Rattle.std.proofs.lemmas.List.{map-append}
use Rattle.std.proofs.lemmas.List.Sorted.{IsPermutation-sym, IsPermutation-append_right, IsPermutation-append_comm}
use Rattle.ept_sample.proofs.IdLaws.{IsMember-IsPermutation}
use Rattle.ept_point.specs.declared.point.Point.{Point}
use Rattle.ept_space.specs.VoxelKey.{VoxelKey, root}
use Rattle.ept_space.specs.OctreeCube.{InBox, InCube}
use Rattle.ept_space.proofs.PlaceKeys.{InBox-root}
use Rattle.ept_scan.specs.declared.read_error.ReadError.{ReadError}
use Rattle.ept_sample.specs.Place.{place}
use Rattle.ept_sample.specs.Members.{IsMember}
use Rattle.ept_sample.proofs.Members.{All-members, IsMember-left, IsMember-append}
use Rattle.ept_core.specs.declared.flight.Flight.{Flight}
use Rattle.ept_core.specs.State.{State}
use Rattle.ept_core.specs.Steps as core
use Rattle.ept_core.proofs.Leaving.{flown-flight}
use Rattle.ept_core.proofs.OtherSteps.{draw-keeps}
use Rattle.ept_core.proofs.Regrouping.{order-free}
use Rattle.ept_table.specs.declared.note.Told.{Told}
use Rattle.ept_table.specs.declared.note.Carried.{Carried}
use Rattle.ept_table.specs.declared.note.Draw.{Draw}
use Rattle.ept_table.specs.declared.taken.Cell.{Cell}
use Rattle.ept_table.specs.declared.taken.Progress.{Progress}
use Rattle.ept_table.specs.declared.taken.Taken.{Taken}
use Rattle.ept_table.specs.declared.taken.Taken.TheVariants.{Blank, Standing, Reading}
use Rattle.ept_table.specs.At.{At}
use Rattle.ept_table.specs.Taken.{count_of, slot_at}
use Rattle.ept_table.specs.View.{View, NotesFull, IsNothing, flights_of, all_flights}
use Rattle.ept_table.specs.Shown.{IsOver, KeyOf, HasSlot, IsSoundFlight, FitsReader, IsChild, Drew, IsDrawn, IsDraw, Seats, Base, Tree, shown, Shows, Holds, AreLocked}
use Rattle.ept_table.specs.Steps.{given_back, read, failures_of, carried_to, HasRead}
use Rattle.ept_table.proofs.Lists.{same_or_not, at-same, at-below, at-set, at-other, set-at, length-set, flat-more, sum-set}
use Rattle.ept_table.proofs.Flown.{weight, weight-append}
use Rattle.ept_table.proofs.Mirrors.{flown-same, each-same, holder-parts}

-- ---- small facts

pub reading-same : {a b : Progress} → Reading a ≡ Reading b → a ≡ b
reading-same {a} {b} e = ap from e
  where
    from : Taken → Progress
    from (Reading r) = r
    from Blank = a
    from (Standing c) = a

nowhere : (keys : List VoxelKey) (key : VoxelKey) → KeyOf keys 0 key → ⊥
unfolding KeyOf
nowhere keys key k = k

abbrev flight : Carried → Flight
flight c = c.flight

fresh_flights : (actor : ℕ) (points : List Point) → map flight (carried_to actor 1 root points) ≡ core.flight_of actor root points
fresh_flights actor [] = refl
fresh_flights actor (p ∷ points) = refl

failed_here : (failed : Option ReadError) (e : ReadError) (es : List ReadError) → failed ≡ Some e → IsMember e (failures_of failed ++ es)
failed_here failed e es is =
    subst (λ (f : Option ReadError). IsMember e (failures_of f ++ es)) (sym is) (inl refl)

failed_so : (failed : Option ReadError) (e : ReadError) → IsMember e (failures_of failed) → failed ≡ Some e
failed_so None e m = absurd m
failed_so (Some f) e (inl is) = ap Some is
failed_so (Some f) e (inr m) = absurd m

module _ (told : Told) (drawn : ℕ) (items : List Taken) (views : List View) (i : ℕ) (v : View) (old new : Progress) (points : List Point) (actor : ℕ) (h : Holds told drawn items views) (locks : AreLocked items views) (at : At views i v) (holds : v.hold ≡ Some (0, Reading old)) (reads : HasRead told old new points) where
  abbrev fresh : List Carried
  fresh = carried_to actor 1 root points

  abbrev w : View
  w = given_back v (read v.note new fresh)

  abbrev next_views : List View
  next_views = set views i w

  abbrev next_items : List Taken
  next_items = set items 0 (Reading new)

  here : At next_views i w
  here = at-set views i w (at-below at)

  there : At items 0 (Reading old)
  there = locks.as_taken i v 0 (Reading old) at holds

  was : h.reader ≡ old
  was = reading-same (at-same h.base.at_first there)

  each : (P : View → Type 0) → P w → ((j : ℕ) (u : View) → (j ≡ i → ⊥) → At views j u → P u) → (j : ℕ) (u : View) → At next_views j u → P u
  each P mine others j u a =
      elim (set-at views i w a) [ inl s ↦ subst (λ (z : View). P z) s.1 mine | inr o ↦ others j u o.0 o.1 ]

  kept : (P : View → Type 0) → (P v → P w) → ((j : ℕ) × (u : View) × At views j u × P u) → (j : ℕ) × (u : View) × At next_views j u × P u
  kept P change (j, u, a, p) =
      elim (same_or_not j i) [
        | inl same ↦ (i, w, here, change (subst (λ (z : View). P z) (at-same (subst (λ (k : ℕ). At views k u) same a) at) p))
        | inr apart ↦ (j, u, at-other i w a apart, p)
      ]

  -- ---- what lies in the slots

  standing_was : (k : ℕ) (c : Cell) → At next_items k (Standing c) → At items k (Standing c)
  standing_was k c a = elim (set-at items 0 (Reading new) a) [ inl s ↦ absurd (let e : Reading new ≡ Standing c = s.1 in cc) | inr o ↦ o.1 ]

  standing_is : (k : ℕ) (c : Cell) → At items k (Standing c) → At next_items k (Standing c)
  standing_is k c a = at-other 0 (Reading new) a (λ e. (
      let b : At items 0 (Standing c) = subst (λ (n : ℕ). At items n (Standing c)) e a in
      let s : Standing c ≡ Reading old = at-same b there in
      absurd (cc)))

  blank_was : (k : ℕ) → At next_items k Blank → At items k Blank
  blank_was k a = elim (set-at items 0 (Reading new) a) [ inl s ↦ absurd (let e : Reading new ≡ Blank = s.1 in cc) | inr o ↦ o.1 ]

  blank_is : (k : ℕ) → At items k Blank → At next_items k Blank
  blank_is k a = at-other 0 (Reading new) a (λ e. (
      let b : At items 0 Blank = subst (λ (n : ℕ). At items n Blank) e a in
      let s : Blank ≡ Reading old = at-same b there in
      absurd (cc)))

  -- ---- the flights

  fresh_flies : IsPermutation (flights_of v ++ core.flight_of actor root points) (flights_of w)
  fresh_flies =
      let mine : List Flight = map flight v.note.flights in
      let more : List Flight = core.flight_of actor root points in
      let is : flights_of w ≡ (mine ++ more) ++ v.note.gone = ap (λ (z : List Flight). z ++ v.note.gone) (map-append flight v.note.flights fresh ∙ ap (λ (z : List Flight). mine ++ z) (fresh_flights actor points)) in
      let P : List Flight → List Flight → Type 0 = λ a b. IsPermutation a b in
      subst (λ (z : List Flight). P ((mine ++ v.note.gone) ++ more) z) (sym is) (subst (λ (z : List Flight). P z ((mine ++ more) ++ v.note.gone)) (sym (append_assoc mine v.note.gone more)) (subst (λ (z : List Flight). P (mine ++ (v.note.gone ++ more)) z) (sym (append_assoc mine more v.note.gone)) (IsPermutation-append_right mine (v.note.gone ++ more) (more ++ v.note.gone) (IsPermutation-append_comm v.note.gone more))))

  all_fly : IsPermutation (all_flights views ++ core.flight_of actor root points) (all_flights next_views)
  all_fly = flat-more flights_of w (core.flight_of actor root points) at fresh_flies

  still_flies : (f : Flight) → IsMember f (all_flights views) → IsMember f (all_flights next_views)
  still_flies f m =
      IsMember-IsPermutation f (all_flights views ++ core.flight_of actor root points) (all_flights next_views) all_fly (IsMember-left f (all_flights views) (core.flight_of actor root points) m)

  flew : (f : Flight) → IsMember f (all_flights next_views) → IsMember f (all_flights views) ⊎ IsMember f (core.flight_of actor root points)
  flew f m =
      IsMember-append f (all_flights views) (core.flight_of actor root points) (IsMember-IsPermutation f (all_flights next_views) (all_flights views ++ core.flight_of actor root points) (IsPermutation-sym (all_flights views ++ core.flight_of actor root points) (all_flights next_views) all_fly) m)

  sound_fresh : (ps : List Point) → ((p : Point) → IsMember p ps → InCube told.rules.cube (place p)) → (f : Flight) → IsMember f (core.flight_of actor root ps) → IsSoundFlight told f
  sound_fresh [] inside f m = absurd m
  sound_fresh (p ∷ ps) inside f (inl is) = subst (λ (g : Flight). IsSoundFlight told g) is (record {
    some = (p, inl refl);
    low = omega arith;
    inside = All-members (λ (q : Point). InBox told.rules.cube root (place q)) (p ∷ ps) (λ q n. InBox-root told.rules.cube (place q) (inside q n));
  })
  sound_fresh (p ∷ ps) inside f (inr m) = absurd m

  weighs : weight (all_flights next_views) ≡ weight (all_flights views) + length points
  weighs =
      flown-same (all_flights views ++ core.flight_of actor root points) (all_flights next_views) all_fly
      ∙ (weight-append (all_flights views) (core.flight_of actor root points) ∙ ap (λ (ps : List Point). weight (all_flights views) + length ps) (flown-flight actor root points))

  no_draws : (d : Draw) → IsMember d v.note.draws → ⊥
  no_draws d m =
      let is : IsDraw told h.keys items v.note.flights 0 (Reading old) d = h.tree.draws i v 0 (Reading old) d at holds m in nowhere h.keys is.parent is.held_is

  -- ---- the rule

  next_seats : Seats told drawn next_views
  next_seats = record {
    knows = each (λ u. 0 < u.parts → u.note.told ≡ told) (h.seats.knows i v at) (λ j u apart a. h.seats.knows j u a);
    idle = each (λ u. u.hold ≡ None → u.note.draws ≡ []) (λ e. refl) (λ j u apart a. h.seats.idle j u a);
    spent = each (λ u. u.parts ≡ 0 → IsNothing u) (λ e. absurd (holder-parts locks at holds e)) (λ j u apart a. h.seats.spent j u a);
    full_above = each (λ u. NotesFull u → IsOver told drawn) (h.seats.full_above i v at) (λ j u apart a. h.seats.full_above j u a);
    above_full = λ over. kept NotesFull (λ f. f) (h.seats.above_full over);
  }

  higher : h.reader.drawn ≤ new.drawn
  higher =
      let same : h.reader.drawn ≡ old.drawn = ap (λ (r : Progress). r.drawn) was in omega (arith, same, reads.drawn)

  next_fits : FitsReader told new
  next_fits =
      let f : FitsReader told old = subst (λ (r : Progress). FitsReader told r) was h.base.fits in
      record {
        inputs = reads.inputs ∙ f.inputs;
        end = let one : old.drawn + old.allowed ≡ told.end = f.end in omega (arith, one, reads.drawn, reads.allowed);
        total = let one : old.drawn + old.left ≡ told.total = f.total in omega (arith, one, reads.drawn, reads.left);
      }

  failed_before : (e : ReadError) → h.reader.failed ≡ Some e → new.failed ≡ Some e
  failed_before e is = reads.failed e (subst (λ (r : Progress). r.failed ≡ Some e) was is)

  noted_mine : (e : ReadError) → IsMember e (failures_of new.failed ++ v.note.failures) → new.failed ≡ Some e
  noted_mine e m =
      elim (IsMember-append e (failures_of new.failed) v.note.failures m) [
        | inl now ↦ failed_so new.failed e now
        | inr before ↦ failed_before e (h.base.noted i v e at before)
      ]

  next_base : Base told new h.keys next_items next_views
  next_base = record {
    size = length-set items 0 (Reading new) ∙ h.base.size;
    at_first = at-set items 0 (Reading new) (at-below there);
    one_reader = λ k r a. elim (set-at items 0 (Reading new) a) [ inl s ↦ s.0 | inr o ↦ h.base.one_reader k r o.1 ];
    fits = next_fits;
    given = each (λ u. u.note.given ≤ new.drawn) (omega arith) (λ j u apart a. (let low : u.note.given ≤ h.reader.drawn = h.base.given j u a in omega (arith, low, higher)));
    failed = λ e is. (i, w, here, failed_here new.failed e v.note.failures is);
    noted = λ j u e a m. each (λ u. IsMember e u.note.failures → new.failed ≡ Some e) (noted_mine e) (λ j u apart a m. failed_before e (h.base.noted j u e a m)) j u a m;
    keyed = λ k c a. h.base.keyed k c (standing_was k c a);
    sound = λ k c a. h.base.sound k c (standing_was k c a);
    flying = λ f m. elim (flew f m) [ inl before ↦ h.base.flying f before | inr now ↦ sound_fresh points reads.in_cube f now ];
    adds_up = (
        let all : sum_by count_of items + weight (all_flights views) ≡ h.reader.drawn = h.base.adds_up in
        let same : h.reader.drawn ≡ old.drawn = ap (λ (r : Progress). r.drawn) was in
        let counts : sum_by count_of next_items + count_of (Reading old) ≡ sum_by count_of items + count_of (Reading new) = sum-set count_of (Reading new) there in
        omega (arith, all, same, counts, weighs, reads.drawn));
  }

  child_is : (k : ℕ) (key : VoxelKey) → IsChild items k key → IsChild next_items k key
  child_is k key c = record {
    parent = c.parent;
    cell = c.cell;
    octant = c.octant;
    at = standing_is c.parent c.cell c.at;
    low = c.low;
    opened = c.opened;
    slot_is = c.slot_is;
    key_is = c.key_is;
  }

  still_drew : (held : ℕ) (x : Taken) (d : Draw) → Drew views held x d → Drew next_views held x d
  still_drew held x d r =
      let s = kept (λ (u : View). (u.hold ≡ Some (held, x)) × IsMember d u.note.draws) (λ p. absurd (no_draws d p.1)) (r.seat, r.view, r.at, (r.hold, r.noted)) in
      record { seat = s.0; view = s.1; at = s.2; hold = s.3.0; noted = s.3.1 }

  drawn_is : (k : ℕ) (key : VoxelKey) → IsDrawn h.keys views k key → IsDrawn h.keys next_views k key
  drawn_is k key d = record {
    held = d.held;
    taken = d.taken;
    draw = d.draw;
    parent = d.parent;
    drew = still_drew d.held d.taken d.draw d.drew;
    held_is = d.held_is;
    slot_is = d.slot_is;
    key_is = d.key_is;
  }

  draw_is : (fs : List Carried) (held : ℕ) (x : Taken) (d : Draw) → IsDraw told h.keys items fs held x d → IsDraw told h.keys next_items fs held x d
  draw_is fs held x d r = record {
    parent = r.parent;
    held_is = r.held_is;
    low = r.low;
    closed = r.closed;
    key_is = r.key_is;
    blank = blank_is d.slot r.blank;
    opens = r.opens;
  }

  fresh_slot : (ps : List Point) (c : Carried) → IsMember c (carried_to actor 1 root ps) → (c.slot ≡ 1) × (c.flight.key ≡ root)
  fresh_slot [] c m = absurd m
  fresh_slot (p ∷ ps) c (inl is) = (ap (λ (z : Carried). z.slot) (sym is), ap (λ (z : Carried). z.flight.key) (sym is))
  fresh_slot (p ∷ ps) c (inr m) = absurd m

  carried_mine : (c : Carried) → IsMember c (v.note.flights ++ fresh) → HasSlot told drawn h.keys c.slot c.flight.key
  carried_mine c m =
      elim (IsMember-append c v.note.flights fresh m) [
        | inl before ↦ h.tree.carried i v c at before
        | inr now ↦
            let s = fresh_slot points c now in
            inr (subst (λ (n : ℕ). KeyOf h.keys n c.flight.key) (sym s.0) (subst (λ (key : VoxelKey). KeyOf h.keys 1 key) (sym s.1) (h.tree.first 0 root h.is_told.top)))
      ]

  lands_there : (c : Carried) → ((c.slot ≡ 1) ⊎ IsChild items c.slot c.flight.key) → (c.slot ≡ 1) ⊎ IsChild next_items c.slot c.flight.key
  lands_there c (inl top) = inl top
  lands_there c (inr below) = inr (child_is c.slot c.flight.key below)

  lands_mine : (c : Carried) → IsMember c (v.note.flights ++ fresh) → 0 < c.slot → (c.slot ≡ 1) ⊎ IsChild next_items c.slot c.flight.key
  lands_mine c m some =
      elim (IsMember-append c v.note.flights fresh m) [
        | inl before ↦ lands_there c (h.tree.lands i v c at before some)
        | inr now ↦ inl (fresh_slot points c now).0
      ]

  next_tree : Tree told drawn h.keys next_items next_views
  next_tree = record {
    counted = h.tree.counted;
    first = h.tree.first;
    distinct = h.tree.distinct;
    rooted = λ n key b. let r = h.tree.rooted n key b in (r.0, standing_is (suc n) r.0 r.1);
    undrawn = λ k x a more. elim (set-at items 0 (Reading new) a) [ inl s ↦ absurd (omega (arith, more, s.0)) | inr o ↦ h.tree.undrawn k x o.1 more ];
    carried = λ j u c a m. each (λ u. IsMember c u.note.flights → HasSlot told drawn h.keys c.slot c.flight.key) (carried_mine c) (λ j u apart a m. h.tree.carried j u c a m) j u a m;
    lands = λ j u c a m some. each (λ u. IsMember c u.note.flights → (c.slot ≡ 1) ⊎ IsChild next_items c.slot c.flight.key) (λ m. lands_mine c m some) (λ j u apart a m. lands_there c (h.tree.lands j u c a m some)) j u a m;
    children = λ k c o a. h.tree.children k c o (standing_was k c a);
    closed = λ k c o a. h.tree.closed k c o (standing_was k c a);
    awaited = λ k c o a low is b. let r = h.tree.awaited k c o (standing_was k c a) low is (blank_was (slot_at (Standing c) o) b) in (r.0, still_flies r.0 r.1, r.2);
    born = λ k key is. elim (h.tree.born k key is) [
      | inl top ↦ inl top
      | inr more ↦ elim more [ inl c ↦ inr (inl (child_is k key c)) | inr d ↦ inr (inr (drawn_is k key d)) ]
    ];
    draws = λ j u held x d a is m. each (λ u. u.hold ≡ Some (held, x) → IsMember d u.note.draws → IsDraw told h.keys next_items u.note.flights held x d) (λ is m. absurd m) (λ j u apart a is m. draw_is u.note.flights held x d (h.tree.draws j u held x d a is m)) j u a is m;
    full_over = h.tree.full_over;
  }

  -- ---- the state

  next_left : told.tells ≡ true → drop (length points) (drop h.reader.drawn told.points) ≡ drop new.drawn told.points
  next_left tells =
      let same : h.reader.drawn ≡ old.drawn = ap (λ (r : Progress). r.drawn) was in
      drop-drop (length points) h.reader.drawn told.points ∙ ap (λ (n : ℕ). drop n told.points) (let e : h.reader.drawn + length points ≡ new.drawn = omega (arith, same, reads.drawn) in e)

  next_points : told.tells ≡ true → take (length points) (drop h.reader.drawn told.points) ≡ points
  next_points tells =
      ap (λ (n : ℕ). take (length points) (drop n told.points)) (ap (λ (r : Progress). r.drawn) was) ∙ sym (reads.next tells)

  next_shows : told.tells ≡ true → Shows told new next_items next_views
  next_shows tells = record {
    nodes = s.nodes;
    law = (order-free told.rules told.points (core.drawn actor (length points) before) (shown told new s.nodes next_views) (record { left = next_left tells; nodes = refl; flights = (all_flights next_views, flights, each-same (all_flights next_views)) })).0 (draw-keeps told.rules told.points before actor (length points) s.law);
    standing = λ k c a. s.standing k c (standing_was k c a);
    in_slot = λ key e. let r = s.in_slot key e in (r.0, r.1, standing_is r.0 r.1 r.2, r.3);
    total = s.total;
  }
    where
      s : Shows told h.reader items views
      s = h.shows tells

      before : State
      before = shown told h.reader s.nodes views

      flights : IsPermutation (core.drawn actor (length points) before).flights (all_flights next_views)
      flights =
          subst (λ (ps : List Point). IsPermutation (all_flights views ++ core.flight_of actor root ps) (all_flights next_views)) (sym (next_points tells)) all_fly

  pub read-keeps : Holds told drawn next_items next_views
  read-keeps = record {
    keys = h.keys;
    reader = new;
    is_told = h.is_told;
    seats = next_seats;
    base = next_base;
    tree = next_tree;
    shows = next_shows;
  }
