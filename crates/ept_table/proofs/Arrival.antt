-- A flight has arrived at its node.
use Rattle.std.proofs.Common.{◌≡◌, ◌∙◌, ℕ, suc, ◌+◌, ◌<◌, ◌≤◌, true, false, ◌⊎◌, inl, inr, List, [], ◌∷◌, ◌++◌, map, length, set, refl, sym, ap, subst, arith, Some, None, sum_by}
use Rattle.std.specs.List.{remove}
use Rattle.std.specs.List.Sorted.{IsPermutation}
use Rattle.std.proofs.lemmas.List.{append-nil, map-append}
use Rattle.std.proofs.lemmas.Bool.{false≢true}
use Rattle.std.proofs.lemmas.List.Sorted.{IsPermutation-refl, IsPermutation-sym, IsPermutation-trans, IsPermutation-append_left, IsPermutation-append_comm, IsPermutation-map, IsPermutation-remove}
use Rattle.ept_point.specs.declared.point.Point.{Point}
use Rattle.ept_space.specs.VoxelKey.{VoxelKey, root, same_key, child}
use Rattle.ept_sample.specs.Ids.{HasDistinctIds, in_id_order}
use Rattle.ept_sample.specs.Members.{IsMember}
use Rattle.ept_sample.proofs.Members.{IsMember-left, IsMember-right, IsMember-append, IsMember-map, member-map}
use Rattle.ept_sample.proofs.IdLaws.{IsMember-IsPermutation}
use Rattle.ept_sample.proofs.Choices.{either}
use Rattle.ept_sample.proofs.KeyOrder.{with_key-put}
use Rattle.ept_core.specs.declared.flight.Flight.{Flight}
use Rattle.ept_core.specs.declared.node.Node as core
use Rattle.ept_core.specs.State.{State, Entry, node_at, has_node, keys_of}
use Rattle.ept_core.specs.Law.{KeepsLaw}
use Rattle.ept_core.specs.Flying.{EachIsReordered}
use Rattle.ept_core.specs.Steps as steps
use Rattle.ept_core.proofs.NodeMap.{same_key-apart, node_at-here, node_at-other, has_node-key, key-has_node, has_node-with, keys_of-with}
use Rattle.ept_core.proofs.ArriveLaw.{arrive-keeps}
use Rattle.ept_core.proofs.CoreLaws.{distinct-flight}
use Rattle.ept_core.proofs.Regrouping.{order-free}
use Rattle.ept_grid.specs.Node.{is_open_in}
use Rattle.ept_node.specs.Batch.{seen}
use Rattle.ept_table.specs.declared.note.Told.{Told}
use Rattle.ept_table.specs.declared.note.Carried.{Carried}
use Rattle.ept_table.specs.declared.note.Draw.{Draw}
use Rattle.ept_table.specs.declared.taken.Cell.{Cell}
use Rattle.ept_table.specs.declared.taken.Taken.{Taken}
use Rattle.ept_table.specs.declared.taken.Taken.TheVariants.{Blank, Standing, Reading}
use Rattle.ept_table.specs.At.{At}
use Rattle.ept_table.specs.Taken.{points_of, count_of, is_open_at, slot_at, as_node}
use Rattle.ept_table.specs.View.{View, NotesFull, IsNothing, flights_of, all_flights}
use Rattle.ept_table.specs.Shown.{IsOver, KeyOf, HasSlot, IsSound, IsSoundFlight, IsChild, Drew, IsDrawn, IsDraw, Seats, Base, Tree, shown, Shows, Holds, AreLocked}
use Rattle.ept_table.specs.Steps.{given_back, arrived, GoesBelow, IsArrival, HasArrived}
use Rattle.ept_table.proofs.Lists.{same_or_not, at-same, at-below, at-get, at-member, at-set, at-other, set-at, set-set, set-again, length-set, between, flat-more, sum-set}
use Rattle.ept_table.proofs.Glue.{standing-same}
use Rattle.ept_table.proofs.Keys.{key-same, key-low, child-key, child-octant, child-root, child-apart}
use Rattle.ept_table.proofs.Flown.{weight, weight-append}
use Rattle.ept_table.proofs.Mirrors.{flown-same, each-same, holder-parts}
use Rattle.ept_table.proofs.SlotDrawn.{some_same}
use Rattle.ept_table.proofs.TooMany.{points-as, node-taken}

each_append : (fs gs hs ks : List Flight) → EachIsReordered fs gs → EachIsReordered hs ks → EachIsReordered (fs ++ hs) (gs ++ ks)
each_append [] [] hs ks first second = second
each_append [] (g ∷ gs) hs ks first second = absurd first
each_append (f ∷ fs) [] hs ks first second = absurd first
each_append (f ∷ fs) (g ∷ gs) hs ks first second = (first.0, each_append fs gs hs ks first.1 second)

module _ (told : Told) (drawn : ℕ) (items : List Taken) (views : List View) (i : ℕ) (v : View) (k : ℕ) (x : Taken) (number : ℕ) (c : Carried) (y : Cell) (fresh : List Carried) (h : Holds told drawn items views) (locks : AreLocked items views) (at : At views i v) (holds : v.hold ≡ Some (k, x)) (is_its : At v.note.flights number c) (goes_there : c.slot ≡ k) (is_node : 0 < k) (arr : HasArrived told v x c.flight y fresh) where
  abbrev f : Flight
  f = c.flight

  abbrev flight : Carried → Flight
  flight g = g.flight

  abbrev w : View
  w = given_back v (arrived v.note number fresh)

  abbrev next_views : List View
  next_views = set views i w

  abbrev next_items : List Taken
  next_items = set items k (Standing y)

  here : At next_views i w
  here = at-set views i w (at-below at)

  there : At items k x
  there = locks.as_taken i v k x at holds

  now : At next_items k (Standing y)
  now = at-set items k (Standing y) (at-below there)

  c_among : IsMember c v.note.flights
  c_among = at-member v.note.flights number c is_its

  its_key : KeyOf h.keys k f.key
  its_key =
      elim (h.tree.carried i v c at c_among) [
        | inl none ↦ absurd (omega (arith, is_node, goes_there, none.0))
        | inr is ↦ subst (λ (n : ℕ). KeyOf h.keys n f.key) goes_there is
      ]

  each : (P : View → Type 0) → P w → ((j : ℕ) (u : View) → (j ≡ i → ⊥) → At views j u → P u) → (j : ℕ) (u : View) → At next_views j u → P u
  each P mine others j u a =
      elim (set-at views i w a) [ inl s ↦ subst (λ (z : View). P z) s.1 mine | inr o ↦ others j u o.0 o.1 ]

  kept : (P : View → Type 0) → (P v → P w) → ((j : ℕ) × (u : View) × At views j u × P u) → (j : ℕ) × (u : View) × At next_views j u × P u
  kept P change (j, u, a, p) =
      elim (same_or_not j i) [
        | inl same ↦ (i, w, here, change (subst (λ (z : View). P z) (at-same (subst (λ (n : ℕ). At views n u) same a) at) p))
        | inr apart ↦ (j, u, at-other i w a apart, p)
      ]

  -- ---- what lies in the slots

  -- what is known of a node afterwards, if it is known of the node that was returned and of the others
  cells : (P : ℕ → Cell → Type 0) → P k y → ((j : ℕ) (d : Cell) → (j ≡ k → ⊥) → At items j (Standing d) → P j d) → (j : ℕ) (d : Cell) → At next_items j (Standing d) → P j d
  cells P mine others j d a =
      elim (set-at items k (Standing y) a) [
        | inl s ↦ subst (λ (n : ℕ). P n d) (sym s.0) (subst (λ (z : Cell). P k z) (standing-same s.1) mine)
        | inr o ↦ others j d o.0 o.1
      ]

  blank_was : (j : ℕ) → At next_items j Blank → (j ≡ k → ⊥) × At items j Blank
  blank_was j a =
      elim (set-at items k (Standing y) a) [ inl s ↦ absurd (let e : Standing y ≡ Blank = s.1 in cc) | inr o ↦ o ]

  -- the node that was taken, if it was one, has the key
  old_key : (d : Cell) → x ≡ Standing d → d.node.key ≡ f.key
  old_key d e =
      key-same h.keys k d.node.key f.key (h.base.keyed k d (subst (λ (z : Taken). At items k z) e there)) its_key

  -- ---- the flights

  abbrev less : View
  less = given_back v (record v.note { flights = remove v.note.flights number; draws = [] })

  abbrev base : List Flight
  base = all_flights (set views i less)

  abbrev more : List Flight
  more = map flight fresh

  cut : IsPermutation v.note.flights (c ∷ remove v.note.flights number)
  cut = IsPermutation-remove v.note.flights number c (at-below is_its) (sym (at-get c is_its))

  less_flights : IsPermutation (flights_of less ++ f ∷ []) (flights_of v)
  less_flights =
      let mine : List Flight = map flight (remove v.note.flights number) in
      let all : IsPermutation (map flight v.note.flights ++ v.note.gone) ((f ∷ mine) ++ v.note.gone) = IsPermutation-append_left v.note.gone (map flight v.note.flights) (f ∷ mine) (IsPermutation-map flight v.note.flights (c ∷ remove v.note.flights number) cut) in
      IsPermutation-trans ((mine ++ v.note.gone) ++ f ∷ []) (f ∷ (mine ++ v.note.gone)) (flights_of v) (IsPermutation-append_comm (mine ++ v.note.gone) (f ∷ [])) (IsPermutation-sym (flights_of v) (f ∷ (mine ++ v.note.gone)) all)

  less_here : At (set views i less) i less
  less_here = at-set views i less (at-below at)

  base_all : IsPermutation (base ++ f ∷ []) (all_flights views)
  base_all =
      subst (λ (vs : List View). IsPermutation (base ++ f ∷ []) (all_flights vs)) (set-set views i less v ∙ set-again at) (flat-more flights_of v (f ∷ []) less_here less_flights)

  more_flights : IsPermutation (flights_of less ++ more) (flights_of w)
  more_flights =
      let mine : List Flight = map flight (remove v.note.flights number) in
      subst (λ (z : List Flight). IsPermutation ((mine ++ v.note.gone) ++ more) (z ++ v.note.gone)) (sym (map-append flight (remove v.note.flights number) fresh)) (between mine v.note.gone more)

  base_next : IsPermutation (base ++ more) (all_flights next_views)
  base_next =
      subst (λ (vs : List View). IsPermutation (base ++ more) (all_flights vs)) (set-set views i less w) (flat-more flights_of w more less_here more_flights)

  flew : (g : Flight) → IsMember g (all_flights next_views) → IsMember g (all_flights views) ⊎ IsMember g more
  flew g m =
      elim (IsMember-append g base more (IsMember-IsPermutation g (all_flights next_views) (base ++ more) (IsPermutation-sym (base ++ more) (all_flights next_views) base_next) m)) [
        | inl old ↦ inl (IsMember-IsPermutation g (base ++ f ∷ []) (all_flights views) base_all (IsMember-left g base (f ∷ []) old))
        | inr new ↦ inr new
      ]

  still_flies : (g : Flight) → IsMember g (all_flights views) → (f ≡ g) ⊎ IsMember g (all_flights next_views)
  still_flies g m =
      elim (IsMember-append g base (f ∷ []) (IsMember-IsPermutation g (all_flights views) (base ++ f ∷ []) (IsPermutation-sym (base ++ f ∷ []) (all_flights views) base_all) m)) [
        | inl old ↦ inr (IsMember-IsPermutation g (base ++ more) (all_flights next_views) base_next (IsMember-left g base more old))
        | inr it ↦ elim it [ inl same ↦ inl same | inr never ↦ absurd never ]
      ]

  flies_now : (g : Carried) → IsMember g fresh → IsMember g.flight (all_flights next_views)
  flies_now g m =
      IsMember-IsPermutation g.flight (base ++ more) (all_flights next_views) base_next (IsMember-right g.flight base more (IsMember-map flight g fresh m))

  weighed : weight (all_flights views) ≡ weight base + length f.points
  weighed =
      flown-same (base ++ f ∷ []) (all_flights views) base_all
      ∙ (weight-append base (f ∷ []) ∙ ap (λ (ps : List Point). weight base + length ps) (append-nil f.points))

  weighs : weight (all_flights next_views) ≡ weight base + weight more
  weighs = flown-same (base ++ more) (all_flights next_views) base_next ∙ weight-append base more

  among : IsMember f (all_flights views)
  among =
      IsMember-IsPermutation f (base ++ f ∷ []) (all_flights views) base_all (IsMember-right f base (f ∷ []) (inl refl))

  was_carried : (d : Carried) → IsMember d (remove v.note.flights number) → IsMember d v.note.flights
  was_carried d m =
      IsMember-IsPermutation d (c ∷ remove v.note.flights number) v.note.flights (IsPermutation-sym v.note.flights (c ∷ remove v.note.flights number) cut) (inr m)

  -- ---- the children of the node

  old_child : (z : Taken) (o : ℕ) → x ≡ z → o < 8 → is_open_at z o ≡ true → HasSlot told drawn h.keys (slot_at z o) (child f.key o)
  old_child Blank o e low is = absurd (false≢true is)
  old_child (Reading r) o e low is = absurd (false≢true is)
  old_child (Standing d) o e low is =
      subst (λ (key : VoxelKey). HasSlot told drawn h.keys (slot_at (Standing d) o) (child key o)) (old_key d e) (h.tree.children k d o (subst (λ (z : Taken). At items k z) e there) low is)

  drawn_key : (d : Draw) → IsMember d v.note.draws → (d.octant < 8) × KeyOf h.keys d.slot (child f.key d.octant)
  drawn_key d m =
      let is : IsDraw told h.keys items v.note.flights k x d = h.tree.draws i v k x d at holds m in
      (is.low, subst (λ (key : VoxelKey). KeyOf h.keys d.slot (child key d.octant)) (key-same h.keys k is.parent f.key is.held_is its_key) is.key_is)

  abbrev slot_of : ℕ → ℕ
  slot_of o = slot_at (Standing y) o

  new_child : (o : ℕ) → o < 8 → is_open_in y.node o ≡ true → HasSlot told drawn h.keys (slot_of o) (child f.key o)
  new_child o low opened =
      elim (either (is_open_at x o)) [
        | inl was ↦ subst (λ (n : ℕ). HasSlot told drawn h.keys n (child f.key o)) (sym ((arr.children o low).kept was)) (old_child x o refl low was)
        | inr wasn't ↦ elim ((arr.children o low).drawn wasn't opened) [
          | inl d ↦ (
              let key = (drawn_key d.0 d.1).1 in
              inr (subst (λ (n : ℕ). KeyOf h.keys n (child f.key o)) (sym d.3) (subst (λ (p : ℕ). KeyOf h.keys d.0.slot (child f.key p)) d.2 key)))
          | inr none ↦ inl (none.0, h.seats.full_above i v at (inl none.1))
        ]
      ]

  new_child_key : (o : ℕ) → o < 8 → is_open_in y.node o ≡ true → HasSlot told drawn h.keys (slot_of o) (child y.node.key o)
  new_child_key o low opened =
      subst (λ (key : VoxelKey). HasSlot told drawn h.keys (slot_of o) (child key o)) (sym arr.key) (new_child o low opened)

  is_child : (o : ℕ) (slot : ℕ) (key : VoxelKey) → o < 8 → is_open_in y.node o ≡ true → slot_of o ≡ slot → child f.key o ≡ key → IsChild next_items slot key
  is_child o slot key low opened slot_is key_is = record {
    parent = k;
    cell = y;
    octant = o;
    at = now;
    low = low;
    opened = opened;
    slot_is = slot_is;
    key_is = ap (λ (a : VoxelKey). child a o) arr.key ∙ key_is;
  }

  child_is : (slot : ℕ) (key : VoxelKey) → IsChild items slot key → IsChild next_items slot key
  child_is slot key d =
      elim (same_or_not d.parent k) [
        | inl same ↦ (
            let e : x ≡ Standing d.cell = at-same there (subst (λ (n : ℕ). At items n (Standing d.cell)) same d.at) in
            let was : is_open_at x d.octant ≡ true = subst (λ (z : Taken). is_open_at z d.octant ≡ true) (sym e) d.opened in
            let same_slot : slot_of d.octant ≡ slot = (arr.children d.octant d.low).kept was ∙ (ap (λ (z : Taken). slot_at z d.octant) e ∙ d.slot_is) in
            is_child d.octant slot key d.low (arr.stays_open d.octant d.low was) same_slot (ap (λ (a : VoxelKey). child a d.octant) (sym (old_key d.cell e)) ∙ d.key_is))
        | inr apart ↦ record {
          parent = d.parent;
          cell = d.cell;
          octant = d.octant;
          at = at-other k (Standing y) d.at apart;
          low = d.low;
          opened = d.opened;
          slot_is = d.slot_is;
          key_is = d.key_is;
        }
      ]

  lands_there : (d : Carried) → ((d.slot ≡ 1) ⊎ IsChild items d.slot d.flight.key) → (d.slot ≡ 1) ⊎ IsChild next_items d.slot d.flight.key
  lands_there d (inl top) = inl top
  lands_there d (inr below) = inr (child_is d.slot d.flight.key below)

  -- ---- seats, reader and nodes

  next_seats : Seats told drawn next_views
  next_seats = record {
    knows = each (λ u. 0 < u.parts → u.note.told ≡ told) (h.seats.knows i v at) (λ j u apart a. h.seats.knows j u a);
    idle = each (λ u. u.hold ≡ None → u.note.draws ≡ []) (λ e. refl) (λ j u apart a. h.seats.idle j u a);
    spent = each (λ u. u.parts ≡ 0 → IsNothing u) (λ e. absurd (holder-parts locks at holds e)) (λ j u apart a. h.seats.spent j u a);
    full_above = each (λ u. NotesFull u → IsOver told drawn) (h.seats.full_above i v at) (λ j u apart a. h.seats.full_above j u a);
    above_full = λ over. kept NotesFull (λ n. n) (h.seats.above_full over);
  }

  next_base : Base told h.reader h.keys next_items next_views
  next_base = record {
    size = length-set items k (Standing y) ∙ h.base.size;
    at_first = at-other k (Standing y) h.base.at_first (λ e. omega (arith, e, is_node));
    one_reader = λ j r a. elim (set-at items k (Standing y) a) [ inl s ↦ absurd (let e : Standing y ≡ Reading r = s.1 in cc) | inr o ↦ h.base.one_reader j r o.1 ];
    fits = h.base.fits;
    given = each (λ u. u.note.given ≤ h.reader.drawn) (h.base.given i v at) (λ j u apart a. h.base.given j u a);
    failed = λ e is. kept (λ (u : View). IsMember e u.note.failures) (λ m. m) (h.base.failed e is);
    noted = λ j u e a m. each (λ u. IsMember e u.note.failures → h.reader.failed ≡ Some e) (λ m. h.base.noted i v e at m) (λ j u apart a m. h.base.noted j u e a m) j u a m;
    keyed = cells (λ j d. KeyOf h.keys j d.node.key) (subst (λ (key : VoxelKey). KeyOf h.keys k key) (sym arr.key) its_key) (λ j d apart a. h.base.keyed j d a);
    sound = cells (λ j d. IsSound told d) arr.sound (λ j d apart a. h.base.sound j d a);
    flying = λ g m. elim (flew g m) [
      | inl old ↦ h.base.flying g old
      | inr new ↦ let r = member-map flight g fresh new in subst (λ (z : Flight). IsSoundFlight told z) r.2 (arr.goes_below r.0 r.1).sound
    ];
    adds_up = (
        let all : sum_by count_of items + weight (all_flights views) ≡ h.reader.drawn = h.base.adds_up in
        let counts : sum_by count_of next_items + count_of x ≡ sum_by count_of items + length y.node.points = sum-set count_of (Standing y) there in
        let visit : length f.points + count_of x ≡ length y.node.points + weight more = arr.adds_up in
        omega (arith, all, counts, visit, weighed, weighs));
  }

  -- ---- the drawn slots

  fresh_slot : (g : Carried) → IsMember g fresh → HasSlot told drawn h.keys g.slot g.flight.key
  fresh_slot g m =
      let b : GoesBelow told y g = arr.goes_below g m in
      subst (λ (n : ℕ). HasSlot told drawn h.keys n g.flight.key) (sym b.slot) (subst (λ (key : VoxelKey). HasSlot told drawn h.keys (slot_of b.octant) key) (sym b.key) (new_child_key b.octant b.low b.opened))

  fresh_lands : (g : Carried) → IsMember g fresh → (g.slot ≡ 1) ⊎ IsChild next_items g.slot g.flight.key
  fresh_lands g m =
      let b : GoesBelow told y g = arr.goes_below g m in
      inr (is_child b.octant g.slot g.flight.key b.low b.opened (sym b.slot) (ap (λ (a : VoxelKey). child a b.octant) (sym arr.key) ∙ sym b.key))

  carried_mine : (g : Carried) → IsMember g (remove v.note.flights number ++ fresh) → HasSlot told drawn h.keys g.slot g.flight.key
  carried_mine g m =
      elim (IsMember-append g (remove v.note.flights number) fresh m) [
        | inl old ↦ h.tree.carried i v g at (was_carried g old)
        | inr new ↦ fresh_slot g new
      ]

  lands_mine : (g : Carried) → IsMember g (remove v.note.flights number ++ fresh) → 0 < g.slot → (g.slot ≡ 1) ⊎ IsChild next_items g.slot g.flight.key
  lands_mine g m some =
      elim (IsMember-append g (remove v.note.flights number) fresh m) [
        | inl old ↦ lands_there g (h.tree.lands i v g at (was_carried g old) some)
        | inr new ↦ fresh_lands g new
      ]

  -- a flight to another key still flies
  other_flies : (key : VoxelKey) → (f.key ≡ key → ⊥) → ((g : Flight) × IsMember g (all_flights views) × (g.key ≡ key)) → (g : Flight) × IsMember g (all_flights next_views) × (g.key ≡ key)
  other_flies key apart (g, m, is) =
      elim (still_flies g m) [ inl same ↦ absurd (apart (ap (λ (z : Flight). z.key) same ∙ is)) | inr n ↦ (g, n, is) ]

  old_awaited : (z : Taken) (o : ℕ) → x ≡ z → o < 8 → is_open_at z o ≡ true → At items (slot_at z o) Blank → (g : Flight) × IsMember g (all_flights views) × (g.key ≡ child f.key o)
  old_awaited Blank o e low is b = absurd (false≢true is)
  old_awaited (Reading r) o e low is b = absurd (false≢true is)
  old_awaited (Standing d) o e low is b =
      let r = h.tree.awaited k d o (subst (λ (z : Taken). At items k z) e there) low is b in
      (r.0, r.1, r.2 ∙ ap (λ (a : VoxelKey). child a o) (old_key d e))

  mine_awaited : (o : ℕ) → o < 8 → is_open_in y.node o ≡ true → At next_items (slot_of o) Blank → (g : Flight) × IsMember g (all_flights next_views) × (g.key ≡ child y.node.key o)
  mine_awaited o low opened b =
      elim (either (is_open_at x o)) [
        | inl was ↦ (
            let same : slot_of o ≡ slot_at x o = (arr.children o low).kept was in
            let blank : At items (slot_at x o) Blank = subst (λ (n : ℕ). At items n Blank) same (blank_was (slot_of o) b).1 in
            let r = other_flies (child f.key o) (λ e. child-apart f.key o (sym e)) (old_awaited x o refl low was blank) in
            (r.0, r.1, r.2 ∙ ap (λ (a : VoxelKey). child a o) (sym arr.key)))
        | inr wasn't ↦ let r = arr.fills o low wasn't opened in (r.0.flight, flies_now r.0 r.1, r.2)
      ]

  other_awaited : (j : ℕ) (d : Cell) (o : ℕ) → (j ≡ k → ⊥) → At items j (Standing d) → o < 8 → is_open_in d.node o ≡ true → At next_items (slot_at (Standing d) o) Blank → (g : Flight) × IsMember g (all_flights next_views) × (g.key ≡ child d.node.key o)
  other_awaited j d o apart a low opened b =
      let blank = blank_was (slot_at (Standing d) o) b in
      other_flies (child d.node.key o) (λ e. (
      elim (h.tree.children j d o a low opened) [
        | inl none ↦ (
            let first : At items 0 Blank = subst (λ (n : ℕ). At items n Blank) none.0 blank.1 in
            let no : Reading h.reader ≡ Blank = at-same h.base.at_first first in
            absurd (cc))
        | inr is ↦ blank.0 (h.tree.distinct (slot_at (Standing d) o) k f.key (subst (λ (key : VoxelKey). KeyOf h.keys (slot_at (Standing d) o) key) (sym e) is) its_key)
      ])) (h.tree.awaited j d o a low opened blank.1)

  mine_drew : (d : Draw) (slot : ℕ) (key parent : VoxelKey) → IsMember d v.note.draws → KeyOf h.keys k parent → d.slot ≡ slot → child parent d.octant ≡ key → IsChild next_items slot key
  mine_drew d slot key parent m held_is slot_is key_is =
      let u = arr.uses_draws d m in
      is_child d.octant slot key (drawn_key d m).0 u.0 (u.1 ∙ slot_is) (ap (λ (a : VoxelKey). child a d.octant) (key-same h.keys k f.key parent its_key held_is) ∙ key_is)

  drawn_is : (slot : ℕ) (key : VoxelKey) → IsDrawn h.keys views slot key → IsChild next_items slot key ⊎ IsDrawn h.keys next_views slot key
  drawn_is slot key d =
      elim (same_or_not d.drew.seat i) [
        | inl same ↦ (
            let r : Drew views d.held d.taken d.draw = d.drew in
            let mine : r.view ≡ v = at-same (subst (λ (n : ℕ). At views n r.view) same r.at) at in
            let hold : v.hold ≡ Some (d.held, d.taken) = subst (λ (u : View). u.hold ≡ Some (d.held, d.taken)) mine r.hold in
            let pair : (let p : ℕ × Taken = (k, x) in p) ≡ (d.held, d.taken) = some_same (sym holds ∙ hold) in
            let slot_same : k ≡ d.held = ap (λ (p : ℕ × Taken). p.0) pair in
            inl (mine_drew d.draw slot key d.parent (subst (λ (u : View). IsMember d.draw u.note.draws) mine r.noted) (subst (λ (n : ℕ). KeyOf h.keys n d.parent) (sym slot_same) d.held_is) d.slot_is d.key_is))
        | inr apart ↦ inr (record {
          held = d.held;
          taken = d.taken;
          draw = d.draw;
          parent = d.parent;
          drew = record { seat = d.drew.seat; view = d.drew.view; at = at-other i w d.drew.at apart; hold = d.drew.hold; noted = d.drew.noted };
          held_is = d.held_is;
          slot_is = d.slot_is;
          key_is = d.key_is;
        })
      ]

  -- no other seat has drawn the slot to which the flight went
  not_drawn : (j : ℕ) (u : View) (held : ℕ) (z : Taken) (d : Draw) → At views j u → u.hold ≡ Some (held, z) → IsDraw told h.keys items u.note.flights held z d → d.slot ≡ k → ⊥
  not_drawn j u held z d a hold is same =
      let key : f.key ≡ child is.parent d.octant = key-same h.keys k f.key (child is.parent d.octant) its_key (subst (λ (n : ℕ). KeyOf h.keys n (child is.parent d.octant)) same is.key_is) in
      elim (h.tree.lands i v c at c_among (omega (arith, goes_there, is_node))) [
        | inl top ↦ (
            let first : k ≡ 1 = sym goes_there ∙ top in
            let root_key : f.key ≡ root = key-same h.keys 1 f.key root (subst (λ (n : ℕ). KeyOf h.keys n f.key) first its_key) (h.tree.first 0 root h.is_told.top) in
            child-root is.parent d.octant (sym key ∙ root_key))
        | inr b ↦ (
            let both : child b.cell.node.key b.octant ≡ child is.parent d.octant = b.key_is ∙ key in
            let parent : b.cell.node.key ≡ is.parent = child-key b.cell.node.key is.parent b.octant d.octant both in
            let octant : b.octant ≡ d.octant = child-octant b.cell.node.key is.parent b.octant d.octant b.low is.low both in
            let slot : b.parent ≡ held = h.tree.distinct b.parent held is.parent (subst (λ (n : VoxelKey). KeyOf h.keys b.parent n) parent (h.base.keyed b.parent b.cell b.at)) is.held_is in
            let e : z ≡ Standing b.cell = at-same (locks.as_taken j u held z a hold) (subst (λ (n : ℕ). At items n (Standing b.cell)) slot b.at) in
            let closed : is_open_in b.cell.node d.octant ≡ false = subst (λ (t : Taken). is_open_at t d.octant ≡ false) e is.closed in
            false≢true (sym closed ∙ (ap (λ (n : ℕ). is_open_in b.cell.node n) (sym octant) ∙ b.opened)))
      ]

  draw_is : (j : ℕ) (u : View) (held : ℕ) (z : Taken) (d : Draw) → At views j u → u.hold ≡ Some (held, z) → IsDraw told h.keys items u.note.flights held z d → IsDraw told h.keys next_items u.note.flights held z d
  draw_is j u held z d a hold r = record {
    parent = r.parent;
    held_is = r.held_is;
    low = r.low;
    closed = r.closed;
    key_is = r.key_is;
    blank = at-other k (Standing y) r.blank (λ same. not_drawn j u held z d a hold r same);
    opens = r.opens;
  }

  stands_still : (n : ℕ) (key : VoxelKey) → At told.begun n key → (d : Cell) × At next_items (suc n) (Standing d)
  stands_still n key b =
      elim (same_or_not (suc n) k) [
        | inl same ↦ (y, subst (λ (n : ℕ). At next_items n (Standing y)) (sym same) now)
        | inr apart ↦ let r = h.tree.rooted n key b in (r.0, at-other k (Standing y) r.1 apart)
      ]

  next_tree : Tree told drawn h.keys next_items next_views
  next_tree = record {
    counted = h.tree.counted;
    first = h.tree.first;
    distinct = h.tree.distinct;
    rooted = stands_still;
    undrawn = λ j z a far. elim (set-at items k (Standing y) a) [ inl s ↦ absurd (let low = key-low h.keys k f.key its_key in omega (arith, low.1, far, s.0)) | inr o ↦ h.tree.undrawn j z o.1 far ];
    carried = λ j u g a m. each (λ u. IsMember g u.note.flights → HasSlot told drawn h.keys g.slot g.flight.key) (carried_mine g) (λ j u apart a m. h.tree.carried j u g a m) j u a m;
    lands = λ j u g a m some. each (λ u. IsMember g u.note.flights → (g.slot ≡ 1) ⊎ IsChild next_items g.slot g.flight.key) (λ m. lands_mine g m some) (λ j u apart a m. lands_there g (h.tree.lands j u g a m some)) j u a m;
    children = λ j d o a low is. cells (λ j d. is_open_in d.node o ≡ true → HasSlot told drawn h.keys (slot_at (Standing d) o) (child d.node.key o)) (new_child_key o low) (λ j d apart a. h.tree.children j d o a low) j d a is;
    closed = λ j d o a low is. cells (λ j d. is_open_in d.node o ≡ false → slot_at (Standing d) o ≡ 0) (arr.children o low).none (λ j d apart a. h.tree.closed j d o a low) j d a is;
    awaited = λ j d o a low is b. cells (λ j d. is_open_in d.node o ≡ true → At next_items (slot_at (Standing d) o) Blank → (g : Flight) × IsMember g (all_flights next_views) × (g.key ≡ child d.node.key o)) (mine_awaited o low) (λ j d apart a is b. other_awaited j d o apart a low is b) j d a is b;
    born = λ j key is. elim (h.tree.born j key is) [
      | inl top ↦ inl top
      | inr old ↦ elim old [ inl d ↦ inr (inl (child_is j key d)) | inr d ↦ inr (drawn_is j key d) ]
    ];
    draws = λ j u held z d a is m. each (λ u. u.hold ≡ Some (held, z) → IsMember d u.note.draws → IsDraw told h.keys next_items u.note.flights held z d) (λ is m. absurd m) (λ j u apart a is m. draw_is j u held z d a is (h.tree.draws j u held z d a is m)) j u a is m;
    full_over = h.tree.full_over;
  }

  -- ---- the state

  module _ (tells : told.tells ≡ true) (s : Shows told h.reader items views) where
    abbrev state : State
    state = shown told h.reader s.nodes views

    node_was : node_at s.nodes f.key ≡ as_node x
    node_was = node-taken told drawn items views h s k x f.key there its_key

    same_given : steps.gathered s.nodes f ≡ in_id_order (f.points ++ points_of x)
    unfolding steps.gathered
    same_given =
        ap (λ (n : core.Node). in_id_order (f.points ++ n.points)) node_was ∙ ap (λ (ps : List Point). in_id_order (f.points ++ ps)) (points-as x)

    different : HasDistinctIds (f.points ++ points_of x)
    different =
        subst (λ (ps : List Point). HasDistinctIds (f.points ++ ps)) (ap (λ (n : core.Node). n.points) node_was ∙ points-as x) (distinct-flight told.rules told.points state f s.law among)

    arrives : IsArrival told x f y fresh
    arrives = arr.exact tells different

    abbrev node : core.Node
    node = steps.node_after told.rules f.key (node_at s.nodes f.key) (steps.gathered s.nodes f)

    node_is : node ≡ seen y.node
    node_is =
        ap (λ (n : core.Node). steps.node_after told.rules f.key n (steps.gathered s.nodes f)) node_was
        ∙ (ap (λ (ps : List Point). steps.node_after told.rules f.key (as_node x) ps) same_given ∙ sym arrives.node)

    abbrev sent : List Flight
    sent = steps.flights_after f.actor told.rules f.key (node_at s.nodes f.key) (steps.gathered s.nodes f)

    sent_is : EachIsReordered sent more
    sent_is =
        subst (λ (fs : List Flight). EachIsReordered fs more) (sym (ap (λ (n : core.Node). steps.flights_after f.actor told.rules f.key n (steps.gathered s.nodes f)) node_was ∙ ap (λ (ps : List Point). steps.flights_after f.actor told.rules f.key (as_node x) ps) same_given)) arrives.flights

    abbrev next_nodes : List Entry
    next_nodes = steps.with_node s.nodes f.key node

    abbrev last_of_all : State
    last_of_all = record { left = state.left; flights = base ++ f ∷ []; nodes = s.nodes }

    abbrev and_then : State
    and_then = record { left = state.left; flights = base ++ more; nodes = next_nodes }

    law_last : KeepsLaw told.rules told.points last_of_all
    law_last =
        (order-free told.rules told.points state last_of_all (record { left = refl; nodes = refl; flights = (base ++ f ∷ [], IsPermutation-sym (base ++ f ∷ []) (all_flights views) base_all, each-same (base ++ f ∷ [])) })).0 s.law

    law_arrived : KeepsLaw told.rules told.points (steps.arrived told.rules f (base ++ []) last_of_all)
    law_arrived = arrive-keeps told.rules told.points last_of_all base f [] law_last refl

    same_but : EachIsReordered ((base ++ []) ++ sent) (base ++ more)
    same_but =
        each_append (base ++ []) base sent more (subst (λ (fs : List Flight). EachIsReordered fs base) (sym (append-nil base)) (each-same base)) sent_is

    law_then : KeepsLaw told.rules told.points and_then
    law_then =
        (order-free told.rules told.points (steps.arrived told.rules f (base ++ []) last_of_all) and_then (record { left = refl; nodes = refl; flights = ((base ++ []) ++ sent, IsPermutation-refl ((base ++ []) ++ sent), same_but) })).0 law_arrived

    law_next : KeepsLaw told.rules told.points (shown told h.reader next_nodes next_views)
    law_next =
        (order-free told.rules told.points and_then (shown told h.reader next_nodes next_views) (record { left = refl; nodes = refl; flights = (all_flights next_views, base_next, each-same (all_flights next_views)) })).0 law_then

    has_now : has_node next_nodes f.key ≡ true
    has_now =
        key-has_node next_nodes f.key (subst (λ (ks : List VoxelKey). IsMember f.key ks) (sym (keys_of-with f.key node s.nodes)) (with_key-put f.key (keys_of s.nodes)).2)

    mine_stands : (has_node next_nodes y.node.key ≡ true) × (node_at next_nodes y.node.key ≡ seen y.node)
    mine_stands =
        subst (λ (key : VoxelKey). (has_node next_nodes key ≡ true) × (node_at next_nodes key ≡ seen y.node)) (sym arr.key) (has_now, node_at-here s.nodes f.key node ∙ node_is)

    other_stands : (j : ℕ) (d : Cell) → (j ≡ k → ⊥) → At items j (Standing d) → (has_node next_nodes d.node.key ≡ true) × (node_at next_nodes d.node.key ≡ seen d.node)
    other_stands j d apart a =
        let r = s.standing j d a in
        let keys_apart : same_key f.key d.node.key ≡ false = same_key-apart f.key d.node.key (λ e. apart (h.tree.distinct j k f.key (subst (λ (key : VoxelKey). KeyOf h.keys j key) (sym e) (h.base.keyed j d a)) its_key)) in
        (has_node-with s.nodes f.key node d.node.key r.0, node_at-other s.nodes f.key node d.node.key keys_apart ∙ r.1)

    next_in_slot : (key : VoxelKey) → has_node next_nodes key ≡ true → (j : ℕ) × (d : Cell) × At next_items j (Standing d) × (d.node.key ≡ key)
    next_in_slot key e =
        elim ((with_key-put f.key (keys_of s.nodes)).0 key (subst (λ (ks : List VoxelKey). IsMember key ks) (keys_of-with f.key node s.nodes) (has_node-key next_nodes key e))) [
          | inl same ↦ (k, y, now, arr.key ∙ same)
          | inr old ↦ (
              let r = s.in_slot key (key-has_node s.nodes key old) in
              elim (same_or_not r.0 k) [
                | inl same ↦ (k, y, now, arr.key ∙ (sym (old_key r.1 (at-same there (subst (λ (n : ℕ). At items n (Standing r.1)) same r.2))) ∙ r.3))
                | inr apart ↦ (r.0, r.1, at-other k (Standing y) r.2 apart, r.3)
              ])
        ]

    next_shows : Shows told h.reader next_items next_views
    next_shows = record {
      nodes = next_nodes;
      law = law_next;
      standing = cells (λ j d. (has_node next_nodes d.node.key ≡ true) × (node_at next_nodes d.node.key ≡ seen d.node)) mine_stands other_stands;
      in_slot = next_in_slot;
      total = s.total;
    }

  pub arrival-keeps : Holds told drawn next_items next_views
  arrival-keeps = record {
    keys = h.keys;
    reader = h.reader;
    is_told = h.is_told;
    seats = next_seats;
    base = next_base;
    tree = next_tree;
    shows = λ tells. next_shows tells (h.shows tells);
  }
