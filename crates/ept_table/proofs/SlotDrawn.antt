-- A slot is drawn for the child of an octant.
use Rattle.std.proofs.Common.{◌≡◌, ◌∙◌, ℕ, suc, ◌+◌, ◌<◌, ◌≤◌, true, false, ◌⊎◌, inl, inr, List, [], ◌∷◌, ◌++◌, length, set, refl, sym, ap, subst, arith, Option, Some, None, sum_by}
use Rattle.std.specs.List.Sorted.{IsPermutation}
use Rattle.std.proofs.lemmas.List.{length-append}
use Rattle.std.proofs.lemmas.Bool.{false≢true}
use Rattle.std.proofs.lemmas.List.Sorted.{IsPermutation-refl, IsPermutation-sym}
use Rattle.ept_space.specs.VoxelKey.{VoxelKey, root, child}
use Rattle.ept_sample.specs.Members.{IsMember}
use Rattle.ept_sample.proofs.IdLaws.{IsMember-IsPermutation}
use Rattle.ept_core.proofs.Regrouping.{order-free}
use Rattle.ept_grid.specs.Node.{is_open_in}
use Rattle.ept_table.specs.declared.note.Told.{Told}
use Rattle.ept_table.specs.declared.note.Carried.{Carried}
use Rattle.ept_table.specs.declared.note.Draw.{Draw}
use Rattle.ept_table.specs.declared.taken.Cell.{Cell}
use Rattle.ept_table.specs.declared.taken.Taken.{Taken}
use Rattle.ept_table.specs.declared.taken.Taken.TheVariants.{Blank, Standing}
use Rattle.ept_table.specs.At.{At}
use Rattle.ept_table.specs.Taken.{count_of, is_open_at, slot_at}
use Rattle.ept_table.specs.View.{View, NotesFull, IsNothing, flights_of, all_flights}
use Rattle.ept_table.specs.Shown.{IsOver, KeyOf, HasSlot, IsChild, Drew, IsDrawn, IsDraw, Seats, Base, Tree, shown, Shows, Holds, AreLocked}
use Rattle.ept_table.specs.Steps.{noting, drawing, MayDraw}
use Rattle.ept_table.proofs.Lists.{same_or_not, at-same, at-below, below-at, at-set, at-other, set-at, flat-same}
use Rattle.ept_table.proofs.Keys.{key-same, key-grown, key-last, key-cases, child-key, child-octant, child-root}
use Rattle.ept_table.proofs.Mirrors.{flown-same, each-same, holder-parts}

pub some_same : {X : Type 0} {a b : X} → Some a ≡ Some b → a ≡ b
some_same {X} {a} {b} e = ap from e
  where
    from : Option X → X
    from None = a
    from (Some y) = y

module _ (told : Told) (drawn : ℕ) (items : List Taken) (views : List View) (i : ℕ) (v : View) (held : ℕ) (x : Taken) (h : Holds told drawn items views) (locks : AreLocked items views) (at : At views i v) (holds : v.hold ≡ Some (held, x)) (o : ℕ) (may : MayDraw told v held x o) where
  there : At items held x
  there = locks.as_taken i v held x at holds

  abbrev goes : Carried
  goes = may.goes_there.0

  -- the key of the node that is held
  abbrev pub parent_key : VoxelKey
  parent_key = goes.flight.key

  pub held-key : KeyOf h.keys held parent_key
  held-key =
      elim (h.tree.carried i v goes at may.goes_there.1) [
        | inl none ↦ absurd (omega (arith, may.is_node, may.goes_there.2, none.0))
        | inr is ↦ subst (λ (k : ℕ). KeyOf h.keys k parent_key) may.goes_there.2 is
      ]

  -- ---- no slot is drawn for that child yet

  opened_here : (c : Cell) (p : ℕ) → At items held (Standing c) → p ≡ o → is_open_in c.node p ≡ true → ⊥
  opened_here c p a same opened =
      let e : x ≡ Standing c = at-same there a in
      let closed : is_open_in c.node o ≡ false = subst (λ (y : Taken). is_open_at y o ≡ false) e may.closed in
      false≢true (sym closed ∙ (ap (λ (n : ℕ). is_open_in c.node n) (sym same) ∙ opened))

  not_child : (k : ℕ) → IsChild items k (child parent_key o) → ⊥
  not_child k c =
      let same : c.cell.node.key ≡ parent_key = child-key c.cell.node.key parent_key c.octant o c.key_is in
      let slot : c.parent ≡ held = h.tree.distinct c.parent held parent_key (subst (λ (key : VoxelKey). KeyOf h.keys c.parent key) same (h.base.keyed c.parent c.cell c.at)) held-key in
      opened_here c.cell c.octant (subst (λ (n : ℕ). At items n (Standing c.cell)) slot c.at) (child-octant c.cell.node.key parent_key c.octant o c.low may.low c.key_is) c.opened

  not_drawn : (k : ℕ) → IsDrawn h.keys views k (child parent_key o) → ⊥
  not_drawn k d =
      let r : Drew views d.held d.taken d.draw = d.drew in
      let is : IsDraw told h.keys items r.view.note.flights d.held d.taken d.draw = h.tree.draws r.seat r.view d.held d.taken d.draw r.at r.hold r.noted in
      let same : d.parent ≡ parent_key = child-key d.parent parent_key d.draw.octant o d.key_is in
      let slot : d.held ≡ held = h.tree.distinct d.held held parent_key (subst (λ (key : VoxelKey). KeyOf h.keys d.held key) same d.held_is) held-key in
      let seat : r.seat ≡ i = locks.one_holder r.seat i r.view v held d.taken x r.at at (subst (λ (n : ℕ). r.view.hold ≡ Some (n, d.taken)) slot r.hold) holds in
      let mine : r.view ≡ v = at-same (subst (λ (n : ℕ). At views n r.view) seat r.at) at in
      may.not_yet d.draw (subst (λ (u : View). IsMember d.draw u.note.draws) mine r.noted) (child-octant d.parent parent_key d.draw.octant o is.low may.low d.key_is)

  pub no-slot-yet : (k : ℕ) → KeyOf h.keys k (child parent_key o) → ⊥
  no-slot-yet k is =
      elim (h.tree.born k (child parent_key o) is) [
        | inl top ↦ child-root parent_key o (key-same h.keys 1 (child parent_key o) root (subst (λ (n : ℕ). KeyOf h.keys n (child parent_key o)) top is) (h.tree.first 0 root h.is_told.top))
        | inr more ↦ elim more [ inl c ↦ not_child k c | inr d ↦ not_drawn k d ]
      ]

module _ (told : Told) (drawn : ℕ) (items : List Taken) (views : List View) (i : ℕ) (v : View) (held : ℕ) (x : Taken) (h : Holds told drawn items views) (locks : AreLocked items views) (at : At views i v) (holds : v.hold ≡ Some (held, x)) (may : MayDraw told v held x v.note.wish) (left : drawn < told.most) where
  abbrev o : ℕ
  o = v.note.wish

  abbrev slot : ℕ
  slot = drawn + 1

  abbrev key : VoxelKey
  key = child may.goes_there.0.flight.key o

  abbrev next_keys : List VoxelKey
  next_keys = h.keys ++ key ∷ []

  abbrev w : View
  w = noting v (drawing v.note slot)

  abbrev next : List View
  next = set views i w

  here : At next i w
  here = at-set views i w (at-below at)

  all_drawn : length h.keys ≡ drawn
  all_drawn = omega (arith, h.tree.counted, left)

  not_over : IsOver told slot → ⊥
  not_over over = omega (arith, over, left)

  slot_grown : (s : ℕ) (k : VoxelKey) → HasSlot told drawn h.keys s k → HasSlot told slot next_keys s k
  slot_grown s k (inl none) = absurd (omega (arith, none.1, left))
  slot_grown s k (inr is) = inr (key-grown h.keys key s k is)

  each : (P : View → Type 0) → P w → ((j : ℕ) (u : View) → (j ≡ i → ⊥) → At views j u → P u) → (j : ℕ) (u : View) → At next j u → P u
  each P mine others j u a =
      elim (set-at views i w a) [ inl s ↦ subst (λ (z : View). P z) s.1 mine | inr r ↦ others j u r.0 r.1 ]

  kept : (P : View → Type 0) → (P v → P w) → ((j : ℕ) × (u : View) × At views j u × P u) → (j : ℕ) × (u : View) × At next j u × P u
  kept P change (j, u, a, p) =
      elim (same_or_not j i) [
        | inl same ↦ (i, w, here, change (subst (λ (z : View). P z) (at-same (subst (λ (k : ℕ). At views k u) same a) at) p))
        | inr apart ↦ (j, u, at-other i w a apart, p)
      ]

  all_fly : IsPermutation (all_flights views) (all_flights next)
  all_fly = flat-same flights_of w at (IsPermutation-refl (flights_of v))

  fly_back : IsPermutation (all_flights next) (all_flights views)
  fly_back = IsPermutation-sym (all_flights views) (all_flights next) all_fly

  blank_there : At items slot Blank
  blank_there =
      let r = below-at items slot (omega (arith, h.base.size, left)) in
      subst (λ (y : Taken). At items slot y) (h.tree.undrawn slot r.0 r.1 (omega (arith, all_drawn))) r.1

  next_seats : Seats told slot next
  next_seats = record {
    knows = each (λ u. 0 < u.parts → u.note.told ≡ told) (h.seats.knows i v at) (λ j u apart a. h.seats.knows j u a);
    idle = each (λ u. u.hold ≡ None → u.note.draws ≡ []) (λ e. absurd (let no : None ≡ Some (held, x) = sym e ∙ holds in cc)) (λ j u apart a. h.seats.idle j u a);
    spent = each (λ u. u.parts ≡ 0 → IsNothing u) (λ e. absurd (holder-parts locks at holds e)) (λ j u apart a. h.seats.spent j u a);
    full_above = each (λ u. NotesFull u → IsOver told slot) (λ f. (let over : IsOver told drawn = h.seats.full_above i v at f in omega (arith, over))) (λ j u apart a f. (let over : IsOver told drawn = h.seats.full_above j u a f in omega (arith, over)));
    above_full = λ over. absurd (not_over over);
  }

  next_base : Base told h.reader next_keys items next
  next_base = record {
    size = h.base.size;
    at_first = h.base.at_first;
    one_reader = h.base.one_reader;
    fits = h.base.fits;
    given = each (λ u. u.note.given ≤ h.reader.drawn) (h.base.given i v at) (λ j u apart a. h.base.given j u a);
    failed = λ e is. kept (λ (u : View). IsMember e u.note.failures) (λ m. m) (h.base.failed e is);
    noted = λ j u e a m. each (λ u. IsMember e u.note.failures → h.reader.failed ≡ Some e) (λ m. h.base.noted i v e at m) (λ j u apart a m. h.base.noted j u e a m) j u a m;
    keyed = λ k c a. key-grown h.keys key k c.node.key (h.base.keyed k c a);
    sound = h.base.sound;
    flying = λ f m. h.base.flying f (IsMember-IsPermutation f (all_flights next) (all_flights views) fly_back m);
    adds_up = ap (λ (n : ℕ). sum_by count_of items + n) (flown-same (all_flights views) (all_flights next) all_fly) ∙ h.base.adds_up;
  }

  still_drew : (k : ℕ) (y : Taken) (d : Draw) → Drew views k y d → Drew next k y d
  still_drew k y d r =
      let s = kept (λ (u : View). (u.hold ≡ Some (k, y)) × IsMember d u.note.draws) (λ p. (p.0, inr p.1)) (r.seat, r.view, r.at, (r.hold, r.noted)) in
      record { seat = s.0; view = s.1; at = s.2; hold = s.3.0; noted = s.3.1 }

  drawn_is : (k : ℕ) (a : VoxelKey) → IsDrawn h.keys views k a → IsDrawn next_keys next k a
  drawn_is k a d = record {
    held = d.held;
    taken = d.taken;
    draw = d.draw;
    parent = d.parent;
    drew = still_drew d.held d.taken d.draw d.drew;
    held_is = key-grown h.keys key d.held d.parent d.held_is;
    slot_is = d.slot_is;
    key_is = d.key_is;
  }

  abbrev now : Draw
  now = record { slot = slot; octant = o }

  abbrev mine_key : KeyOf h.keys held may.goes_there.0.flight.key
  mine_key = held-key told drawn items views i v held x h locks at holds o may

  drawn_now : (k : ℕ) (a : VoxelKey) → k ≡ length h.keys + 1 → key ≡ a → IsDrawn next_keys next k a
  drawn_now k a e same = record {
    held = held;
    taken = x;
    draw = now;
    parent = may.goes_there.0.flight.key;
    drew = record { seat = i; view = w; at = here; hold = holds; noted = inl refl };
    held_is = key-grown h.keys key held may.goes_there.0.flight.key mine_key;
    slot_is = omega (arith, e, all_drawn);
    key_is = same;
  }

  draw_grown : (fs : List Carried) (k : ℕ) (y : Taken) (d : Draw) → IsDraw told h.keys items fs k y d → IsDraw told next_keys items fs k y d
  draw_grown fs k y d r = record {
    parent = r.parent;
    held_is = key-grown h.keys key k r.parent r.held_is;
    low = r.low;
    closed = r.closed;
    key_is = key-grown h.keys key d.slot (child r.parent d.octant) r.key_is;
    blank = r.blank;
    opens = r.opens;
  }

  draw_now : IsDraw told next_keys items v.note.flights held x now
  draw_now = record {
    parent = may.goes_there.0.flight.key;
    held_is = key-grown h.keys key held may.goes_there.0.flight.key mine_key;
    low = may.low;
    closed = may.closed;
    key_is = key-last h.keys key slot (omega (arith, all_drawn));
    blank = blank_there;
    opens = may.opens;
  }

  mine_draws : (k : ℕ) (y : Taken) (d : Draw) → v.hold ≡ Some (k, y) → IsMember d (now ∷ v.note.draws) → IsDraw told next_keys items v.note.flights k y d
  mine_draws k y d is (inl e) =
      subst (λ (p : ℕ × Taken). IsDraw told next_keys items v.note.flights p.0 p.1 d) (some_same (sym holds ∙ is)) (subst (λ (z : Draw). IsDraw told next_keys items v.note.flights held x z) e draw_now)
  mine_draws k y d is (inr m) = draw_grown v.note.flights k y d (h.tree.draws i v k y d at is m)

  next_tree : Tree told slot next_keys items next
  next_tree = record {
    counted = (let n : length next_keys ≡ length h.keys + 1 = length-append h.keys (key ∷ []) in omega (arith, n, all_drawn, left));
    first = λ n old b. key-grown h.keys key (suc n) old (h.tree.first n old b);
    distinct = two_slots;
    rooted = h.tree.rooted;
    undrawn = λ k y a more. h.tree.undrawn k y a (let n : length next_keys ≡ length h.keys + 1 = length-append h.keys (key ∷ []) in omega (arith, more, n));
    carried = λ j u c a m. each (λ u. IsMember c u.note.flights → HasSlot told slot next_keys c.slot c.flight.key) (λ m. slot_grown c.slot c.flight.key (h.tree.carried i v c at m)) (λ j u apart a m. slot_grown c.slot c.flight.key (h.tree.carried j u c a m)) j u a m;
    lands = λ j u c a m some. each (λ u. IsMember c u.note.flights → (c.slot ≡ 1) ⊎ IsChild items c.slot c.flight.key) (λ m. h.tree.lands i v c at m some) (λ j u apart a m. h.tree.lands j u c a m some) j u a m;
    children = λ k c p a low is. slot_grown (slot_at (Standing c) p) (child c.node.key p) (h.tree.children k c p a low is);
    closed = h.tree.closed;
    awaited = λ k c p a low is b. let r = h.tree.awaited k c p a low is b in (r.0, IsMember-IsPermutation r.0 (all_flights views) (all_flights next) all_fly r.1, r.2);
    born = born_so;
    draws = λ j u k y d a is m. each (λ u. u.hold ≡ Some (k, y) → IsMember d u.note.draws → IsDraw told next_keys items u.note.flights k y d) (λ is m. mine_draws k y d is m) (λ j u apart a is m. draw_grown u.note.flights k y d (h.tree.draws j u k y d a is m)) j u a is m;
    full_over = λ tells over. absurd (not_over over);
  }
    where
      fresh : (k : ℕ) → KeyOf h.keys k key → ⊥
      fresh = no-slot-yet told drawn items views i v held x h locks at holds o may

      two_slots : (j k : ℕ) (a : VoxelKey) → KeyOf next_keys j a → KeyOf next_keys k a → j ≡ k
      two_slots j k a m n =
          elim (key-cases h.keys key j a m) [
            | inl old ↦ elim (key-cases h.keys key k a n) [
              | inl also ↦ h.tree.distinct j k a old also
              | inr new ↦ absurd (fresh j (subst (λ (b : VoxelKey). KeyOf h.keys j b) (sym new.1) old))
            ]
            | inr new ↦ elim (key-cases h.keys key k a n) [
              | inl old ↦ absurd (fresh k (subst (λ (b : VoxelKey). KeyOf h.keys k b) (sym new.1) old))
              | inr also ↦ new.0 ∙ sym also.0
            ]
          ]

      born_so : (k : ℕ) (a : VoxelKey) → KeyOf next_keys k a → (k ≡ 1) ⊎ (IsChild items k a ⊎ IsDrawn next_keys next k a)
      born_so k a m =
          elim (key-cases h.keys key k a m) [
            | inl old ↦ elim (h.tree.born k a old) [
              | inl top ↦ inl top
              | inr more ↦ elim more [ inl c ↦ inr (inl c) | inr d ↦ inr (inr (drawn_is k a d)) ]
            ]
            | inr new ↦ inr (inr (drawn_now k a new.0 new.1))
          ]

  next_shows : Shows told h.reader items views → Shows told h.reader items next
  next_shows s = record {
    nodes = s.nodes;
    law = (order-free told.rules told.points (shown told h.reader s.nodes views) (shown told h.reader s.nodes next) (record { left = refl; nodes = refl; flights = (all_flights next, all_fly, each-same (all_flights next)) })).0 s.law;
    standing = s.standing;
    in_slot = s.in_slot;
    total = s.total;
  }

  pub draw-keeps : Holds told slot items next
  draw-keeps = record {
    keys = next_keys;
    reader = h.reader;
    is_told = h.is_told;
    seats = next_seats;
    base = next_base;
    tree = next_tree;
    shows = λ tells. next_shows (h.shows tells);
  }
