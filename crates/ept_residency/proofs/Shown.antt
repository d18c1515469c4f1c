-- What a table shows, with its nodes where they are.
use Rattle.std.proofs.Common.{◌≡◌, ◌∙◌, ℕ, zero, suc, ◌+◌, Bool, true, false, cond, inl, inr, List, [], ◌∷◌, map, set, drop, Option, refl, sym, ap, subst, arith}
use Rattle.std.proofs.lemmas.Bool.{false≢true, eq-eqb, ne_eqb}
use Rattle.ept_space.specs.VoxelKey.{VoxelKey, same_key}
use Rattle.ept_space.proofs.Within.{same_key-true}
use Rattle.ept_sample.proofs.Members.{member-any, any-member}
use Rattle.ept_core.specs.declared.node.Node.{Node}
use Rattle.ept_core.specs.declared.event.Event.{Event}
use Rattle.ept_core.specs.declared.event.Event.TheVariants.{Evict, Reload}
use Rattle.ept_core.specs.State.{State, Entry, node_at, has_node}
use Rattle.ept_core.specs.Steps.{Step, moved, with_node}
use Rattle.ept_core.proofs.NodeMap.{same_key-self, same_key-apart, node_at-here, node_at-other, has_node-with, IsMember-with}
use Rattle.ept_core.proofs.CoreLaws.{step-keeps}
use Rattle.ept_node.specs.Batch.{seen}
use Rattle.ept_node.specs.declared.node.Node as node
use Rattle.ept_node.specs.declared.state.NodeState.{NodeState}
use Rattle.ept_node.specs.declared.state.NodeState.TheVariants as states
use Rattle.ept_node.specs.Shown.{state_of, node_of, is_here}
use Rattle.ept_table.specs.declared.note.Told.{Told}
use Rattle.ept_table.specs.declared.item.Item.{Item}
use Rattle.ept_table.specs.declared.item.Item.TheVariants as items
use Rattle.ept_table.specs.declared.taken.Cell.{Cell}
use Rattle.ept_table.specs.declared.taken.Progress.{Progress}
use Rattle.ept_table.specs.declared.taken.Taken.{Taken}
use Rattle.ept_table.specs.declared.taken.Taken.TheVariants.{Standing, Reading}
use Rattle.ept_table.specs.At.{At}
use Rattle.ept_table.specs.Item as item
use Rattle.ept_table.specs.Item.{cell_of, taken_as, seen_node}
use Rattle.ept_table.specs.Steps.{StaysAlike}
use Rattle.ept_table.specs.View.{View}
use Rattle.ept_table.specs.Shown.{KeyOf, Holds, shown}
use Rattle.ept_table.proofs.Lists.{same_or_not, at-same, at-zero, at-next, at-rest, at-head, nothing-at, at-get, at-set, at-other, set-again, at-below}
use Rattle.ept_table.proofs.Glue.{at-map, map-at, map-set}
use Rattle.ept_residency.specs.Places.{kept_where, placed}
use Rattle.ept_residency.specs.Showing.{ShowsPlaces, is_in_memory, in_memory, IsMoved, but_at}
use Rattle.ept_residency.proofs.Placed.{places-free, same-has, is-placed}

-- ---- the slot of a key

-- the first place of a key, counted on from a number
place_from : ℕ → List VoxelKey → VoxelKey → ℕ
place_from n [] key = n
place_from n (k ∷ ks) key = cond (same_key k key) n (place_from (suc n) ks key)

place_step : (n : ℕ) (k : VoxelKey) (ks : List VoxelKey) (key : VoxelKey) (i : ℕ) (b : Bool) → same_key k key ≡ b → At (k ∷ ks) i key → ((m : ℕ) → At ks m key → (j : ℕ) × At ks j key × (place_from (suc n) ks key ≡ suc n + j)) → (j : ℕ) × At (k ∷ ks) j key × (cond b n (place_from (suc n) ks key) ≡ n + j)
place_step n k ks key i true is at more =
    (0, subst (λ (w : VoxelKey). At (k ∷ ks) 0 w) (same_key-true k key is) (at-zero k ks), omega arith)
place_step n k ks key zero false is at more =
    absurd (false≢true (sym is ∙ (ap (λ (w : VoxelKey). same_key k w) (sym (at-head at)) ∙ same_key-self k)))
place_step n k ks key (suc i) false is at more =
    let r = more i (at-rest k ks i key at) in (suc r.0, at-next k ks r.0 key r.1, omega (arith, r.2))

place_found : (n : ℕ) (ks : List VoxelKey) (key : VoxelKey) (i : ℕ) → At ks i key → (j : ℕ) × At ks j key × (place_from n ks key ≡ n + j)
unfolding place_from
place_found n [] key i at = absurd (nothing-at at)
place_found n (k ∷ ks) key i at =
    place_step n k ks key i (same_key k key) refl at (λ m a. place_found (suc n) ks key m a)

-- ---- a table shows its nodes where they are

module _ (told : Told) (drawn : ℕ) (items : List Taken) (views : List View) (h : Holds told drawn items views) where
  slot_is : (k : ℕ) (key : VoxelKey) → KeyOf h.keys k key → place_from 1 h.keys key ≡ k
  unfolding KeyOf
  slot_is zero key is = absurd is
  slot_is (suc i) key is =
      let r = place_found 1 h.keys key i is in
      let same : suc r.0 ≡ suc i = h.tree.distinct (suc r.0) (suc i) key r.1 is in
      omega (arith, r.2, same)

  abbrev by_key : (ℕ → Bool) → VoxelKey → Bool
  by_key here key = here (place_from 1 h.keys key)

  pub shows-places : (reader : Progress) (here : ℕ → Bool) → At items 0 (Reading reader) → told.tells ≡ true → (s : State) × ShowsPlaces told reader items views here s
  shows-places reader here first tells =
      let was = h.shows tells in (
        placed (by_key here) (shown told h.reader was.nodes views),
        record {
          law = places-free told.rules told.points (shown told h.reader was.nodes views) (by_key here) was.law;
          left = ap (λ (x : Taken). drop (drawn_in x) told.points) (at-same h.base.at_first first);
          flights = refl;
          standing = λ k c at. (
            same-has (by_key here) was.nodes c.node.key ∙ (was.standing k c at).0,
            is-placed (by_key here) was.nodes c.node.key (was.standing k c at).0
                ∙ (ap (λ (n : ℕ). kept_where (here n) (node_at was.nodes c.node.key)) (slot_is k c.node.key (h.base.keyed k c at))
                ∙ ap (λ (n : Node). kept_where (here k) n) (was.standing k c at).1),
          );
          in_slot = λ key has. was.in_slot key (sym (same-has (by_key here) was.nodes key) ∙ has);
        },
      )
    where
      drawn_in : Taken → ℕ
      drawn_in (Reading r) = r.drawn
      drawn_in x = 0

  -- ---- a node of a slot moves to its file, or is read back

  module _ (reader : Progress) (here : ℕ → Bool) (s : State) (k : ℕ) (c : Cell) (shows : ShowsPlaces told reader items views here s) (at : At items k (Standing c)) where
    abbrev key : VoxelKey
    key = c.node.key

    abbrev its : Node
    its = node_at s.nodes key

    has : has_node s.nodes key ≡ true
    has = (shows.standing k c at).0

    one_slot : (j : ℕ) (d : Cell) → At items j (Standing d) → d.node.key ≡ key → j ≡ k
    one_slot j d there same =
        h.tree.distinct j k key (subst (λ (w : VoxelKey). KeyOf h.keys j w) same (h.base.keyed j d there)) (h.base.keyed k c at)

    has_back : (there : Bool) (j : VoxelKey) → has_node (with_node s.nodes key (kept_where there its)) j ≡ true → has_node s.nodes j ≡ true
    unfolding has_node
    has_back there j now =
        let m = member-any (λ (e : Entry). same_key e.0 j) (with_node s.nodes key (kept_where there its)) now in
        elim (IsMember-with m.0 key (kept_where there its) s.nodes m.1) [
          | inl new ↦ subst (λ (w : VoxelKey). has_node s.nodes w ≡ true) (ap (λ (e : Entry). e.0) new ∙ same_key-true m.0.0 j m.2) has
          | inr old ↦ any-member (λ (e : Entry). same_key e.0 j) m.0 s.nodes old m.2
        ]

    stands : (there : Bool) (j : ℕ) (d : Cell) → At items j (Standing d) → (has_node (with_node s.nodes key (kept_where there its)) d.node.key ≡ true) × (node_at (with_node s.nodes key (kept_where there its)) d.node.key ≡ kept_where (but_at k there here j) (seen d.node))
    stands there j d a = (
      has_node-with s.nodes key (kept_where there its) d.node.key (shows.standing j d a).0,
      elim (same_or_not j k) [
        | inl same ↦
            let cells : d ≡ c = standing_same (at-same a (subst (λ (n : ℕ). At items n (Standing c)) (sym same) at)) in
            ap (λ (e : Cell). node_at (with_node s.nodes key (kept_where there its)) e.node.key) cells
            ∙ (node_at-here s.nodes key (kept_where there its)
            ∙ (ap (λ (n : Node). kept_where there n) (shows.standing k c at).1
            ∙ (ap (λ (b : Bool). kept_where (cond b there (here j)) (seen c.node)) (sym (eq-eqb j k same))
            ∙ ap (λ (e : Cell). kept_where (but_at k there here j) (seen e.node)) (sym cells))))
        | inr differ ↦
            node_at-other s.nodes key (kept_where there its) d.node.key (same_key-apart key d.node.key (λ same. differ (one_slot j d a (sym same))))
            ∙ ((shows.standing j d a).1
            ∙ ap (λ (b : Bool). kept_where (cond b there (here j)) (seen d.node)) (sym (ne_eqb j k differ)))
      ],
    )
      where
        cell_in : Taken → Cell
        cell_in (Standing e) = e
        cell_in x = c

        standing_same : ◌≡◌ {A = Taken} (Standing d) (Standing c) → d ≡ c
        standing_same e = ap cell_in e

    shows_moved : (event : Event) (there : Bool) → Step told.rules s event (moved key there s) → ShowsPlaces told reader items views (but_at k there here) (moved key there s)
    shows_moved event there step = record {
      law = step-keeps told.rules told.points s event (moved key there s) shows.law step;
      left = shows.left;
      flights = shows.flights;
      standing = stands there;
      in_slot = λ j now. shows.in_slot j (has_back there j now);
    }

    slot-evicts : here k ≡ true → (new : State) × Step told.rules s (Evict key) new × ShowsPlaces told reader items views (but_at k false here) new
    slot-evicts is =
        let step : Step told.rules s (Evict key) (moved key false s) = (has, ap (λ (n : Node). n.is_resident) (shows.standing k c at).1 ∙ is, refl) in
        (moved key false s, step, shows_moved (Evict key) false step)

    slot-reloads : here k ≡ false → (new : State) × Step told.rules s (Reload key) new × ShowsPlaces told reader items views (but_at k true here) new
    slot-reloads is =
        let step : Step told.rules s (Reload key) (moved key true s) = (has, ap (λ (n : Node). n.is_resident) (shows.standing k c at).1 ∙ is, refl) in
        (moved key true s, step, shows_moved (Reload key) true step)

-- ---- a node that is returned after a move

standing_as : (at : NodeState) (c : Cell) → (at ≡ states.Blank → ⊥) → taken_as at c ≡ Standing c
standing_as states.Blank c not = absurd (not refl)
standing_as states.Resident c not = refl
standing_as states.Spilled c not = refl
standing_as states.Broken c not = refl

-- if contents are visible, it shows what it showed
shows_same : (told : Told) (x y : Taken) → told.tells ≡ true → StaysAlike told x y → y ≡ x
shows_same told x y tells (inl same) = same
shows_same told x y tells (inr (c, d, was, is, alike)) = is ∙ (ap (λ (e : Cell). Standing e) (alike.exact tells) ∙ sym was)

-- what is stated of the slots of nodes holds of each list of places that agrees there
elsewhere : (told : Told) (reader : Progress) (items : List Taken) (views : List View) (here there : ℕ → Bool) (s : State) → ((k : ℕ) (c : Cell) → At items k (Standing c) → here k ≡ there k) → ShowsPlaces told reader items views here s → ShowsPlaces told reader items views there s
elsewhere told reader items views here there s same shows = record {
  law = shows.law;
  left = shows.left;
  flights = shows.flights;
  standing = λ k c at. (
    (shows.standing k c at).0,
    (shows.standing k c at).1 ∙ ap (λ (b : Bool). kept_where b (seen c.node)) (same k c at),
  );
  in_slot = shows.in_slot;
}

module _ {F S : Type 0} (held : F → Option (List ℕ)) (whole : S → Option (List ℕ)) (told : Told) (slots : List (Item F S)) (k : ℕ) (old new : node.Node F) (tells : told.tells ≡ true) (moved_is : IsMoved held told slots k old new) where
  abbrev see : Item F S → Taken
  see = item.seen held whole

  at_cell : At (map see slots) k (Standing (cell_of held old))
  at_cell = subst (λ (x : Taken). At (map see slots) k x) (standing_as (state_of old) (cell_of held old) moved_is.stands) (at-map see slots k (items.Node old) moved_is.at)

  same_slots : map see (set slots k (items.Node new)) ≡ map see slots
  same_slots =
      map-set see slots k (items.Node new)
      ∙ (ap (λ (x : Taken). set (map see slots) k x) (shows_same told (seen_node held old) (seen_node held new) tells moved_is.alike)
      ∙ set-again (at-map see slots k (items.Node old) moved_is.at))

  in_slot_is : (all : List (Item F S)) (j : ℕ) (x : Item F S) → At all j x → in_memory all j ≡ is_in_memory x
  in_slot_is all j x at = at-get false (at-map is_in_memory all j x at)

  was_here : in_memory slots k ≡ is_here old
  was_here = in_slot_is slots k (items.Node old) moved_is.at

  now_here : (there : Bool) → is_here new ≡ there → (j : ℕ) (c : Cell) → At (map see slots) j (Standing c) → but_at k there (in_memory slots) j ≡ in_memory (set slots k (items.Node new)) j
  now_here there is j c at =
      elim (same_or_not j k) [
        | inl same ↦
            ap (λ (b : Bool). cond b there (in_memory slots j)) (eq-eqb j k same)
            ∙ (sym is
            ∙ (sym (in_slot_is (set slots k (items.Node new)) k (items.Node new) (at-set slots k (items.Node new) (at-below moved_is.at)))
            ∙ ap (λ (n : ℕ). in_memory (set slots k (items.Node new)) n) (sym same)))
        | inr differ ↦
            let r = map-at see slots j (Standing c) at in
            ap (λ (b : Bool). cond b there (in_memory slots j)) (ne_eqb j k differ)
            ∙ (in_slot_is slots j r.0 r.1
            ∙ sym (in_slot_is (set slots k (items.Node new)) j r.0 (at-other k (items.Node new) r.1 differ)))
      ]

  abbrev ShowsNow : Progress → List View → State → Type 0
  ShowsNow reader views t = ShowsPlaces told reader (map see (set slots k (items.Node new))) views (in_memory (set slots k (items.Node new))) t

  now_shown : (reader : Progress) (views : List View) (there : Bool) (t : State) → is_here new ≡ there → ShowsPlaces told reader (map see slots) views (but_at k there (in_memory slots)) t → ShowsNow reader views t
  now_shown reader views there t is shows =
      subst (λ (xs : List Taken). ShowsPlaces told reader xs views (in_memory (set slots k (items.Node new))) t) (sym same_slots)
      (elsewhere told reader (map see slots) views (but_at k there (in_memory slots)) (in_memory (set slots k (items.Node new))) t (now_here there is) shows)

  module _ (drawn : ℕ) (reader : Progress) (views : List View) (s : State) (h : Holds told drawn (map see slots) views) (shows : ShowsPlaces told reader (map see slots) views (in_memory slots) s) where
    pub slots-evict : is_here old ≡ true → is_here new ≡ false → (t : State) × Step told.rules s (Evict (node_of held old).key) t × ShowsNow reader views t
    slots-evict was is =
        let r = slot-evicts told drawn (map see slots) views h reader (in_memory slots) s k (cell_of held old) shows at_cell (was_here ∙ was) in
        (r.0, r.1, now_shown reader views false r.0 is r.2)

    pub slots-reload : is_here old ≡ false → is_here new ≡ true → (t : State) × Step told.rules s (Reload (node_of held old).key) t × ShowsNow reader views t
    slots-reload was is =
        let r = slot-reloads told drawn (map see slots) views h reader (in_memory slots) s k (cell_of held old) shows at_cell (was_here ∙ was) in
        (r.0, r.1, now_shown reader views true r.0 is r.2)
