-- Nodes with their points in memory or in their files.
use Rattle.std.proofs.Common.{◌≡◌, ◌∙◌, ℕ, ◌≤◌, Bool, true, false, cond, ◌||◌, ◌⊎◌, inl, inr, List, [], ◌∷◌, ◌++◌, length, refl, sym, ap, subst, Ordering}
use Rattle.std.specs.declared.cmp.Ordering.TheVariants.{Less, Equal, Greater}
use Rattle.std.specs.Ordering.{match_ordering, is_lt}
use Rattle.std.specs.List.Sorted.{IsPermutation}
use Rattle.std.proofs.lemmas.Bool.{false≢true}
use Rattle.ept_point.specs.declared.point.Point.{Point}
use Rattle.ept_point.specs.Order.{IsAscending}
use Rattle.ept_space.specs.declared.cube.Rules.{Rules}
use Rattle.ept_space.specs.VoxelKey.{VoxelKey, root, child, same_key, key_cmp, AreAscending}
use Rattle.ept_space.proofs.Within.{same_key-true, same_key-same}
use Rattle.ept_sample.specs.Ids.{in_id_order}
use Rattle.ept_sample.specs.Arrivals.{loses, octant, losers}
use Rattle.ept_sample.specs.Members.{IsMember}
use Rattle.ept_sample.proofs.Members.{member-map}
use Rattle.ept_sample.proofs.Ascending.{IsRising, IsBeforeAll}
use Rattle.ept_sample.proofs.Choices.{not_both}
use Rattle.ept_sample.proofs.KeyOrder.{key_before, key_order, key-self, key-equal}
use Rattle.ept_core.specs.declared.flight.Flight.{Flight}
use Rattle.ept_core.specs.declared.node.Node.{Node}
use Rattle.ept_core.specs.declared.event.Event.TheVariants.{Arrive, Evict, Reload}
use Rattle.ept_core.specs.State.{State, Entry, blank, node_at, has_node, has_open, keys_of, flown, IsHeld}
use Rattle.ept_core.specs.Law.{HoldsMore, HasPoint, KeepsLaw}
use Rattle.ept_core.specs.Steps.{Step, Run, gathered, node_after, flights_after, arrived, moved, with_node}
use Rattle.ept_core.proofs.NodeMap.{same_key-apart, has_node-key, points_of}
use Rattle.ept_core.proofs.Held.{keys-rise}
use Rattle.ept_residency.specs.Places.{kept_where, placed_nodes, placed, but_for}
use Rattle.ept_residency.specs.PlaceLaws.{GoesTo}

-- ---- what is found at a key

-- the node of a key, if there is one, is the same except for its place; there is none if there was none
abbrev IsPlacedNode : (VoxelKey → Bool) → List Entry → VoxelKey → Type 0
IsPlacedNode here nodes j =
    ((has_node nodes j ≡ true) × (node_at (placed_nodes here nodes) j ≡ kept_where (here j) (node_at nodes j)))
    ⊎ ((has_node nodes j ≡ false) × (node_at (placed_nodes here nodes) j ≡ blank) × (node_at nodes j ≡ blank))

at_first : (e : Entry) (es : List Entry) (k : VoxelKey) (b : Bool) → same_key e.0 k ≡ b → (node_at (e ∷ es) k ≡ cond b e.1 (node_at es k)) × (has_node (e ∷ es) k ≡ (b || has_node es k))
unfolding node_at has_node
at_first e es k b is =
    (ap (λ (c : Bool). cond c e.1 (node_at es k)) is, ap (λ (c : Bool). c || has_node es k) is)

none_there : (here : VoxelKey → Bool) (j : VoxelKey) → IsPlacedNode here [] j
unfolding node_at has_node
none_there here j = inr (refl, refl, refl)

placed_step : (here : VoxelKey → Bool) (e : Entry) (es : List Entry) (j : VoxelKey) (b : Bool) → same_key e.0 j ≡ b → IsPlacedNode here es j → IsPlacedNode here (e ∷ es) j
placed_step here e es j true is more =
    let was = at_first e es j true is in
    let now = at_first (e.0, kept_where (here e.0) e.1) (placed_nodes here es) j true is in
    inl (was.1, now.0 ∙ (ap (λ (k : VoxelKey). kept_where (here k) e.1) (same_key-true e.0 j is) ∙ ap (λ (n : Node). kept_where (here j) n) (sym was.0)))
placed_step here e es j false is (inl more) =
    let was = at_first e es j false is in
    let now = at_first (e.0, kept_where (here e.0) e.1) (placed_nodes here es) j false is in
    inl (was.1 ∙ more.0, now.0 ∙ (more.1 ∙ ap (λ (n : Node). kept_where (here j) n) (sym was.0)))
placed_step here e es j false is (inr more) =
    let was = at_first e es j false is in
    let now = at_first (e.0, kept_where (here e.0) e.1) (placed_nodes here es) j false is in
    inr (was.1 ∙ more.0, now.0 ∙ more.1, was.0 ∙ more.2)

placed_node : (here : VoxelKey → Bool) (nodes : List Entry) (j : VoxelKey) → IsPlacedNode here nodes j
placed_node here [] j = none_there here j
placed_node here (e ∷ es) j = placed_step here e es j (same_key e.0 j) refl (placed_node here es j)

same_points : (here : VoxelKey → Bool) (nodes : List Entry) (j : VoxelKey) → (node_at (placed_nodes here nodes) j).points ≡ (node_at nodes j).points
same_points here nodes j =
    elim (placed_node here nodes j) [
      | inl there ↦ ap (λ (n : Node). n.points) there.1
      | inr none ↦ ap (λ (n : Node). n.points) (none.1 ∙ sym none.2)
    ]

open_as_kept : (here : Bool) (n : Node) (o : ℕ) → has_open (kept_where here n) o ≡ has_open n o
unfolding has_open
open_as_kept here n o = refl

same_open : (here : VoxelKey → Bool) (nodes : List Entry) (j : VoxelKey) (o : ℕ) → has_open (node_at (placed_nodes here nodes) j) o ≡ has_open (node_at nodes j) o
same_open here nodes j o =
    elim (placed_node here nodes j) [
      | inl there ↦ ap (λ (n : Node). has_open n o) there.1 ∙ open_as_kept (here j) (node_at nodes j) o
      | inr none ↦ ap (λ (n : Node). has_open n o) (none.1 ∙ sym none.2)
    ]

has_step : (here : VoxelKey → Bool) (e : Entry) (es : List Entry) (k : VoxelKey) → has_node (placed_nodes here es) k ≡ has_node es k → has_node (placed_nodes here (e ∷ es)) k ≡ has_node (e ∷ es) k
has_step here e es k more =
    (at_first (e.0, kept_where (here e.0) e.1) (placed_nodes here es) k (same_key e.0 k) refl).1
    ∙ (ap (λ (b : Bool). same_key e.0 k || b) more ∙ sym (at_first e es k (same_key e.0 k) refl).1)

none_either : (here : VoxelKey → Bool) (k : VoxelKey) → has_node (placed_nodes here []) k ≡ has_node [] k
none_either here k = refl

pub same-has : (here : VoxelKey → Bool) (nodes : List Entry) (k : VoxelKey) → has_node (placed_nodes here nodes) k ≡ has_node nodes k
same-has here [] k = none_either here k
same-has here (e ∷ es) k = has_step here e es k (same-has here es k)

same_keys : (here : VoxelKey → Bool) (nodes : List Entry) → keys_of (placed_nodes here nodes) ≡ keys_of nodes
same_keys here [] = refl
same_keys here (e ∷ es) = ap (λ (ks : List VoxelKey). e.0 ∷ ks) (same_keys here es)

same_all : (here : VoxelKey → Bool) (nodes : List Entry) → points_of (placed_nodes here nodes) ≡ points_of nodes
same_all here [] = refl
same_all here (e ∷ es) = ap (λ (ps : List Point). e.1.points ++ ps) (same_all here es)

-- ---- the law

module _ (rules : Rules) (points : List Point) (s : State) (here : VoxelKey → Bool) (law : KeepsLaw rules points s) where
  abbrev to : State
  to = placed here s

  to_held : (j : VoxelKey) (p : Point) → IsHeld s j p → IsHeld to j p
  to_held j p (inl m) = inl (subst (λ (w : List Point). IsMember p w) (sym (same_points here s.nodes j)) m)
  to_held j p (inr h) = inr h

  from_held : (j : VoxelKey) (p : Point) → IsHeld to j p → IsHeld s j p
  from_held j p (inl m) = inl (subst (λ (w : List Point). IsMember p w) (same_points here s.nodes j) m)
  from_held j p (inr h) = inr h

  more_held : (k : VoxelKey) → HoldsMore rules s k → HoldsMore rules to k
  more_held k (xs, once, all, more) =
      (xs, once, λ p m. (let h = all p m in (h.0, h.1, to_held h.0 p h.2)), more)

  some_points : (e : Entry) → IsMember e to.nodes → (e.0 ≡ root) ⊎ HasPoint e.1.points
  some_points e m =
      let was = member-map (λ (w : Entry). let x : Entry = (w.0, kept_where (here w.0) w.1) in x) e s.nodes m in
      subst (λ (w : Entry). (w.0 ≡ root) ⊎ HasPoint w.1.points) was.2 (law.tidy.has_points was.0 was.1)

  pub places-free : KeepsLaw rules points (placed here s)
  places-free = record {
    points_law = law.points_law;
    same_points = (
      law.same_points.0,
      record {
        suffix = law.same_points.1.suffix;
        held_once = subst (λ (w : List Point). IsPermutation law.same_points.0 (w ++ flown s.flights)) (sym (same_all here s.nodes)) law.same_points.1.held_once;
      },
    );
    placed = record {
      in_box = λ j p h. law.placed.in_box j p (from_held j p h);
      shallow = λ j p h. law.placed.shallow j p (from_held j p h);
    };
    passed = record {
      through_open = λ top j p h below. same_open here s.nodes top (octant rules top.depth p) ∙ law.passed.through_open top j p (from_held j p h) below;
      lost_above = λ top j p h below. ap (λ (w : List Point). loses rules top.depth w p) (same_points here s.nodes top) ∙ law.passed.lost_above top j p (from_held j p h) below;
    };
    settled = record {
      open_without_losers = λ k p m lost. same_open here s.nodes k (octant rules k.depth p) ∙ law.settled.open_without_losers k p (subst (λ (w : List Point). IsMember p w) (same_points here s.nodes k) m) (sym (ap (λ (w : List Point). loses rules k.depth w p) (same_points here s.nodes k)) ∙ lost);
      open_holds_more = λ k o low e. more_held (child k o) (law.settled.open_holds_more k o low (sym (same_open here s.nodes k o) ∙ e));
      closed_has_few = λ k o low above e. subst (λ (w : List Point). length (losers rules k.depth w o) ≤ rules.threshold) (sym (same_points here s.nodes k)) (law.settled.closed_has_few k o low above (sym (same_open here s.nodes k o) ∙ e));
    };
    bottom = λ k o low e. law.bottom k o low (sym (same_open here s.nodes k o) ∙ e);
    rooted = record { has_root = same-has here s.nodes root ∙ law.rooted.has_root; flying = law.rooted.flying };
    tidy = record {
      has_points = some_points;
      in_order = subst (λ (w : List VoxelKey). AreAscending w) (sym (same_keys here s.nodes)) law.tidy.in_order;
      points_in_order = λ k. subst (λ (w : List Point). IsAscending w) (sym (same_points here s.nodes k)) (law.tidy.points_in_order k);
    };
  }

-- ---- one node moves to its file, or is read back

but_here : (key : VoxelKey) (there : Bool) (here : VoxelKey → Bool) (k : VoxelKey) → k ≡ key → but_for key there here k ≡ there
but_here key there here k is = ap (λ (b : Bool). cond b there (here k)) (same_key-same key k (sym is))

but_other : (key : VoxelKey) (there : Bool) (here : VoxelKey → Bool) (k : VoxelKey) → (k ≡ key → ⊥) → but_for key there here k ≡ here k
but_other key there here k differ =
    ap (λ (b : Bool). cond b there (here k)) (same_key-apart key k (λ same. differ (sym same)))

-- nodes of other keys are where they were
others_stay : (key : VoxelKey) (there : Bool) (here : VoxelKey → Bool) (nodes : List Entry) → ((k : VoxelKey) → IsMember k (keys_of nodes) → k ≡ key → ⊥) → placed_nodes (but_for key there here) nodes ≡ placed_nodes here nodes
others_stay key there here [] differ = refl
others_stay key there here (e ∷ es) differ =
    ap (λ (b : Bool). (let x : Entry = (e.0, kept_where b e.1) in x) ∷ placed_nodes (but_for key there here) es) (but_other key there here e.0 (differ e.0 (inl refl)))
    ∙ ap (λ (ws : List Entry). (let x : Entry = (e.0, kept_where (here e.0) e.1) in x) ∷ ws) (others_stay key there here es (λ k m. differ k (inr m)))

before_differs : (k : VoxelKey) (ks : List VoxelKey) → IsBeforeAll key_before k ks → (j : VoxelKey) → IsMember j ks → j ≡ k → ⊥
before_differs k ks before j m same =
    not_both (key_before k j) (before j m) (subst (λ (w : VoxelKey). key_before k w ≡ false) (sym same) (key_order.none_itself k))

move_step : (key : VoxelKey) (there : Bool) (here : VoxelKey → Bool) (e : Entry) (es : List Entry) (o : Ordering) → key_cmp key e.0 ≡ o → has_node (e ∷ es) key ≡ true → IsRising key_before (keys_of (e ∷ es)) → (has_node es key ≡ true → placed_nodes (but_for key there here) es ≡ with_node (placed_nodes here es) key (kept_where there (node_at es key))) → placed_nodes (but_for key there here) (e ∷ es) ≡ match_ordering o ((key, kept_where there (node_at (e ∷ es) key)) ∷ placed_nodes here (e ∷ es)) ((e.0, kept_where there (node_at (e ∷ es) key)) ∷ placed_nodes here es) ((e.0, kept_where (here e.0) e.1) ∷ with_node (placed_nodes here es) key (kept_where there (node_at (e ∷ es) key)))
move_step key there here e es Equal is has up more =
    let same : e.0 ≡ key = sym (key-equal key e.0 is) in
    let at : node_at (e ∷ es) key ≡ e.1 = (at_first e es key true (same_key-same e.0 key same)).0 in
    ap (λ (b : Bool). (let x : Entry = (e.0, kept_where b e.1) in x) ∷ placed_nodes (but_for key there here) es) (but_here key there here e.0 same)
    ∙ (ap (λ (ws : List Entry). (let x : Entry = (e.0, kept_where there e.1) in x) ∷ ws) (others_stay key there here es (λ k m is_key. before_differs e.0 (keys_of es) up.0 k m (is_key ∙ sym same)))
    ∙ ap (λ (n : Node). (let x : Entry = (e.0, kept_where there n) in x) ∷ placed_nodes here es) (sym at))
move_step key there here e es Greater is has up more =
    let apart : e.0 ≡ key → ⊥ = λ same. (let both : Equal ≡ Greater = sym (key-self key) ∙ (ap (λ (w : VoxelKey). key_cmp key w) (sym same) ∙ is) in absurd (cc)) in
    let first = at_first e es key false (same_key-apart e.0 key apart) in
    ap (λ (b : Bool). (let x : Entry = (e.0, kept_where b e.1) in x) ∷ placed_nodes (but_for key there here) es) (but_other key there here e.0 apart)
    ∙ (ap (λ (ws : List Entry). (let x : Entry = (e.0, kept_where (here e.0) e.1) in x) ∷ ws) (more (sym first.1 ∙ has))
    ∙ ap (λ (n : Node). (let x : Entry = (e.0, kept_where (here e.0) e.1) in x) ∷ with_node (placed_nodes here es) key (kept_where there n)) (sym first.0))
move_step key there here e es Less is has up more =
    let m : IsMember key (keys_of (e ∷ es)) = has_node-key (e ∷ es) key has in
    absurd (not_both (key_before key key) (before key m) (key_order.none_itself key))
  where
    before : IsBeforeAll key_before key (keys_of (e ∷ es))
    before j (inl same) = ap is_lt (subst (λ (v : VoxelKey). key_cmp key v ≡ Less) same is)
    before j (inr m) = key_order.goes_on key e.0 j (ap is_lt is) (up.0 j m)

nothing_has : (k : VoxelKey) → has_node [] k ≡ true → ⊥
unfolding has_node
nothing_has k e = false≢true e

move_one : (key : VoxelKey) (there : Bool) (here : VoxelKey → Bool) (nodes : List Entry) → has_node nodes key ≡ true → IsRising key_before (keys_of nodes) → placed_nodes (but_for key there here) nodes ≡ with_node (placed_nodes here nodes) key (kept_where there (node_at nodes key))
move_one key there here [] has up = absurd (nothing_has key has)
move_one key there here (e ∷ es) has up =
    move_step key there here e es (key_cmp key e.0) refl has up (λ h. move_one key there here es h up.1)

-- the node of a key that is there
pub is-placed : (here : VoxelKey → Bool) (nodes : List Entry) (j : VoxelKey) → has_node nodes j ≡ true → node_at (placed_nodes here nodes) j ≡ kept_where (here j) (node_at nodes j)
is-placed here nodes j has =
    elim (placed_node here nodes j) [
      | inl there ↦ there.1
      | inr none ↦ absurd (not_both (has_node nodes j) has none.0)
    ]

module _ (rules : Rules) (points : List Point) (s : State) (here : VoxelKey → Bool) (key : VoxelKey) (law : KeepsLaw rules points s) (has : has_node s.nodes key ≡ true) where
  at_key : node_at (placed_nodes here s.nodes) key ≡ kept_where (here key) (node_at s.nodes key)
  at_key = is-placed here s.nodes key has

  one_moved : (there : Bool) → placed (but_for key there here) s ≡ moved key there (placed here s)
  one_moved there =
      ap (λ (ws : List Entry). let t : State = record { left = s.left; flights = s.flights; nodes = ws } in t)
      (move_one key there here s.nodes has (keys-rise rules points s law)
      ∙ ap (λ (n : Node). with_node (placed_nodes here s.nodes) key (kept_where there n)) (same_node there))
    where
      same_node : (b : Bool) → kept_where b (node_at s.nodes key) ≡ kept_where b (node_at (placed_nodes here s.nodes) key)
      same_node b = sym (ap (λ (n : Node). kept_where b n) at_key)

  pub goes : here key ≡ true → Step rules (placed here s) (Evict key) (placed (but_for key false here) s)
  goes is = (same-has here s.nodes key ∙ has, ap (λ (n : Node). n.is_resident) at_key ∙ is, one_moved false)

  pub comes-back : here key ≡ false → Step rules (placed here s) (Reload key) (placed (but_for key true here) s)
  comes-back is = (same-has here s.nodes key ∙ has, ap (λ (n : Node). n.is_resident) at_key ∙ is, one_moved true)

-- ---- a flight arrives

with_step : (here : VoxelKey → Bool) (k : VoxelKey) (n : Node) (e : Entry) (es : List Entry) (o : Ordering) → key_cmp k e.0 ≡ o → placed_nodes here (with_node es k n) ≡ with_node (placed_nodes here es) k (kept_where (here k) n) → placed_nodes here (match_ordering o ((k, n) ∷ e ∷ es) ((e.0, n) ∷ es) (e ∷ with_node es k n)) ≡ match_ordering o ((k, kept_where (here k) n) ∷ placed_nodes here (e ∷ es)) ((e.0, kept_where (here k) n) ∷ placed_nodes here es) ((e.0, kept_where (here e.0) e.1) ∷ with_node (placed_nodes here es) k (kept_where (here k) n))
with_step here k n e es Less is more = refl
with_step here k n e es Equal is more =
    ap (λ (j : VoxelKey). (let x : Entry = (e.0, kept_where (here j) n) in x) ∷ placed_nodes here es) (sym (key-equal k e.0 is))
with_step here k n e es Greater is more =
    ap (λ (ws : List Entry). (let x : Entry = (e.0, kept_where (here e.0) e.1) in x) ∷ ws) more

placed_with : (here : VoxelKey → Bool) (nodes : List Entry) (k : VoxelKey) (n : Node) → placed_nodes here (with_node nodes k n) ≡ with_node (placed_nodes here nodes) k (kept_where (here k) n)
placed_with here [] k n = refl
placed_with here (e ∷ es) k n = with_step here k n e es (key_cmp k e.0) refl (placed_with here es k n)

after_kept : (rules : Rules) (key : VoxelKey) (here : Bool) (n : Node) (given : List Point) → node_after rules key (kept_where here n) given ≡ node_after rules key n given
unfolding node_after has_open
after_kept rules key here n given = refl

flights_kept : (actor : ℕ) (rules : Rules) (key : VoxelKey) (here : Bool) (n : Node) (given : List Point) → flights_after actor rules key (kept_where here n) given ≡ flights_after actor rules key n given
unfolding flights_after has_open
flights_kept actor rules key here n given = refl

stays_here : (rules : Rules) (key : VoxelKey) (n : Node) (given : List Point) → kept_where true (node_after rules key n given) ≡ node_after rules key n given
unfolding node_after
stays_here rules key n given = refl

module _ (rules : Rules) (old : State) (here : VoxelKey → Bool) (f : Flight) (is : here f.key ≡ true) where
  abbrev was : Node
  was = node_at old.nodes f.key

  abbrev now : Node
  now = node_at (placed_nodes here old.nodes) f.key

  same_given : gathered (placed_nodes here old.nodes) f ≡ gathered old.nodes f
  unfolding gathered
  same_given = ap (λ (ps : List Point). in_id_order (f.points ++ ps)) (same_points here old.nodes f.key)

  same_after : (given : List Point) → node_after rules f.key now given ≡ node_after rules f.key was given
  same_after given =
      elim (placed_node here old.nodes f.key) [
        | inl there ↦ ap (λ (n : Node). node_after rules f.key n given) there.1 ∙ after_kept rules f.key (here f.key) was given
        | inr none ↦ ap (λ (n : Node). node_after rules f.key n given) (none.1 ∙ sym none.2)
      ]

  same_flights : (given : List Point) → flights_after f.actor rules f.key now given ≡ flights_after f.actor rules f.key was given
  same_flights given =
      elim (placed_node here old.nodes f.key) [
        | inl there ↦ ap (λ (n : Node). flights_after f.actor rules f.key n given) there.1 ∙ flights_kept f.actor rules f.key (here f.key) was given
        | inr none ↦ ap (λ (n : Node). flights_after f.actor rules f.key n given) (none.1 ∙ sym none.2)
      ]

  is_here : now.is_resident ≡ true
  is_here =
      elim (placed_node here old.nodes f.key) [
        | inl there ↦ ap (λ (n : Node). n.is_resident) there.1 ∙ is
        | inr none ↦ ap (λ (n : Node). n.is_resident) none.1
      ]

  node_stays : kept_where (here f.key) (node_after rules f.key was (gathered old.nodes f)) ≡ node_after rules f.key now (gathered (placed_nodes here old.nodes) f)
  node_stays =
      ap (λ (b : Bool). kept_where b (node_after rules f.key was (gathered old.nodes f))) is
      ∙ (stays_here rules f.key was (gathered old.nodes f)
      ∙ (sym (same_after (gathered old.nodes f))
      ∙ ap (λ (ps : List Point). node_after rules f.key now ps) (sym same_given)))

  flights_stay : flights_after f.actor rules f.key was (gathered old.nodes f) ≡ flights_after f.actor rules f.key now (gathered (placed_nodes here old.nodes) f)
  flights_stay =
      sym (same_flights (gathered old.nodes f)) ∙ ap (λ (ps : List Point). flights_after f.actor rules f.key now ps) (sym same_given)

  arrived_placed : (others : List Flight) → placed here (arrived rules f others old) ≡ arrived rules f others (placed here old)
  arrived_placed others =
      ap (λ (fs : List Flight). let t : State = record { left = old.left; flights = others ++ fs; nodes = placed_nodes here (arrived rules f others old).nodes } in t) flights_stay
      ∙ ap (λ (ws : List Entry). let t : State = record { left = old.left; flights = (arrived rules f others (placed here old)).flights; nodes = ws } in t) (placed_with here old.nodes f.key (node_after rules f.key was (gathered old.nodes f)) ∙ ap (λ (n : Node). with_node (placed_nodes here old.nodes) f.key n) node_stays)

pub flights-arrive : (rules : Rules) (old new : State) (here : VoxelKey → Bool) (actor number : ℕ) (key : VoxelKey) → GoesTo old actor number key → here key ≡ true → Step rules old (Arrive actor number) new → Step rules (placed here old) (Arrive actor number) (placed here new)
flights-arrive rules old new here actor number key goes is (front, f, back, flight, resident, after) =
    let at : here f.key ≡ true = ap here (goes front f back flight) ∙ is in
    (front, f, back, flight, is_here rules old here f at, ap (λ (s : State). placed here s) after ∙ arrived_placed rules old here f at (front ++ back))

pub flights-bring-back : (rules : Rules) (points : List Point) (old new : State) (here : VoxelKey → Bool) (actor number : ℕ) (key : VoxelKey) → KeepsLaw rules points old → GoesTo old actor number key → has_node old.nodes key ≡ true → here key ≡ false → Step rules old (Arrive actor number) new → Run rules (placed here old) (Reload key ∷ Arrive actor number ∷ []) (placed (but_for key true here) new)
flights-bring-back rules points old new here actor number key law goes has is step =
    (placed (but_for key true here) old, comes-back rules points old here key law has is, (placed (but_for key true here) new, flights-arrive rules old new (but_for key true here) actor number key goes (but_here key true here key refl) step, refl))
