-- A node is put into a slot.
use Rattle.std.proofs.Common.{◌≡◌, ◌∙◌, ℕ, zero, suc, ◌-◌, ◌+◌, ◌<◌, ◌≤◌, Bool, true, false, cond, ◌&&◌, ◌==◌, inl, inr, List, [], ◌∷◌, map, length, take, set, refl, sym, ap, subst, arith, Option, Some, None, Ordering, Result, Ok, Err, sum_by}
use Rattle.std.specs.Prelude.{is_some, is_ok, OnOk, OnErr, slice_get, min, ◌^◌, if◌then◌else◌}
use Rattle.std.specs.declared.cmp.Ordering.TheVariants.{Less, Equal, Greater}
use Rattle.std.specs.Ordering.{match_ordering, is_eq}
use Rattle.std.specs.BTreeMap.{is_at, insert_entry}
use Rattle.std.specs.Map.{remove_entry}
use Rattle.std.proofs.lemmas.Bool.{false≢true}
use Rattle.std.proofs.lemmas.List.{append-nil, get_or-set_same, get_or-set_other, take-set-le, length-set}
use Rattle.std.proofs.lemmas.List.Sums.{sum_by-cons}
use Rattle.ept_point.specs.declared.point.Point.{Point}
use Rattle.ept_space.specs.declared.cube.Rules.{Rules}
use Rattle.ept_space.specs.VoxelKey.{VoxelKey, root, same_key, key_cmp, AreAscending}
use Rattle.ept_sample.specs.Members.{IsMember}
use Rattle.ept_sample.proofs.KeyOrder.{key-self, IsRising-AllPairs}
use Rattle.ept_sample.proofs.Members.{IsMember-map}
use Rattle.ept_grid.specs.Node as grid
use Rattle.ept_grid.specs.Node.{is_open_in}
use Rattle.ept_grid.specs.Tile.{IsTile}
use Rattle.ept_node.specs.declared.node.Node as node
use Rattle.ept_node.specs.declared.state.NodeState.{NodeState}
use Rattle.ept_node.specs.declared.state.NodeState.TheVariants as states
use Rattle.ept_node.specs.Shown.{node_of, state_of}
use Rattle.ept_table.specs.At.{At}
use Rattle.ept_table.specs.Octree.{Branch, points_in}
use Rattle.ept_table.proofs.Lists.{at-next, at-zero, at-get, at-below, set-again, same_or_not}
use Rattle.ept_table.proofs.Glue.{at-map, map-set}
use Rattle.ept_octree.specs.Index.{Site, named, in_slot, in_slots, node_or, branch_at, branches, count_in, slot_of, node_in, key_seen, IsSoundBy, AreSites, IsIndex}
use Rattle.ept_octree.specs.Adding.{filled}
use Rattle.ept_octree.proofs.Sites.{seen-some, slot-member, member-slot, next-site, branches-put, branches-same}
use Rattle.ept_octree.proofs.Rooting.{never-open}

-- ---- small facts

pub either-way : {E : Type 0} (r : Result (Unit {0}) E) (P Q R : Type 0) → OnOk r P → OnErr r Q → (P → R) → (Q → R) → R
either-way (Ok u) P Q R p q ok err = ok p
either-way (Err e) P Q R p q ok err = err q

pub on-ok : {E : Type 0} (r : Result (Unit {0}) E) (P Q : Type 0) → OnOk r P → (P → Q) → OnOk r Q
on-ok (Ok u) P Q p more = more p
on-ok (Err e) P Q p more = tt

pub both-ok : {E : Type 0} (r : Result (Unit {0}) E) (P Q : Type 0) → OnOk r P → OnOk r Q → OnOk r (P × Q)
both-ok (Ok u) P Q p q = (p, q)
both-ok (Err e) P Q p q = tt

pub on-err : {E : Type 0} (r : Result (Unit {0}) E) (P Q : Type 0) → OnErr r P → (P → Q) → OnErr r Q
on-err (Ok u) P Q p more = tt
on-err (Err e) P Q p more = more p

-- the same refusal of another call
pub err-same : {T U E : Type 0} (a b : E) → (let r : Result T E = Err a in r) ≡ Err b → (let r : Result U E = Err a in r) ≡ Err b
err-same {T} {U} {E} a b is = ap (λ (e : E). let r : Result U E = Err e in r) (ap from is)
  where
    from : Result T E → E
    from (Ok v) = a
    from (Err e) = e

-- a slot is drawn, since one is left
pub next-used : {X E : Type 0} (r : Result X E) (used drawn long : ℕ) → drawn ≡ used + (if is_ok r then 1 else 0) → OnErr r (min long (2 ^ 32 - 1) ≤ used) → used < long → used < 2 ^ 32 - 1 → suc used ≡ drawn
next-used (Ok x) used drawn long is full room small = omega (arith, is)
next-used (Err e) used drawn long is full room small = absurd (omega (arith, full, room, small))

pub slice-at : {X : Type 0} (xs : List X) (k : ℕ) (x : X) → slice_get xs k ≡ Some x → At xs k x
slice-at [] k x is = absurd (cc)
slice-at {X} (y ∷ ys) zero x is = subst (λ (z : X). At (y ∷ ys) 0 z) (some_same y x is) (at-zero y ys)
  where
    some_same : (a b : X) → Some a ≡ Some b → a ≡ b
    some_same a b e = ap from e
      where
        from : Option X → X
        from (Some z) = z
        from None = a
slice-at (y ∷ ys) (suc k) x is = at-next y ys k x (slice-at ys k x is)

pub some-node : {g h : grid.Node} → Some g ≡ Some h → g ≡ h
some-node {g} {h} e = ap from e
  where
    from : Option grid.Node → grid.Node
    from (Some z) = z
    from None = g

pub named-some : (s : NodeState) (g h : grid.Node) → named s g ≡ Some h → (s ≡ states.Blank → ⊥) × (g ≡ h)
named-some states.Blank g h is = absurd (cc)
named-some states.Resident g h is = ((λ e. cc), some-node is)
named-some states.Spilled g h is = ((λ e. cc), some-node is)
named-some states.Broken g h is = ((λ e. cc), some-node is)

pub named-none : (s : NodeState) (g : grid.Node) → is_some (named s g) ≡ false → s ≡ states.Blank
named-none states.Blank g is = refl
named-none states.Resident g is = absurd (false≢true (sym is))
named-none states.Spilled g is = absurd (false≢true (sym is))
named-none states.Broken g is = absurd (false≢true (sym is))

pub none-is : (x : Option grid.Node) → is_some x ≡ false → x ≡ None
none-is None is = refl
none-is (Some g) is = absurd (false≢true (sym is))

pub some-is : (x : Option grid.Node) → is_some x ≡ true → (g : grid.Node) × (x ≡ Some g)
some-is None is = absurd (false≢true is)
some-is (Some g) is = (g, refl)

pub none-or : (x : Option ℕ) → ((k : ℕ) → x ≡ Some k → ⊥) → x ≡ None
none-or None never = refl
none-or (Some k) never = absurd (never k refl)

-- ---- whether a key is the root's

grouped : (p q r s : Bool) → ((p && q) && r) && s ≡ p && (q && (r && s))
grouped true true r s = refl
grouped true false r s = refl
grouped false q r s = refl

pub root-test : (key : VoxelKey) (b c : Bool) → b ≡ (key.depth == 0) && ((key.x == 0) && ((key.y == 0) && (key.z == 0))) → b ≡ c → same_key key root ≡ c
root-test key b c is now =
    grouped (key.depth == 0) (key.x == 0) (key.y == 0) (key.z == 0) ∙ (sym is ∙ now)

-- ---- a node of the forest and its slot

module _ {F : Type 0} (held : F → Option (List ℕ)) (ns : List (node.Node F)) (k : ℕ) (n : node.Node F) (at : At ns k n) where
  pub its-slot : node_in (in_slots held ns) (suc k) ≡ in_slot held n
  its-slot = at-get None (at-map (in_slot held) ns k n at)

  pub put-in : (m : node.Node F) → in_slots held (set ns k m) ≡ set (in_slots held ns) (suc k) (in_slot held m)
  put-in m = ap (λ (xs : List (Option grid.Node)). None ∷ xs) (map-set (in_slot held) ns k m)

  pub same-in : (m : node.Node F) → in_slot held m ≡ in_slot held n → in_slots held (set ns k m) ≡ in_slots held ns
  same-in m same =
      put-in m
      ∙ (ap (λ (x : Option grid.Node). set (in_slots held ns) (suc k) x) same
      ∙ set-again (at-next None (map (in_slot held) ns) k (in_slot held n) (at-map (in_slot held) ns k n at)))

module _ {F : Type 0} (ns : List (node.Node F)) (k : ℕ) (n : node.Node F) (at : At ns k n) where
  pub long-in : k < length ns
  long-in = at-below at

  -- its file stays
  pub same-file : {Y : Type 0} (f : node.Node F → Y) (m : node.Node F) → f m ≡ f n → map f (set ns k m) ≡ map f ns
  same-file {Y} f m same =
      map-set f ns k m ∙ (ap (λ (y : Y). set (map f ns) k y) same ∙ set-again (at-map f ns k n at))

pub length-in : {F : Type 0} (held : F → Option (List ℕ)) (ns : List (node.Node F)) → length (in_slots held ns) ≡ suc (length ns)
length-in {F} held ns = ap suc (all ns)
  where
    all : (ms : List (node.Node F)) → length (map (in_slot held) ms) ≡ length ms
    all [] = refl
    all (m ∷ ms) = ap suc (all ms)

-- the node of a slot that is used
module _ {F : Type 0} (held : F → Option (List ℕ)) (rules : Rules) (used : ℕ) (ns : List (node.Node F)) (sites : List Site) (index : IsIndex rules used (in_slots held ns) sites) (k : ℕ) (n : node.Node F) (at : At ns k n) (low : k < used) where
  pub its-node : (g : grid.Node) × (node_in (in_slots held ns) (suc k) ≡ Some g) × (state_of n ≡ states.Blank → ⊥) × (node_of held n ≡ g)
  its-node =
      let g = some-is (node_in (in_slots held ns) (suc k)) (index.filled (suc k) (omega arith) (omega (arith, low))) in
      let shown = named-some (state_of n) (node_of held n) g.0 (sym (its-slot held ns k n at) ∙ g.1) in
      (g.0, g.1, shown.0, shown.1)

-- ---- a tile is sound

pub sound-filled : (key : VoxelKey) (rules : Rules) (mask : ℕ) (points : List Point) → IsTile key rules mask points → key.depth ≤ rules.cube.depth → IsSoundBy rules (filled key rules mask points)
sound-filled key rules mask points tile low = record {
  rules = refl;
  low = low;
  inside = tile.inside;
  deepest = λ o small is. above (λ e. never-open key rules o small (ap (λ (m : ℕ). is_open_in (filled key rules m points) o) (sym (tile.not_deep e)) ∙ is));
}
  where
    above : (key.depth ≡ rules.cube.depth → ⊥) → key.depth < rules.cube.depth
    above apart = omega (arith, apart, low)

-- ---- a slot that is not used yet

module _ (rules : Rules) (used : ℕ) (slots : List (Option grid.Node)) (sites : List Site) (index : IsIndex rules used slots sites) where
  rising : (s : Site) → IsMember s sites → slot_of sites s.0 ≡ Some s.1
  rising s m = member-slot sites s (IsRising-AllPairs (map (λ (s : Site). s.0) sites) index.are.ascend) m

  -- no node has the key
  pub free-slot : (key : VoxelKey) → ((b : Branch) → IsMember b (branches slots sites) → b.0 ≡ key → ⊥) → slot_of sites key ≡ None
  free-slot key free =
      none-or (slot_of sites key) (λ k is. free (branch_at slots (key, k)) (IsMember-map (branch_at slots) (key, k) sites (slot-member sites key k is)) refl)

  -- the root has a slot
  pub root-there : ((b : Branch) → IsMember b (branches slots sites) → b.0 ≡ root → ⊥) → ⊥
  root-there free =
      free (branch_at slots (root, 1)) (IsMember-map (branch_at slots) (root, 1) sites (slot-member sites root 1 index.rooted)) refl

  pub none-below : (k : ℕ) → used < k → node_in slots k ≡ None
  none-below k low = none-is (node_in slots k) (index.blank k low)

  module _ (after : List Site) (h : grid.Node) (room : suc used < length slots) (free : slot_of sites h.key ≡ None) (sound : IsSoundBy rules h) (put : after ≡ insert_entry key_cmp sites h.key (suc used)) (finds : (q : VoxelKey) → slot_of after q ≡ cond (is_at (key_cmp h.key) q) (Some (suc used)) (slot_of sites q)) (ascend : AreAscending (map (λ (s : Site). s.0) after)) where
    abbrev now : List (Option grid.Node)
    now = set slots (suc used) (Some h)

    here : node_in now (suc used) ≡ Some h
    here = get_or-set_same slots (suc used) (Some h) None room

    there : (k : ℕ) → (k ≡ suc used → ⊥) → node_in now k ≡ node_in slots k
    there k apart = get_or-set_other slots (suc used) k (Some h) None apart

    low_site : (s : Site) → IsMember s sites → node_in now s.1 ≡ node_in slots s.1
    low_site s m =
        let r = index.are.stands s.0 s.1 (rising s m) in there s.1 (λ e. omega (arith, e, r.2))

    same_branches : branches now sites ≡ branches slots sites
    same_branches = branches-same slots now sites low_site

    as_before : AreSites used now sites
    as_before = record {
      many = index.are.many;
      ascend = index.are.ascend;
      stands = λ key k is. (let r = index.are.stands key k is in (ap key_seen (there k (λ e. omega (arith, e, r.2))) ∙ r.0, r.1, r.2));
      listed = λ key k some low is. index.are.listed key k some low (sym (ap key_seen (there k (λ e. omega (arith, e, low)))) ∙ is);
      together = ap (λ (w : List Branch). length (points_in w)) same_branches ∙ (index.are.together ∙ ap (λ (w : List (Option grid.Node)). sum_by count_in w) (sym (take-set-le (suc used) slots (suc used) (Some h) (omega arith))));
    }

    long : length now ≡ length slots
    long = length-set slots (suc used) (Some h)

    are : AreSites (suc used) now after
    are =
        next-site used now sites after h as_before here (omega (arith, long, room)) free put finds ascend

    -- a place that was there, or the new one
    each : (P : ℕ → Type 0) → P (suc used) → ((k : ℕ) → (k ≡ suc used → ⊥) → P k) → (k : ℕ) → P k
    each P mine others k =
        elim (same_or_not k (suc used)) [
          | inl same ↦ subst (λ (n : ℕ). P n) (sym same) mine
          | inr apart ↦ others k apart
        ]

    pub index-more : IsIndex rules (suc used) now after
    index-more = record {
      are = are;
      low = omega (arith, long, room);
      rooted = are.listed root 1 (omega arith) (omega arith) (root_seen (index.are.stands root 1 index.rooted));
      filled = each (λ k. 0 < k → k ≤ suc used → is_some (node_in now k) ≡ true) (λ some low. ap (λ (x : Option grid.Node). is_some x) here) (λ k apart some low. ap (λ (x : Option grid.Node). is_some x) (there k apart) ∙ index.filled k some (omega (arith, low, apart)));
      blank = λ k low. ap (λ (x : Option grid.Node). is_some x) (there k (λ e. omega (arith, e, low))) ∙ index.blank k (omega (arith, low));
      sound = each (λ k. (g : grid.Node) → node_in now k ≡ Some g → IsSoundBy rules g) (λ g is. subst (λ (z : grid.Node). IsSoundBy rules z) (some-node (sym here ∙ is)) sound) (λ k apart g is. index.sound k g (sym (there k apart) ∙ is));
    }
      where
        root_seen : (key_seen (node_in slots 1) ≡ Some root) × (0 < 1) × (1 ≤ used) → key_seen (node_in now 1) ≡ Some root
        root_seen r = ap key_seen (there 1 (λ e. omega (arith, e, r.2))) ∙ r.0

    pub branches-more : branches now after ≡ insert_entry key_cmp (branches slots sites) h.key h
    branches-more =
        ap (λ (w : List Site). branches now w) put
        ∙ (branches-put now sites h.key (suc used)
        ∙ (ap (λ (w : List Branch). insert_entry key_cmp w h.key (node_or (node_in now (suc used)))) same_branches
        ∙ ap (λ (x : Option grid.Node). insert_entry key_cmp (branches slots sites) h.key (node_or x)) here))

-- ---- a site is taken out again

remove_step : (key : VoxelKey) (k : ℕ) (s : Site) (sites : List Site) (o : Ordering) → key_cmp key s.0 ≡ o → cond (is_eq o) (Some s.1) (slot_of sites key) ≡ None → (slot_of sites key ≡ None → remove_entry (is_at (key_cmp key)) (insert_entry key_cmp sites key k) ≡ sites) → remove_entry (is_at (key_cmp key)) (match_ordering o ((key, k) ∷ s ∷ sites) ((s.0, k) ∷ sites) (s ∷ insert_entry key_cmp sites key k)) ≡ s ∷ sites
remove_step key k s sites Less at none more =
    ap (λ (o : Ordering). cond (is_eq o) (s ∷ sites) ((key, k) ∷ remove_entry (is_at (key_cmp key)) (s ∷ sites))) (key-self key)
remove_step key k s sites Equal at none more = absurd (cc)
remove_step key k s sites Greater at none more =
    ap (λ (o : Ordering). cond (is_eq o) (insert_entry key_cmp sites key k) (s ∷ remove_entry (is_at (key_cmp key)) (insert_entry key_cmp sites key k))) at
    ∙ ap (λ (w : List Site). s ∷ w) (more none)

pub put-removed : (sites : List Site) (key : VoxelKey) (k : ℕ) → slot_of sites key ≡ None → remove_entry (is_at (key_cmp key)) (insert_entry key_cmp sites key k) ≡ sites
put-removed [] key k none =
    let only : List Site = (key, k) ∷ [] in
    ap (λ (o : Ordering). cond (is_eq o) [] ((key, k) ∷ [])) (key-self key)
put-removed (s ∷ sites) key k none =
    remove_step key k s sites (key_cmp key s.0) refl none (put-removed sites key k)

-- ---- the root, without points

module _ (rules : Rules) (used : ℕ) (slots : List (Option grid.Node)) (sites : List Site) (index : IsIndex rules used slots sites) (g : grid.Node) (alone : branches slots sites ≡ (let b : Branch = (root, g) in b) ∷ []) (empty : g.points ≡ []) where
  one_site : (ss : List Site) → length ss ≡ 1 → slot_of ss root ≡ Some 1 → ss ≡ (let s : Site = (root, 1) in s) ∷ []
  one_site [] long is = absurd (omega (arith, long))
  one_site (s ∷ t ∷ ss) long is = absurd (omega (arith, long))
  one_site (s ∷ []) long is =
      elim (slot-member (s ∷ []) root 1 is) [
        | inl same ↦ ap (λ (z : Site). z ∷ []) same
        | inr none ↦ absurd none
      ]

  pub root-site : sites ≡ (let s : Site = (root, 1) in s) ∷ []
  root-site =
      one_site sites (sym (length_all sites) ∙ ap (λ (w : List Branch). length w) alone) index.rooted
    where
      length_all : (ss : List Site) → length (map (branch_at slots) ss) ≡ length ss
      length_all [] = refl
      length_all (s ∷ ss) = ap suc (length_all ss)

  pub root-used : used ≡ 1
  root-used = sym index.are.many ∙ ap (λ (w : List Site). length w) root-site

  -- the node of slot 1
  pub root-node : (h : grid.Node) × (node_in slots 1 ≡ Some h) × (h.key ≡ root) × (h.rules ≡ rules) × (h.points ≡ [])
  root-node =
      let r = seen-some (node_in slots 1) root (index.are.stands root 1 index.rooted).0 in
      let only : branches slots ((let s : Site = (root, 1) in s) ∷ []) ≡ (let b : Branch = (root, g) in b) ∷ [] = ap (λ (w : List Site). branches slots w) (sym root-site) ∙ alone in
      let points : (node_or (node_in slots 1)).points ≡ g.points = ap (λ (w : List Branch). points_of_first w) only in
      (r.0, r.1, r.2, (index.sound 1 r.0 r.1).rules, sym (ap (λ (x : Option grid.Node). (node_or x).points) r.1) ∙ (points ∙ empty))
    where
      points_of_first : List Branch → List Point
      points_of_first [] = []
      points_of_first (b ∷ bs) = b.1.points

  module _ (h : grid.Node) (key : h.key ≡ root) (sound : IsSoundBy rules h) (rest : List (Option grid.Node)) (are : slots ≡ None ∷ rest) where
    abbrev anew : List (Option grid.Node)
    anew = set slots 1 (Some h)

    seated : node_in anew 1 ≡ Some h
    seated = get_or-set_same slots 1 (Some h) None (omega (arith, index.low, root-used))

    beside : (k : ℕ) → (k ≡ 1 → ⊥) → node_in anew k ≡ node_in slots k
    beside k apart = get_or-set_other slots 1 k (Some h) None apart

    first : node_in anew 0 ≡ None
    first = beside 0 (λ e. omega (arith, e)) ∙ ap (λ (w : List (Option grid.Node)). node_in w 0) are

    only_one : (q : VoxelKey) (k : ℕ) → slot_of sites q ≡ Some k → (root ≡ q) × (1 ≡ k)
    only_one q k is =
        elim (subst (λ (ss : List Site). IsMember (let s : Site = (q, k) in s) ss) root-site (slot-member sites q k is)) [
          | inl same ↦ (ap (λ (s : Site). s.0) same, ap (λ (s : Site). s.1) same)
          | inr none ↦ absurd none
        ]

    listed_so : (q : VoxelKey) (k : ℕ) → 0 < k → k ≤ used → key_seen (node_in anew k) ≡ Some q → slot_of sites q ≡ Some k
    listed_so q k some low is =
        let one : k ≡ 1 = omega (arith, some, low, root-used) in
        let r = seen-some (Some h) q (ap key_seen (sym seated) ∙ (ap (λ (n : ℕ). key_seen (node_in anew n)) (sym one) ∙ is)) in
        let its : root ≡ q = sym key ∙ (ap (λ (x : Option grid.Node). (node_or x).key) r.1 ∙ r.2) in
        subst (λ (j : VoxelKey). slot_of sites j ≡ Some k) its (index.rooted ∙ ap Some (sym one))

    together : length (points_in (branches anew sites)) ≡ sum_by count_in (take (suc used) anew)
    together =
        subst (λ (n : ℕ). length (points_in (branches anew sites)) ≡ sum_by count_in (take (suc n) anew)) (sym root-used) (subst (λ (ss : List Site). length (points_in (branches anew ss)) ≡ sum_by count_in (take 2 anew)) (sym root-site) (two anew seated first (omega (arith, length-set slots 1 (Some h), index.low, root-used))))
      where
        two : (xs : List (Option grid.Node)) → node_in xs 1 ≡ Some h → node_in xs 0 ≡ None → 1 < length xs → length (points_in (branches xs ((let s : Site = (root, 1) in s) ∷ []))) ≡ sum_by count_in (take 2 xs)
        two [] one nothing low = absurd (omega (arith, low))
        two (x ∷ []) one nothing low = absurd (omega (arith, low))
        two (x ∷ y ∷ xs) one nothing low =
            let none : count_in x ≡ 0 = ap count_in nothing in
            let list : length (points_in (branches (x ∷ y ∷ xs) ((let s : Site = (root, 1) in s) ∷ []))) ≡ count_in y = ap (λ (w : List Point). length w) (append-nil (node_or y).points) in
            let sum : sum_by count_in (take 2 (x ∷ y ∷ xs)) ≡ count_in x + sum_by count_in (y ∷ []) = sum_by-cons count_in x (y ∷ []) in
            let last : sum_by count_in (y ∷ []) ≡ count_in y + 0 = sum_by-cons count_in y [] in
            omega (arith, none, list, sum, last)

    every : (P : ℕ → Type 0) → P 1 → ((k : ℕ) → (k ≡ 1 → ⊥) → P k) → (k : ℕ) → P k
    every P mine others k =
        elim (same_or_not k 1) [ inl same ↦ subst (λ (n : ℕ). P n) (sym same) mine | inr apart ↦ others k apart ]

    pub index-root : IsIndex rules used anew sites
    index-root = record {
      are = record {
        many = index.are.many;
        ascend = index.are.ascend;
        stands = λ q k is. (
            let one = only_one q k is in
            let low = index.are.stands q k is in
            (ap (λ (n : ℕ). key_seen (node_in anew n)) (sym one.1) ∙ (ap key_seen seated ∙ ap Some (key ∙ one.0)), low.1, low.2));
        listed = listed_so;
        together = together;
      };
      low = omega (arith, length-set slots 1 (Some h), index.low);
      rooted = index.rooted;
      filled = every (λ k. 0 < k → k ≤ used → is_some (node_in anew k) ≡ true) (λ some low. ap (λ (x : Option grid.Node). is_some x) seated) (λ k apart some low. ap (λ (x : Option grid.Node). is_some x) (beside k apart) ∙ index.filled k some low);
      blank = λ k low. ap (λ (x : Option grid.Node). is_some x) (beside k (λ e. omega (arith, e, low, root-used))) ∙ index.blank k low;
      sound = every (λ k. (z : grid.Node) → node_in anew k ≡ Some z → IsSoundBy rules z) (λ z is. subst (λ (w : grid.Node). IsSoundBy rules w) (some-node (sym seated ∙ is)) sound) (λ k apart z is. index.sound k z (sym (beside k apart) ∙ is));
    }

    pub branches-root : branches anew sites ≡ insert_entry key_cmp (branches slots sites) root h
    branches-root =
        ap (λ (ss : List Site). branches anew ss) root-site
        ∙ (ap (λ (x : Option grid.Node). (let b : Branch = (root, node_or x) in b) ∷ []) seated
        ∙ sym (ap (λ (w : List Branch). insert_entry key_cmp w root h) alone ∙ ap (λ (o : Ordering). match_ordering o ((root, h) ∷ (root, g) ∷ []) ((root, h) ∷ []) ((root, g) ∷ insert_entry key_cmp [] root h)) (key-self root)))
