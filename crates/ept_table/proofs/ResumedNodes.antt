-- Nodes of a checkpoint are landed.
use Rattle.std.proofs.Common.{◌≡◌, ◌∙◌, ℕ, zero, suc, ◌<◌, true, ◌⊎◌, inl, inr, List, [], ◌∷◌, ◌++◌, map, length, take, drop, refl, sym, ap, subst, arith, Some, None}
use Rattle.std.proofs.lemmas.List.{take-append-drop}
use Rattle.ept_point.specs.declared.point.Point.{Point}
use Rattle.ept_space.specs.declared.cube.Rules.{Rules}
use Rattle.ept_space.specs.VoxelKey.{VoxelKey, child}
use Rattle.ept_sample.specs.declared.tiles.Tile.{Tile}
use Rattle.ept_sample.specs.Arrivals.{all_octants}
use Rattle.ept_sample.specs.Members.{IsMember}
use Rattle.ept_sample.specs.Nodes.{node_keys, tile_at, sampled}
use Rattle.ept_sample.specs.Sampling.{sampling, is_node}
use Rattle.ept_sample.specs.SamplingLaws.{CanBeSampled}
use Rattle.ept_sample.proofs.Octants.{IsMember-octant}
use Rattle.ept_grid.specs.Mask.{opened}
use Rattle.ept_grid.specs.Node.{is_open_in}
use Rattle.ept_core.specs.declared.node.Node as core
use Rattle.ept_core.specs.Law.{KeepsLaw}
use Rattle.ept_core.specs.State.{State, Entry, node_at, has_node, has_open}
use Rattle.ept_core.specs.Steps.{resumed_node}
use Rattle.ept_core.proofs.Resumed.{resumed-keeps}
use Rattle.ept_node.specs.Batch.{seen}
use Rattle.ept_node.proofs.Bridges.{seen-stands}
use Rattle.ept_table.specs.declared.note.Told.{Told}
use Rattle.ept_table.specs.declared.taken.Cell.{Cell}
use Rattle.ept_table.specs.declared.taken.Progress.{Progress}
use Rattle.ept_table.specs.declared.taken.Taken.{Taken}
use Rattle.ept_table.specs.declared.taken.Taken.TheVariants.{Blank, Standing, Reading}
use Rattle.ept_table.specs.At.{At}
use Rattle.ept_table.specs.Taken.{slot_at}
use Rattle.ept_table.specs.Shown.{KeyOf, IsTold, IsChild, IsDrawn, Shows}
use Rattle.ept_table.specs.Tells.{IsLanded}
use Rattle.ept_table.specs.Octree.{Branch, entry_of, tile_of, AreSampled, IsBelowOpen, keys_in}
use Rattle.ept_table.specs.OctreeLaws.{IsResumed}
use Rattle.ept_table.proofs.Lists.{at-same, nothing-at}
use Rattle.ept_table.proofs.ByKey.{le_or_less, open-there, found-there, stands-there, as-many-keys, key-of-slot, slot-of-key, at-key}

-- ---- the entries of a sampling

-- a node of the sampling, in memory
abbrev entry_at : Rules → List Point → VoxelKey → Entry
entry_at rules first key = (key, resumed_node rules first true key)

map_alike : {X : Type 0} (f g : ℕ → X) (os : List ℕ) → ((o : ℕ) → IsMember o os → f o ≡ g o) → map f os ≡ map g os
map_alike f g [] same = refl
map_alike {X} f g (o ∷ os) same =
    ap (λ (x : X). x ∷ map f os) (same o (inl refl)) ∙ ap (λ (w : List X). g o ∷ w) (map_alike f g os (λ k m. same k (inr m)))

entry-at : (rules : Rules) (first : List Point) (b : Branch) (k : VoxelKey) → b.0 ≡ k → b.1.points ≡ sampling rules first k → ((o : ℕ) → o < 8 → opened b.1.mask o ≡ is_node rules first (child b.0 o)) → entry_of b ≡ entry_at rules first k
unfolding resumed_node
entry-at rules first b k key points opens =
    let at : (o : ℕ) → IsMember o all_octants → opened b.1.mask o ≡ is_node rules first (child k o) =
    λ o m. opens o (IsMember-octant o m) ∙ ap (λ (j : VoxelKey). is_node rules first (child j o)) key in
    let all : map (opened b.1.mask) all_octants ≡ map (λ o. is_node rules first (child k o)) all_octants =
    map_alike (opened b.1.mask) (λ o. is_node rules first (child k o)) all_octants at in
    λ i. (key i, record { points = points i; opened = all i; is_resident = true })

head_of : Tile → List Tile → Tile
head_of d [] = d
head_of d (t ∷ ts) = t

tail_of : List Tile → List Tile
tail_of [] = []
tail_of (t ∷ ts) = ts

entries-at : (rules : Rules) (first : List Point) (nodes : List Branch) (keys : List VoxelKey) → map tile_of nodes ≡ map (tile_at rules first) keys → ((b : Branch) (o : ℕ) → IsMember b nodes → o < 8 → opened b.1.mask o ≡ is_node rules first (child b.0 o)) → map entry_of nodes ≡ map (entry_at rules first) keys
unfolding head_of tail_of
entries-at rules first [] [] same opens = refl
entries-at rules first [] (k ∷ ks) same opens = absurd (cc)
entries-at rules first (b ∷ bs) [] same opens = absurd (cc)
entries-at rules first (b ∷ bs) (k ∷ ks) same opens =
    let here : tile_of b ≡ tile_at rules first k = ap (head_of (tile_of b)) same in
    let others : map tile_of bs ≡ map (tile_at rules first) ks = ap tail_of same in
    ap (λ (e : Entry). e ∷ map entry_of bs) (entry-at rules first b k (ap (λ (t : Tile). t.key) here) (ap (λ (t : Tile). t.points) here) (λ o low. opens b o (inl refl) low))
    ∙ ap (λ (es : List Entry). entry_at rules first k ∷ es) (entries-at rules first bs ks others (λ c o m low. opens c o (inr m) low))

-- nodes of the sampling of the first points, with the others left, are a state that keeps the law
pub sampled-keeps : (rules : Rules) (points first left : List Point) (nodes : List Branch) → CanBeSampled rules points → points ≡ first ++ left → AreSampled rules first nodes → KeepsLaw rules points (let s : State = record { left = left; flights = []; nodes = map entry_of nodes } in s)
unfolding sampled
sampled-keeps rules points first left nodes can split are =
    subst (λ (es : List Entry). KeepsLaw rules points (let s : State = record { left = left; flights = []; nodes = es } in s)) (sym (entries-at rules first nodes (node_keys rules first) are.tiles are.opens)) (resumed-keeps rules points first left (λ key. true) can split)

-- ---- the nodes in their slots

module _ (told : Told) (used : ℕ) (items : List Taken) (nodes : List Branch) (r : Progress) (is_told : IsTold told) (p : IsResumed told used items nodes r) where
  abbrev keys : List VoxelKey
  keys = keys_in items

  abbrev entries : List Entry
  entries = map entry_of nodes

  many : length keys ≡ used
  many = as-many-keys told.most used items r p.slots p.at_first

  slot_key : (k : ℕ) (c : Cell) → At items k (Standing c) → KeyOf keys k c.node.key
  slot_key = key-of-slot told.most used items r p.slots p.at_first

  key_slot : (k : ℕ) (key : VoxelKey) → KeyOf keys k key → (c : Cell) × At items k (Standing c) × (c.node.key ≡ key)
  key_slot = slot-of-key told.most used items r p.slots p.at_first

  reader_first : (k : ℕ) (q : Progress) → At items k (Reading q) → k ≡ 0
  reader_first zero q a = refl
  reader_first (suc k) q a =
      elim (le_or_less (suc k) used) [
        | inl low ↦ absurd (let s = p.slots.stands (suc k) (Reading q) a (omega arith) low in let e : Reading q ≡ Standing s.0 = s.1 in cc)
        | inr far ↦ absurd (let e : Reading q ≡ Blank = p.slots.blank (suc k) (Reading q) a far in cc)
      ]

  two_slots : (j k : ℕ) (key : VoxelKey) → KeyOf keys j key → KeyOf keys k key → j ≡ k
  two_slots j k key a b =
      let c = key_slot j key a in
      let d = key_slot k key b in
      p.one_slot j k c.0 d.0 c.1 d.1 (c.2 ∙ sym d.2)

  begun_at : (i : ℕ) (key : VoxelKey) → At told.begun i key → KeyOf keys (suc i) key
  begun_at i key b =
      at-key keys i key (subst (λ (ks : List VoxelKey). At ks i key) p.begun b)

  begun_stands : (i : ℕ) (key : VoxelKey) → At told.begun i key → (c : Cell) × At items (suc i) (Standing c)
  begun_stands i key b = let c = key_slot (suc i) key (begun_at i key b) in (c.0, c.1)

  child_key : (k : ℕ) (c : Cell) (o : ℕ) → At items k (Standing c) → o < 8 → is_open_in c.node o ≡ true → KeyOf keys (slot_at (Standing c) o) (child c.node.key o)
  child_key k c o a low is =
      let d = p.linked.child_slot k c o a low is in
      subst (λ (key : VoxelKey). KeyOf keys (slot_at (Standing c) o) key) d.2 (slot_key (slot_at (Standing c) o) d.0 d.1)

  not_awaited : (k : ℕ) (c : Cell) (o : ℕ) → At items k (Standing c) → o < 8 → is_open_in c.node o ≡ true → At items (slot_at (Standing c) o) Blank → ⊥
  not_awaited k c o a low is blank =
      let d = p.linked.child_slot k c o a low is in
      let e : Standing d.0 ≡ Blank = at-same d.1 blank in
      absurd (cc)

  -- the slot of a key below an open octant is the child slot of that octant
  child_of : (k : ℕ) (c : Cell) (key : VoxelKey) → At items k (Standing c) → c.node.key ≡ key → IsBelowOpen entries key → IsChild items k key
  child_of k c key a its b =
      let q = stands-there items nodes p.standing b.above (open-there entries b.above b.octant b.is_open) in
      let found : node_at entries b.above ≡ seen q.1.node = subst (λ (j : VoxelKey). node_at entries j ≡ seen q.1.node) q.3 (found-there items nodes p.standing q.0 q.1 q.2).1 in
      let open_now : is_open_in q.1.node b.octant ≡ true = sym ((seen-stands q.1.node).opens b.octant b.low) ∙ (ap (λ (n : core.Node). has_open n b.octant) (sym found) ∙ b.is_open) in
      let d = p.linked.child_slot q.0 q.1 b.octant q.2 b.low open_now in
      let same : child q.1.node.key b.octant ≡ key = ap (λ (j : VoxelKey). child j b.octant) q.3 ∙ sym b.is_child in
      record {
        parent = q.0;
        cell = q.1;
        octant = b.octant;
        at = q.2;
        low = b.low;
        opened = open_now;
        slot_is = p.one_slot (slot_at (Standing q.1) b.octant) k d.0 c d.1 a (d.2 ∙ (same ∙ sym its));
        key_is = same;
      }

  born : (k : ℕ) (key : VoxelKey) → KeyOf keys k key → (k ≡ 1) ⊎ (IsChild items k key ⊎ IsDrawn keys [] k key)
  born k key is =
      let c = key_slot k key is in
      elim (p.whole.below_open key (subst (λ (j : VoxelKey). has_node entries j ≡ true) c.2 (found-there items nodes p.standing k c.0 c.1).0)) [
        | inl top ↦ inl (p.one_slot k 1 c.0 p.slots.top.0 c.1 p.slots.top.1 (c.2 ∙ (top ∙ sym p.slots.top.2)))
        | inr below ↦ inr (inl (child_of k c.0 key c.1 c.2 below))
      ]

  shows : told.tells ≡ true → Shows told r items []
  shows tells = record {
    nodes = entries;
    law = sampled-keeps told.rules told.points (take r.drawn told.points) (drop r.drawn told.points) nodes (p.can tells).0 (sym (take-append-drop r.drawn told.points)) (p.sampled tells);
    standing = λ k c a. found-there items nodes p.standing k c a;
    in_slot = λ key is. stands-there items nodes p.standing key is;
    total = (p.can tells).1;
  }

  pub resumed-landed : IsLanded told used items
  resumed-landed = record {
    keys = keys;
    reader = r;
    is_told = is_told;
    seats = record {
      knows = λ i v a. absurd (nothing-at a);
      idle = λ i v a. absurd (nothing-at a);
      spent = λ i v a. absurd (nothing-at a);
      full_above = λ i v a. absurd (nothing-at a);
      above_full = λ over. absurd (omega (arith, over, p.slots.few));
    };
    base = record {
      size = p.slots.size;
      at_first = p.at_first;
      one_reader = reader_first;
      fits = p.read.fits;
      given = λ i v a. absurd (nothing-at a);
      failed = λ e is. absurd (let both : None ≡ Some e = sym p.read.sound ∙ is in cc);
      noted = λ i v e a. absurd (nothing-at a);
      keyed = slot_key;
      sound = p.sound;
      flying = λ f m. absurd m;
      adds_up = omega (arith, p.read.adds_up);
    };
    tree = record {
      counted = omega (arith, many, p.slots.few);
      first = begun_at;
      distinct = two_slots;
      rooted = begun_stands;
      undrawn = λ k x a more. p.slots.blank k x a (omega (arith, more, many));
      carried = λ i v c a. absurd (nothing-at a);
      lands = λ i v c a. absurd (nothing-at a);
      children = λ k c o a low is. inr (child_key k c o a low is);
      closed = p.linked.none;
      awaited = λ k c o a low is blank. absurd (not_awaited k c o a low is blank);
      born = born;
      draws = λ i v held x d a. absurd (nothing-at a);
      full_over = λ tells over. absurd (omega (arith, over, p.slots.few));
    };
    shows = shows;
  }
