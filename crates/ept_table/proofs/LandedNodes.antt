-- The nodes of a landed table.
use Rattle.std.proofs.Common.{◌≡◌, ◌∙◌, ℕ, zero, suc, ◌<◌, ◌≤◌, true, ◌⊎◌, inl, inr, List, [], ◌∷◌, ◌++◌, map, length, take, drop, refl, sym, ap, subst, arith, Option, Some, None}
use Rattle.std.proofs.lemmas.List.{take-append-drop}
use Rattle.ept_point.specs.declared.point.Point.{Point}
use Rattle.ept_space.specs.VoxelKey.{VoxelKey, root, child}
use Rattle.ept_scan.specs.declared.read_error.ReadError.{ReadError}
use Rattle.ept_sample.specs.declared.tiles.Tile.{Tile}
use Rattle.ept_sample.specs.Members.{IsMember}
use Rattle.ept_sample.specs.Nodes.{sampled}
use Rattle.ept_sample.specs.Sampling.{is_node}
use Rattle.ept_sample.proofs.Ascending.{same_rising}
use Rattle.ept_sample.proofs.KeyOrder.{key_before, key_order, AllPairs-IsRising}
use Rattle.ept_sample.proofs.Members.{IsMember-map}
use Rattle.ept_grid.specs.Mask.{opened}
use Rattle.ept_grid.specs.Node.{is_open_in}
use Rattle.ept_core.specs.declared.node.Node as core
use Rattle.ept_core.specs.State as state
use Rattle.ept_core.specs.State.{State, Entry, keys_of, node_at, has_node, has_open}
use Rattle.ept_core.proofs.CoreLaws.{landed-sampled, landed-opens}
use Rattle.ept_core.proofs.Held.{keys-rise}
use Rattle.ept_core.proofs.NodeMap.{node_at-member, has_node-key, key-has_node}
use Rattle.ept_node.specs.Batch.{seen}
use Rattle.ept_node.proofs.Bridges.{seen-stands}
use Rattle.ept_table.specs.declared.note.Told.{Told}
use Rattle.ept_table.specs.declared.taken.Cell.{Cell}
use Rattle.ept_table.specs.declared.taken.Progress.{Progress}
use Rattle.ept_table.specs.declared.taken.Taken.{Taken}
use Rattle.ept_table.specs.declared.taken.Taken.TheVariants.{Blank, Standing, Reading}
use Rattle.ept_table.specs.At.{At}
use Rattle.ept_table.specs.Taken.{slot_at}
use Rattle.ept_table.specs.Shown.{IsOver, KeyOf, HasSlot, shown, Shows}
use Rattle.ept_table.specs.Tells.{IsLanded}
use Rattle.ept_table.specs.Octree.{Branch, entry_of, tile_of, AreSampled, IsBelowOpen, AreWhole, FillSlots, HaveOneSlot, AreLinked, AreStanding}
use Rattle.ept_table.specs.OctreeLaws.{IsReadSoFar}
use Rattle.ept_table.proofs.Lists.{at-same, below-at, nothing-at}
use Rattle.ept_table.proofs.Keys.{key-same, key-low}
use Rattle.ept_table.proofs.ReaderBack.{reading-same}
use Rattle.ept_table.proofs.ByKey.{open-there, entries-rise, found-there, stands-there}

some_key : (keys : List VoxelKey) (k : ℕ) → 0 < k → k ≤ length keys → (key : VoxelKey) × KeyOf keys k key
unfolding KeyOf
some_key keys zero some low = absurd (omega (arith, some))
some_key keys (suc i) some low = below-at keys i (omega (arith, low))

is_none : (failed : Option ReadError) → ((e : ReadError) → failed ≡ Some e → ⊥) → failed ≡ None
is_none None never = refl
is_none (Some e) never = absurd (never e refl)

module _ (told : Told) (used : ℕ) (items : List Taken) (h : IsLanded told used items) where
  pub not-over : IsOver told used → ⊥
  not-over over = nothing-at (h.seats.above_full over).2

  pub few-used : used ≤ told.most
  few-used = below not-over
    where
      below : (told.most < used → ⊥) → used ≤ told.most
      below apart = omega (arith, apart)

  pub all-keys : length h.keys ≡ used
  all-keys = omega (arith, h.tree.counted, few-used)

  not_blank : (k : ℕ) (key : VoxelKey) → KeyOf h.keys k key → At items k Blank → ⊥
  not_blank k key is blank =
      elim (h.tree.born k key is) [
        | inl first ↦
            let top = h.tree.rooted 0 root h.is_told.top in
            let e : Standing top.0 ≡ Blank = at-same top.1 (subst (λ (n : ℕ). At items n Blank) first blank) in
            absurd (cc)
        | inr more ↦ elim more [
          | inl c ↦
              let f = h.tree.awaited c.parent c.cell c.octant c.at c.low c.opened (subst (λ (n : ℕ). At items n Blank) (sym c.slot_is) blank) in
              absurd (f.1)
          | inr d ↦ absurd (nothing-at d.drew.at)
        ]
      ]

  -- in a drawn slot is a node
  pub key-stands : (k : ℕ) (key : VoxelKey) → KeyOf h.keys k key → (c : Cell) × At items k (Standing c) × (c.node.key ≡ key)
  key-stands k key is = by_what there.0 there.1
    where
      low : (0 < k) × (k ≤ length h.keys)
      low = key-low h.keys k key is

      there : (x : Taken) × At items k x
      there = below-at items k (omega (arith, low.1, all-keys, few-used, h.base.size))

      by_what : (x : Taken) → At items k x → (c : Cell) × At items k (Standing c) × (c.node.key ≡ key)
      by_what Blank a = absurd (not_blank k key is a)
      by_what (Standing c) a = (c, a, key-same h.keys k c.node.key key (h.base.keyed k c a) is)
      by_what (Reading r) a =
          absurd (let z : k ≡ 0 = h.base.one_reader k r a in omega (arith, z, low.0))

  stands : (k : ℕ) (x : Taken) → At items k x → 0 < k → k ≤ used → (c : Cell) × (x ≡ Standing c)
  stands k x a some low =
      let key = some_key h.keys k some (omega (arith, low, all-keys)) in
      let c = key-stands k key.0 key.1 in
      (c.0, at-same a c.1)

  pub landed-fills : FillSlots told.most used items
  landed-fills = record {
    size = h.base.size;
    few = few-used;
    top = key-stands 1 root (h.tree.first 0 root h.is_told.top);
    stands = stands;
    blank = λ k x a far. h.tree.undrawn k x a (omega (arith, far, all-keys));
  }

  pub landed-once : HaveOneSlot items
  landed-once j k c d a b same =
      h.tree.distinct j k d.node.key (subst (λ (key : VoxelKey). KeyOf h.keys j key) same (h.base.keyed j c a)) (h.base.keyed k d b)

  child_stands : (slot : ℕ) (key : VoxelKey) → HasSlot told used h.keys slot key → (d : Cell) × At items slot (Standing d) × (d.node.key ≡ key)
  child_stands slot key (inl none) = absurd (not-over none.1)
  child_stands slot key (inr is) = key-stands slot key is

  pub landed-linked : AreLinked items
  landed-linked = record {
    child_slot = λ k c o a low is. child_stands (slot_at (Standing c) o) (child c.node.key o) (h.tree.children k c o a low is);
    none = h.tree.closed;
  }

  pub landed-begun : (i : ℕ) (key : VoxelKey) → At told.begun i key → (c : Cell) × At items (suc i) (Standing c) × (c.node.key ≡ key)
  landed-begun i key b = key-stands (suc i) key (h.tree.first i key b)

  module _ (r : Progress) (at : At items 0 (Reading r)) where
    same_reader : h.reader ≡ r
    same_reader = reading-same (at-same h.base.at_first at)

    pub landed-read : IsReadSoFar told items r
    landed-read =
        subst (λ (q : Progress). IsReadSoFar told items q) same_reader (record {
          fits = h.base.fits;
          sound = is_none h.reader.failed (λ e is. nothing-at (h.base.failed e is).2);
          adds_up = omega (arith, h.base.adds_up);
        })

  module _ (nodes : List Branch) (s : AreStanding items nodes) where
    abbrev entries : List Entry
    entries = map entry_of nodes

    -- an octant of the node of a slot is open in the entry of its key
    open_found : (k : ℕ) (c : Cell) (o : ℕ) → At items k (Standing c) → o < 8 → has_open (node_at entries c.node.key) o ≡ is_open_in c.node o
    open_found k c o a low =
        ap (λ (n : core.Node). has_open n o) (found-there items nodes s k c a).1 ∙ (seen-stands c.node).opens o low

    below_open : (key : VoxelKey) → has_node entries key ≡ true → (key ≡ root) ⊎ IsBelowOpen entries key
    below_open key is =
        let r = stands-there items nodes s key is in
        let its_key : KeyOf h.keys r.0 key = subst (λ (k : VoxelKey). KeyOf h.keys r.0 k) r.3 (h.base.keyed r.0 r.1 r.2) in
        elim (h.tree.born r.0 key its_key) [
          | inl first ↦ inl (key-same h.keys 1 key root (subst (λ (n : ℕ). KeyOf h.keys n key) first its_key) (h.tree.first 0 root h.is_told.top))
          | inr more ↦ elim more [
            | inl c ↦ inr (record {
              above = c.cell.node.key;
              octant = c.octant;
              low = c.low;
              is_child = sym c.key_is;
              is_open = open_found c.parent c.cell c.octant c.at c.low ∙ c.opened;
            })
            | inr d ↦ absurd (nothing-at d.drew.at)
          ]
        ]

    open_leads : (key : VoxelKey) (o : ℕ) → o < 8 → has_open (node_at entries key) o ≡ true → has_node entries (child key o) ≡ true
    open_leads key o low is =
        let r = stands-there items nodes s key (open-there entries key o is) in
        let now : is_open_in r.1.node o ≡ true = sym (open_found r.0 r.1 o r.2 low) ∙ subst (λ (k : VoxelKey). has_open (node_at entries k) o ≡ true) (sym r.3) is in
        let d = landed-linked.child_slot r.0 r.1 o r.2 low now in
        subst (λ (k : VoxelKey). has_node entries k ≡ true) (d.2 ∙ ap (λ (k : VoxelKey). child k o) r.3) (found-there items nodes s (slot_at (Standing r.1) o) d.0 d.1).0

    pub landed-whole : AreWhole entries
    landed-whole = record {
      ascend = AllPairs-IsRising (keys_of entries) (entries-rise items nodes s);
      rooted = (let top = landed-fills.top in subst (λ (k : VoxelKey). has_node entries k ≡ true) top.2 (found-there items nodes s 1 top.0 top.1).0);
      below_open = below_open;
      open_leads = open_leads;
    }

    module _ (r : Progress) (at : At items 0 (Reading r)) (tells : told.tells ≡ true) where
      shows : Shows told h.reader items []
      shows = h.shows tells

      abbrev its : State
      its = shown told h.reader shows.nodes []

      abbrev first : List Point
      first = take r.drawn told.points

      parts : told.points ≡ first ++ drop h.reader.drawn told.points
      parts =
          sym (take-append-drop r.drawn told.points) ∙ ap (λ (q : Progress). first ++ drop q.drawn told.points) (sym (same_reader r at))

      same_found : (key : VoxelKey) → IsMember key (keys_of entries) → IsMember key (keys_of shows.nodes)
      same_found key m =
          let q = stands-there items nodes s key (key-has_node entries key m) in
          has_node-key shows.nodes key (subst (λ (k : VoxelKey). has_node shows.nodes k ≡ true) q.3 (shows.standing q.0 q.1 q.2).0)

      found_same : (key : VoxelKey) → IsMember key (keys_of shows.nodes) → IsMember key (keys_of entries)
      found_same key m =
          let q = shows.in_slot key (key-has_node shows.nodes key m) in
          has_node-key entries key (subst (λ (k : VoxelKey). has_node entries k ≡ true) q.3 (found-there items nodes s q.0 q.1 q.2).0)

      same_keys : keys_of entries ≡ keys_of shows.nodes
      same_keys =
          same_rising key_before key_order (keys_of entries) (keys_of shows.nodes) (entries-rise items nodes s) (keys-rise told.rules told.points its shows.law) same_found found_same

      same_node : (e : Entry) → IsMember e entries → node_at shows.nodes e.0 ≡ e.1
      same_node e m =
          let q = stands-there items nodes s e.0 (key-has_node entries e.0 (IsMember-map (λ (f : Entry). f.0) e entries m)) in
          let mine : node_at entries e.0 ≡ seen q.1.node = subst (λ (k : VoxelKey). node_at entries k ≡ seen q.1.node) q.3 (found-there items nodes s q.0 q.1 q.2).1 in
          let its_own : node_at shows.nodes e.0 ≡ seen q.1.node = subst (λ (k : VoxelKey). node_at shows.nodes k ≡ seen q.1.node) q.3 (shows.standing q.0 q.1 q.2).1 in
          its_own ∙ (sym mine ∙ node_at-member entries e (entries-rise items nodes s) m)

      same_entries : entries ≡ shows.nodes
      same_entries =
          alike entries shows.nodes same_keys (λ e m. same_node e m) (λ e m. node_at-member shows.nodes e (keys-rise told.rules told.points its shows.law) m)
        where
          heads : (x y : VoxelKey) (xs ys : List VoxelKey) → x ∷ xs ≡ y ∷ ys → (x ≡ y) × (xs ≡ ys)
          heads x y xs ys e = (ap (first_of x) e, ap rest_of e)
            where
              first_of : VoxelKey → List VoxelKey → VoxelKey
              first_of d [] = d
              first_of d (z ∷ zs) = z

              rest_of : List VoxelKey → List VoxelKey
              rest_of [] = []
              rest_of (z ∷ zs) = zs

          entry_same : (e f : Entry) → e.0 ≡ f.0 → e.1 ≡ f.1 → e ≡ f
          entry_same e f key node i = (key i, node i)

          alike : (es fs : List Entry) → keys_of es ≡ keys_of fs → ((e : Entry) → IsMember e es → node_at shows.nodes e.0 ≡ e.1) → ((e : Entry) → IsMember e fs → node_at shows.nodes e.0 ≡ e.1) → es ≡ fs
          alike [] [] keys left right = refl
          alike [] (f ∷ fs) keys left right = absurd (cc)
          alike (e ∷ es) [] keys left right = absurd (cc)
          alike (e ∷ es) (f ∷ fs) keys left right =
              let k = heads e.0 f.0 (keys_of es) (keys_of fs) keys in
              let one : e ≡ f = entry_same e f k.0 (sym (left e (inl refl)) ∙ (ap (λ (j : VoxelKey). node_at shows.nodes j) k.0 ∙ right f (inl refl))) in
              ap (λ (w : Entry). w ∷ es) one ∙ ap (λ (w : List Entry). f ∷ w) (alike es fs k.1 (λ g m. left g (inr m)) (λ g m. right g (inr m)))

      tiles : map tile_of nodes ≡ sampled told.rules first
      tiles =
          sym (tiles_of nodes)
          ∙ (ap (λ (es : List Entry). map state.tile_of es) same_entries
          ∙ landed-sampled told.rules told.points first its shows.law refl parts)
        where
          tiles_of : (bs : List Branch) → map state.tile_of (map entry_of bs) ≡ map tile_of bs
          tiles_of [] = refl
          tiles_of (b ∷ bs) = ap (λ (w : List Tile). tile_of b ∷ w) (tiles_of bs)

      opens : (b : Branch) (o : ℕ) → IsMember b nodes → o < 8 → opened b.1.mask o ≡ is_node told.rules first (child b.0 o)
      opens b o m low =
          let q = s.in_slot b m in
          subst (λ (z : Branch). opened z.1.mask o ≡ is_node told.rules first (child z.0 o)) q.3
          (sym ((seen-stands q.1.node).opens o low)
          ∙ (ap (λ (n : core.Node). has_open n o) (sym (shows.standing q.0 q.1 q.2).1)
          ∙ landed-opens told.rules told.points first its q.1.node.key o shows.law refl parts low))

      pub landed-is-sampled : AreSampled told.rules first nodes
      landed-is-sampled = record { tiles = tiles; opens = opens }
