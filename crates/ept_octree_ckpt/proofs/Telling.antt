-- Lines and the nodes that they describe: one is a whole octree if the other is.
use Rattle.std.proofs.Common.{◌≡◌, ◌∙◌, ◌⊎◌, ℕ, zero, suc, ◌<◌, ◌^◌, ◌==◌, Bool, true, false, inl, inr, List, [], ◌∷◌, map, refl, sym, ap, subst, arith, length, Some, None}
use Rattle.std.specs.Prelude.{AllPairs}
use Rattle.std.specs.Int.{bit_at}
use Rattle.std.specs.declared.cmp.Ordering.TheVariants.{Less}
use Rattle.std.proofs.lemmas.List.{length-append}
use Rattle.std.proofs.lemmas.List.Sums.{sum_by-cons}
use Rattle.ept_space.specs.VoxelKey.{VoxelKey, IsKey, root, child, parent, octant_of, same_key, key_cmp, AreAscending}
use Rattle.ept_space.proofs.Within.{same_key-true, same_key-same}
use Rattle.ept_space.proofs.Family.{parent-child, octant_of-child, octant_of-below, child-parent, depth-child}
use Rattle.ept_sample.specs.Members.{IsMember}
use Rattle.ept_sample.proofs.Members.{member-any, any-member, IsMember-map, member-map, all-member, All-members}
use Rattle.ept_sample.proofs.KeyOrder.{IsRising-AllPairs}
use Rattle.ept_grid.specs.Mask.{opened}
use Rattle.ept_core.specs.declared.node.Node as core
use Rattle.ept_core.specs.State as state
use Rattle.ept_core.specs.State.{Entry, node_at, has_node, has_open}
use Rattle.ept_core.proofs.NodeMap.{node_at-member, has_node-key, key-has_node}
use Rattle.ept_ckpt.specs.declared.node_line.NodeLine.{NodeLine}
use Rattle.ept_ckpt.specs.declared.checkpoint.Checkpoint.{Checkpoint}
use Rattle.ept_ckpt.specs.Octree as ckpt
use Rattle.ept_ckpt.specs.Octree.{AreWholeOctree, AreNodesOf, TellsChildren, HasParent, is_among}
use Rattle.ept_save.specs.Current.{Current}
use Rattle.ept_node.proofs.Bridges.{seen-stands}
use Rattle.ept_table.specs.Octree.{Branch, entry_of, points_in, IsBelowOpen, AreWhole, KeepsNodes}
use Rattle.ept_table.proofs.ByKey.{open-there}
use Rattle.ept_octree_ckpt.specs.Lines.{TellsNode, TellNodes}
use Rattle.ept_octree_ckpt.specs.LinesLaws.{HaveKeys}
use Rattle.ept_octree_ckpt.specs.Loaded.{OfCurrent}
use Rattle.ept_octree_ckpt.specs.Saving.{keys_in, HasEachNodeOf}

both_ways : (a b : Bool) → (a ≡ true → b ≡ true) → (b ≡ true → a ≡ true) → a ≡ b
both_ways true b to from = sym (to refl)
both_ways false true to from = from refl
both_ways false false to from = refl

pub either : (b : Bool) → (b ≡ true) ⊎ (b ≡ false)
either true = inl refl
either false = inr refl

-- ---- keys

pub among-member : (keys : List VoxelKey) (key : VoxelKey) → is_among keys key ≡ true → IsMember key keys
among-member keys key is =
    let r = member-any (same_key key) keys is in
    subst (λ (k : VoxelKey). IsMember k keys) (sym (same_key-true key r.0 r.2)) r.1

pub member-among : (keys : List VoxelKey) (key : VoxelKey) → IsMember key keys → is_among keys key ≡ true
member-among keys key m = any-member (same_key key) key keys m (same_key-same key key refl)

keys-told : (nodes : List Branch) (lines : List NodeLine) → TellNodes nodes lines → state.keys_of (map entry_of nodes) ≡ ckpt.keys_of lines
keys-told [] [] told = refl
keys-told [] (l ∷ lines) told = absurd told
keys-told (b ∷ nodes) [] told = absurd told
keys-told (b ∷ nodes) (l ∷ lines) told =
    ap (λ (k : VoxelKey). k ∷ state.keys_of (map entry_of nodes)) (sym told.0.key) ∙ ap (λ (w : List VoxelKey). l.key ∷ w) (keys-told nodes lines told.1)

-- ---- pairs

pub line-node : (nodes : List Branch) (lines : List NodeLine) (l : NodeLine) → TellNodes nodes lines → IsMember l lines → (b : Branch) × IsMember b nodes × TellsNode b l
line-node [] [] l told m = absurd m
line-node [] (x ∷ lines) l told m = absurd told
line-node (b ∷ nodes) [] l told m = absurd told
line-node (b ∷ nodes) (x ∷ lines) l told (inl is) = (b, inl refl, subst (λ (y : NodeLine). TellsNode b y) is told.0)
line-node (b ∷ nodes) (x ∷ lines) l told (inr m) =
    let r = line-node nodes lines l told.1 m in
    (r.0, inr r.1, r.2)

pub node-line : (nodes : List Branch) (lines : List NodeLine) (b : Branch) → TellNodes nodes lines → IsMember b nodes → (l : NodeLine) × IsMember l lines × TellsNode b l
node-line [] [] b told m = absurd m
node-line [] (x ∷ lines) b told m = absurd m
node-line (c ∷ nodes) [] b told m = absurd told
node-line (c ∷ nodes) (x ∷ lines) b told (inl is) = (x, inl refl, subst (λ (d : Branch). TellsNode d x) is told.0)
node-line (c ∷ nodes) (x ∷ lines) b told (inr m) =
    let r = node-line nodes lines b told.1 m in
    (r.0, inr r.1, r.2)

counts-told : (nodes : List Branch) (lines : List NodeLine) → TellNodes nodes lines → ckpt.points_in lines ≡ length (points_in nodes)
counts-told [] [] told = refl
counts-told [] (l ∷ lines) told = absurd told
counts-told (b ∷ nodes) [] told = absurd told
counts-told (b ∷ nodes) (l ∷ lines) told =
    omega (arith, sum_by-cons (λ (line : NodeLine). line.count) l lines, counts-told nodes lines told.1, told.0.count, length-append b.1.points (points_in nodes))

-- ---- open octants of the entries

module _ (nodes : List Branch) (ascend : AreAscending (state.keys_of (map entry_of nodes))) where
  abbrev es : List Entry
  es = map entry_of nodes

  open_of : (b : Branch) (o : ℕ) → IsMember b nodes → o < 8 → has_open (node_at es b.0) o ≡ opened b.1.mask o
  open_of b o m low =
      ap (λ (n : core.Node). has_open n o) (node_at-member es (entry_of b) (IsRising-AllPairs (state.keys_of es) ascend) (IsMember-map entry_of b nodes m)) ∙ (seen-stands b.1).opens o low

  branch_of : (key : VoxelKey) → has_node es key ≡ true → (b : Branch) × IsMember b nodes × (b.0 ≡ key)
  branch_of key is =
      let e = member-map (λ (w : Entry). w.0) key es (has_node-key es key is) in
      let b = member-map entry_of e.0 nodes e.1 in
      (b.0, b.1, ap (λ (w : Entry). w.0) b.2 ∙ e.2)

-- ---- from the nodes to the lines

module _ (nodes : List Branch) (lines : List NodeLine) (told : TellNodes nodes lines) (whole : AreWhole (map entry_of nodes)) where
  abbrev here : List Entry
  here = map entry_of nodes

  abbrev keys : List VoxelKey
  keys = ckpt.keys_of lines

  same_keys : state.keys_of here ≡ keys
  same_keys = keys-told nodes lines told

  node_among : (key : VoxelKey) → has_node here key ≡ true → is_among keys key ≡ true
  node_among key is = member-among keys key (subst (λ (w : List VoxelKey). IsMember key w) same_keys (has_node-key here key is))

  among_node : (key : VoxelKey) → IsMember key keys → has_node here key ≡ true
  among_node key m = key-has_node here key (subst (λ (w : List VoxelKey). IsMember key w) (sym same_keys) m)

  child_told : (l : NodeLine) (o : ℕ) → IsMember l lines → o < 8 → opened l.mask o ≡ true → is_among keys (child l.key o) ≡ true
  child_told l o m low is =
      let b = line-node nodes lines l told m in
      let open_there : has_open (node_at here b.0.0) o ≡ true = open_of nodes whole.ascend b.0 o b.1 low ∙ (ap (λ (w : ℕ). opened w o) (sym b.2.mask) ∙ is) in
      let there : is_among keys (child b.0.0 o) ≡ true = node_among (child b.0.0 o) (whole.open_leads b.0.0 o low open_there) in
      ap (λ (k : VoxelKey). is_among keys (child k o)) b.2.key ∙ there

  told_child : (l : NodeLine) (o : ℕ) → IsMember l lines → o < 8 → is_among keys (child l.key o) ≡ true → opened l.mask o ≡ true
  told_child l o m low is = by_below (whole.below_open (child l.key o) (among_node (child l.key o) (among-member keys (child l.key o) is)))
    where
      by_below : (child l.key o ≡ root) ⊎ IsBelowOpen here (child l.key o) → opened l.mask o ≡ true
      by_below (inl at) = let deep = depth-child l.key o in absurd (omega (arith, deep, ap (λ (k : VoxelKey). k.depth) at))
      by_below (inr below) =
          let b = line-node nodes lines l told m in
          let above : below.above ≡ b.0.0 = sym (parent-child below.above below.octant) ∙ (ap parent (sym below.is_child) ∙ (parent-child l.key o ∙ b.2.key)) in
          let octant : below.octant ≡ o = sym (octant_of-child below.above below.octant below.low) ∙ (ap octant_of (sym below.is_child) ∙ octant_of-child l.key o low) in
          let open_there : has_open (node_at here b.0.0) o ≡ true = subst (λ (k : VoxelKey). has_open (node_at here k) o ≡ true) above (subst (λ (n : ℕ). has_open (node_at here below.above) n ≡ true) octant below.is_open) in
          ap (λ (w : ℕ). opened w o) b.2.mask ∙ (sym (open_of nodes whole.ascend b.0 o b.1 low) ∙ open_there)

  children : (l : NodeLine) → IsMember l lines → TellsChildren keys l
  unfolding opened
  children l m o low =
      both_ways (bit_at l.mask o == 1) (is_among keys (child l.key o)) (child_told l o m low) (told_child l o m low)

  parents : (key : VoxelKey) → IsMember key keys → HasParent keys key
  parents key m deep = by_below (whole.below_open key (among_node key m))
    where
      by_below : (key ≡ root) ⊎ IsBelowOpen here key → is_among keys (parent key) ≡ true
      by_below (inl at) = absurd (omega (arith, deep, ap (λ (k : VoxelKey). k.depth) at))
      by_below (inr below) =
          ap (λ (k : VoxelKey). is_among keys (parent k)) below.is_child
          ∙ (ap (λ (k : VoxelKey). is_among keys k) (parent-child below.above below.octant) ∙ node_among below.above (open-there here below.above below.octant below.is_open))

  pub whole-told : AreNodesOf (length (points_in nodes)) lines
  whole-told = record {
    octree = record {
      ascend = subst (λ (w : List VoxelKey). AllPairs (λ a b. key_cmp a b ≡ Less) w) same_keys whole.ascend;
      rooted = node_among root whole.rooted;
      parents = All-members (HasParent keys) keys parents;
      children = All-members (TellsChildren keys) lines children;
    };
    counted = counts-told nodes lines told;
  }

-- ---- and back

module _ (nodes : List Branch) (lines : List NodeLine) (told : TellNodes nodes lines) (are_keys : HaveKeys lines) (octree : AreWholeOctree lines) where
  abbrev now : List Entry
  now = map entry_of nodes

  abbrev ks : List VoxelKey
  ks = ckpt.keys_of lines

  same_ks : state.keys_of now ≡ ks
  same_ks = keys-told nodes lines told

  rises : AreAscending (state.keys_of now)
  rises = subst (λ (w : List VoxelKey). AreAscending w) (sym same_ks) octree.ascend

  node_ks : (key : VoxelKey) → has_node now key ≡ true → IsMember key ks
  node_ks key is = subst (λ (w : List VoxelKey). IsMember key w) same_ks (has_node-key now key is)

  ks_node : (key : VoxelKey) → is_among ks key ≡ true → has_node now key ≡ true
  ks_node key is = key-has_node now key (subst (λ (w : List VoxelKey). IsMember key w) (sym same_ks) (among-member ks key is))

  line_at : (key : VoxelKey) → IsMember key ks → (l : NodeLine) × IsMember l lines × (l.key ≡ key)
  line_at key m = member-map (λ (l : NodeLine). l.key) key lines m

  -- an octant that a line states as open is open in its node
  opens_at : (l : NodeLine) (o : ℕ) → IsMember l lines → o < 8 → opened l.mask o ≡ true → has_open (node_at now l.key) o ≡ true
  opens_at l o m low is =
      let b = line-node nodes lines l told m in
      ap (λ (k : VoxelKey). has_open (node_at now k) o) b.2.key ∙ (open_of nodes rises b.0 o b.1 low ∙ (ap (λ (w : ℕ). opened w o) (sym b.2.mask) ∙ is))

  tells_open : (l : NodeLine) (o : ℕ) → IsMember l lines → o < 8 → opened l.mask o ≡ is_among ks (child l.key o)
  unfolding opened
  tells_open l o m low = all-member (TellsChildren ks) l lines octree.children m o low

  at_root : (key : VoxelKey) → IsKey key → key.depth ≡ 0 → key ≡ root
  at_root key is top =
      let one : 2 ^ key.depth ≡ 1 = ap (λ (d : ℕ). 2 ^ d) top in
      let x : key.x ≡ 0 = omega (arith, is.x_in, one) in
      let y : key.y ≡ 0 = omega (arith, is.y_in, one) in
      let z : key.z ≡ 0 = omega (arith, is.z_in, one) in
      λ i. record { depth = top i; x = x i; y = y i; z = z i }

  below : (key : VoxelKey) → IsMember key ks → (key.depth ≡ 0) ⊎ (0 < key.depth) → (key ≡ root) ⊎ IsBelowOpen now key
  below key m (inl top) =
      let l = line_at key m in
      inl (at_root key (subst IsKey l.2 (all-member (λ (line : NodeLine). IsKey line.key) l.0 lines are_keys l.1)) top)
  below key m (inr deep) =
      let p = line_at (parent key) (among-member ks (parent key) (all-member (HasParent ks) key ks octree.parents m deep)) in
      let is_key : child (parent key) (octant_of key) ≡ key = child-parent key deep in
      let there : is_among ks (child p.0.key (octant_of key)) ≡ true = ap (λ (k : VoxelKey). is_among ks (child k (octant_of key))) p.2 ∙ (ap (is_among ks) is_key ∙ member-among ks key m) in
      inr (record {
        above = parent key;
        octant = octant_of key;
        low = octant_of-below key;
        is_child = sym is_key;
        is_open = ap (λ (k : VoxelKey). has_open (node_at now k) (octant_of key)) (sym p.2) ∙ opens_at p.0 (octant_of key) p.1 (octant_of-below key) (tells_open p.0 (octant_of key) p.1 (octant_of-below key) ∙ there);
      })

  top_or_deep : (n : ℕ) → (n ≡ 0) ⊎ (0 < n)
  top_or_deep zero = inl refl
  top_or_deep (suc n) = inr (omega arith)

  below_of : (key : VoxelKey) → has_node now key ≡ true → (key ≡ root) ⊎ IsBelowOpen now key
  below_of key node = below key (node_ks key node) (top_or_deep key.depth)

  leads : (key : VoxelKey) (o : ℕ) → o < 8 → has_open (node_at now key) o ≡ true → has_node now (child key o) ≡ true
  leads key o low is =
      let b = branch_of nodes rises key (open-there now key o is) in
      let l = node-line nodes lines b.0 told b.1 in
      let open_there : has_open (node_at now b.0.0) o ≡ true = subst (λ (k : VoxelKey). has_open (node_at now k) o ≡ true) (sym b.2) is in
      let open_line : opened l.0.mask o ≡ true = ap (λ (w : ℕ). opened w o) l.2.mask ∙ (sym (open_of nodes rises b.0 o b.1 low) ∙ open_there) in
      let there : is_among ks (child l.0.key o) ≡ true = sym (tells_open l.0 o l.1 low) ∙ open_line in
      ks_node (child key o) (ap (λ (k : VoxelKey). is_among ks (child k o)) (sym (l.2.key ∙ b.2)) ∙ there)

  pub told-whole : AreWhole now
  told-whole = record {
    ascend = rises;
    rooted = ks_node root octree.rooted;
    below_open = below_of;
    open_leads = leads;
  }

-- ---- nodes that stay

keys-in : (nodes : List Branch) → state.keys_of (map entry_of nodes) ≡ keys_in nodes
keys-in [] = refl
keys-in (b ∷ bs) = ap (λ (w : List VoxelKey). b.0 ∷ w) (keys-in bs)

pub kept-each : (current : Current) (old new : List Branch) → OfCurrent current (λ (c : Checkpoint). TellNodes old c.nodes) → KeepsNodes (map entry_of old) (map entry_of new) → HasEachNodeOf current new
kept-each None old new told keeps = λ k line inside. absurd (omega (arith, inside))
kept-each (Some (letter, c)) old new told keeps = All-members (λ (line : NodeLine). is_among (keys_in new) line.key ≡ true) c.nodes (λ line m.
    let there : IsMember line.key (state.keys_of (map entry_of old)) = subst (λ (w : List VoxelKey). IsMember line.key w) (sym (keys-told old c.nodes told)) (IsMember-map (λ (l : NodeLine). l.key) line c.nodes m) in
    let still : IsMember line.key (state.keys_of (map entry_of new)) = has_node-key (map entry_of new) line.key (keeps line.key (key-has_node (map entry_of old) line.key there)) in
    member-among (keys_in new) line.key (subst (λ (w : List VoxelKey). IsMember line.key w) (keys-in new) still))
