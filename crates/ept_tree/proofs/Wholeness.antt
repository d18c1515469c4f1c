-- An arrival keeps the nodes whole.
use Rattle.std.proofs.Common.{◌≡◌, ◌∙◌, ◌⊎◌, ℕ, ◌<◌, Bool, true, false, inl, inr, List, [], ◌∷◌, ◌++◌, map, refl, sym, ap, subst, arith, length}
use Rattle.std.specs.BTreeMap.{is_at, insert_entry}
use Rattle.std.specs.Map.{lookup, set_value}
use Rattle.std.specs.Prelude.{Some, None}
use Rattle.ept_point.specs.declared.point.Point.{Point}
use Rattle.ept_space.specs.VoxelKey.{VoxelKey, root, child, same_key, key_cmp}
use Rattle.ept_space.proofs.Within.{same_key-true}
use Rattle.ept_sample.specs.Members.{IsMember}
use Rattle.ept_sample.specs.Arrivals.{all_octants}
use Rattle.ept_sample.proofs.Members.{IsMember-left, IsMember-right, IsMember-append, IsMember-map, member-map, IsMember-flat_map, member-flat_map}
use Rattle.ept_sample.proofs.Octants.{octant-IsMember, IsMember-octant}
use Rattle.ept_sample.proofs.KeyOrder.{with_key-put, AllPairs-IsRising, IsRising-AllPairs}
use Rattle.ept_grid.specs.Mask.{opened}
use Rattle.ept_grid.specs.Outgoing.{Leaving, points_at}
use Rattle.ept_grid.specs.Node as grid
use Rattle.ept_grid.specs.Node.{SendsOn, is_open_in}
use Rattle.ept_core.specs.declared.node.Node as core
use Rattle.ept_core.specs.State.{Entry, blank, keys_of, node_at, has_node, has_open}
use Rattle.ept_core.specs.Steps.{with_node}
use Rattle.ept_core.proofs.Lookups.{found-some, found-none, set_value-with}
use Rattle.ept_core.proofs.NodeMap.{node_at-here, node_at-other, has_node-with, has_node-key, key-has_node, keys_of-with, rising-with}
use Rattle.ept_tree.specs.declared.arrival.Arrival.{Arrival}
use Rattle.ept_tree.specs.Sending.{arrival_at, arrivals_to, sending}
use Rattle.ept_node.specs.Batch.{seen}
use Rattle.ept_table.specs.Octree.{Branch, entry_of, IsBelowOpen, AreWhole, KeepsNodes}
use Rattle.ept_tree.specs.Whole.{IsKnown, AreWholeWith, StaysWhole, HasOpened}
use Rattle.ept_tree.proofs.Branches.{branch, entry-some, entry-none, entries-set, entries-insert}
use Rattle.ept_tree.proofs.Growing.{has_open_then, blank_closed}

either : (b : Bool) → (b ≡ true) ⊎ (b ≡ false)
either true = inl refl
either false = inr refl

-- ---- what leaves is on its way to the octant's child

some_of : (points : List Point) → 0 < length points → (p : Point) × IsMember p points
some_of [] some = absurd (omega (arith, some))
some_of (p ∷ points) some = (p, inl refl)

length_some : (p : Point) (points : List Point) → IsMember p points → 0 < length points
length_some p [] m = absurd m
length_some p (q ∷ points) m = omega arith

sent-there : (key : VoxelKey) (leaving : List Leaving) (o : ℕ) → o < 8 → 0 < length (points_at leaving o) → (a : Arrival) × IsMember a (sending key leaving) × (a.key ≡ child key o)
sent-there key leaving o low some =
    let p = some_of (points_at leaving o) some in
    (arrival_at (child key o) p.0, IsMember-flat_map (λ k. arrivals_to (child key k) (points_at leaving k)) o (arrival_at (child key o) p.0) all_octants (octant-IsMember o low) (IsMember-map (arrival_at (child key o)) p.0 (points_at leaving o) p.1), refl)

there-sent : (key : VoxelKey) (leaving : List Leaving) (a : Arrival) → IsMember a (sending key leaving) → (o : ℕ) × (o < 8) × (0 < length (points_at leaving o)) × (a.key ≡ child key o)
there-sent key leaving a m =
    let at = member-flat_map (λ k. arrivals_to (child key k) (points_at leaving k)) a all_octants m in
    let p = member-map (arrival_at (child key at.0)) a (points_at leaving at.0) at.2 in
    (at.0, IsMember-octant at.0 at.1, length_some p.0 (points_at leaving at.0) p.1, ap (λ (b : Arrival). b.key) (sym p.2))

-- ---- the nodes with the one at which a point arrived

module _ (es : List Entry) (a : Arrival) (others : List Arrival) (new : grid.Node) (leaving : List Leaving) (mask : ℕ) (was : (o : ℕ) → o < 8 → has_open (node_at es a.key) o ≡ opened mask o) (opening : HasOpened mask new.mask leaving) (whole : AreWholeWith (a ∷ others) es) where
  abbrev es' : List Entry
  es' = with_node es a.key (seen new)

  abbrev arrivals' : List Arrival
  arrivals' = others ++ sending a.key leaving

  open_here : (o : ℕ) → o < 8 → has_open (node_at es' a.key) o ≡ opened new.mask o
  open_here o low = ap (λ (n : core.Node). has_open n o) (node_at-here es a.key (seen new)) ∙ has_open_then new o low

  open_there : (k : VoxelKey) (o : ℕ) → same_key a.key k ≡ false → has_open (node_at es' k) o ≡ has_open (node_at es k) o
  open_there k o other = ap (λ (n : core.Node). has_open n o) (node_at-other es a.key (seen new) k other)

  here : has_node es' a.key ≡ true
  here =
      key-has_node es' a.key (subst (λ (w : List VoxelKey). IsMember a.key w) (sym (keys_of-with a.key (seen new) es)) (with_key-put a.key (keys_of es)).2)

  stays_open : (k : VoxelKey) (o : ℕ) → o < 8 → has_open (node_at es k) o ≡ true → has_open (node_at es' k) o ≡ true
  stays_open k o low is =
      elim (either (same_key a.key k)) [
        | inl same ↦
            let at : a.key ≡ k = same_key-true a.key k same in
            let before : has_open (node_at es a.key) o ≡ true = subst (λ (j : VoxelKey). has_open (node_at es j) o ≡ true) (sym at) is in
            subst (λ (j : VoxelKey). has_open (node_at es' j) o ≡ true) at (open_here o low ∙ opening.stays o low (sym (was o low) ∙ before))
        | inr other ↦ open_there k o other ∙ is
      ]

  still_known : (key : VoxelKey) → IsKnown (a ∷ others) es key → IsKnown arrivals' es' key
  still_known key (inl node) = inl (has_node-with es a.key (seen new) key node)
  still_known key (inr (b, inl is, at)) = inl (subst (λ (k : VoxelKey). has_node es' k ≡ true) (ap (λ (c : Arrival). c.key) is ∙ at) here)
  still_known key (inr (b, inr m, at)) = inr (b, IsMember-left b others (sending a.key leaving) m, at)

  still_below : (key : VoxelKey) → (key ≡ root) ⊎ IsBelowOpen es key → (key ≡ root) ⊎ IsBelowOpen es' key
  still_below key (inl is) = inl is
  still_below key (inr below) = inr (record { above = below.above; octant = below.octant; low = below.low; is_child = below.is_child; is_open = stays_open below.above below.octant below.low below.is_open })

  was_there : (key : VoxelKey) → IsMember key (a.key ∷ keys_of es) → IsKnown (a ∷ others) es key
  was_there key (inl is) = inr (a, inl refl, is)
  was_there key (inr m) = inl (key-has_node es key m)

  -- what is known afterwards was known, or left the node
  was_known : (key : VoxelKey) → IsKnown arrivals' es' key → IsKnown (a ∷ others) es key ⊎ ((o : ℕ) × (o < 8) × (0 < length (points_at leaving o)) × (key ≡ child a.key o))
  was_known key (inl node) =
      inl (was_there key ((with_key-put a.key (keys_of es)).0 key (subst (λ (w : List VoxelKey). IsMember key w) (keys_of-with a.key (seen new) es) (has_node-key es' key node))))
  was_known key (inr (b, m, at)) =
      elim (IsMember-append b others (sending a.key leaving) m) [
        | inl other ↦ inl (inr (b, inr other, at))
        | inr sent ↦ let s = there-sent a.key leaving b sent in inr (s.0, s.1, s.2, sym at ∙ s.3)
      ]

  below' : (key : VoxelKey) → IsKnown arrivals' es' key → (key ≡ root) ⊎ IsBelowOpen es' key
  below' key known =
      elim (was_known key known) [
        | inl before ↦ still_below key (whole.below_open key before)
        | inr sent ↦ inr (record { above = a.key; octant = sent.0; low = sent.1; is_child = sent.3; is_open = open_here sent.0 sent.1 ∙ opening.leave sent.0 sent.1 sent.2 })
      ]

  leads_here : (o : ℕ) → o < 8 → (opened mask o ≡ true) ⊎ (0 < length (points_at leaving o)) → IsKnown arrivals' es' (child a.key o)
  leads_here o low (inl before) = still_known (child a.key o) (whole.open_leads a.key o low (was o low ∙ before))
  leads_here o low (inr some) = let s = sent-there a.key leaving o low some in inr (s.0, IsMember-right s.0 others (sending a.key leaving) s.1, s.2)

  leads' : (k : VoxelKey) (o : ℕ) → o < 8 → has_open (node_at es' k) o ≡ true → IsKnown arrivals' es' (child k o)
  leads' k o low is =
      elim (either (same_key a.key k)) [
        | inl same ↦
            let at : a.key ≡ k = same_key-true a.key k same in
            let open_now : has_open (node_at es' a.key) o ≡ true = subst (λ (j : VoxelKey). has_open (node_at es' j) o ≡ true) (sym at) is in
            subst (λ (j : VoxelKey). IsKnown arrivals' es' (child j o)) at (leads_here o low (opening.opens o low (sym (open_here o low) ∙ open_now)))
        | inr other ↦ still_known (child k o) (whole.open_leads k o low (sym (open_there k o other) ∙ is))
      ]

  pub landed-whole : AreWholeWith arrivals' es'
  landed-whole = record {
    ascend = AllPairs-IsRising (keys_of es') (rising-with es a.key (seen new) (IsRising-AllPairs (keys_of es) whole.ascend));
    rooted = has_node-with es a.key (seen new) root whole.rooted;
    below_open = below';
    open_leads = leads';
  }

-- ---- what an arrival opens

-- facts of an octant, from those of a grid's arrival
module _ (old new : grid.Node) (mask : ℕ) (same : old.mask ≡ mask) (before leaving : List Leaving) (empty : (o : ℕ) → points_at before o ≡ []) (sends : (o : ℕ) → o < 8 → SendsOn old new o (points_at before o) (points_at leaving o)) where
  was_mask : (o : ℕ) → is_open_in old o ≡ opened mask o
  was_mask o = ap (λ (m : ℕ). opened m o) same

  added_is : (o : ℕ) (low : o < 8) → points_at leaving o ≡ (sends o low).added
  added_is o low = (sends o low).grows ∙ ap (λ (w : List Point). w ++ (sends o low).added) (empty o)

  opens_or : (o : ℕ) → o < 8 → opened new.mask o ≡ true → (is_open_in old o ≡ true) ⊎ (is_open_in old o ≡ false) → (opened mask o ≡ true) ⊎ (0 < length (points_at leaving o))
  opens_or o low now (inl was) = inl (sym (was_mask o) ∙ was)
  opens_or o low now (inr shut) =
      inr (subst (λ (w : List Point). 0 < length w) (sym (added_is o low)) ((sends o low).if_opens shut now))

  pub sends-opened : HasOpened mask new.mask leaving
  sends-opened = record {
    stays = λ o low is. (sends o low).stays_open (was_mask o ∙ is);
    opens = λ o low is. opens_or o low is (either (is_open_in old o));
    leave = λ o low some. (sends o low).if_open (subst (λ (w : List Point). 0 < length w) (added_is o low) some);
  }

-- ---- a node that is found, and one that is new

module _ (nodes : List Branch) (a : Arrival) (others : List Arrival) (old new : grid.Node) (leaving : List Leaving) (opening : HasOpened old.mask new.mask leaving) where
  abbrev es : List Entry
  es = map entry_of nodes

  pub found-whole : Some old ≡ lookup (is_at (key_cmp a.key)) nodes → StaysWhole (a ∷ others) nodes (others ++ sending a.key leaving) (set_value (is_at (key_cmp a.key)) nodes new)
  found-whole found whole =
      let there = found-some es a.key (seen old) (entry-some nodes a.key old found) in
      let are : map entry_of (set_value (is_at (key_cmp a.key)) nodes new) ≡ with_node es a.key (seen new) =
      entries-set nodes a.key new ∙ set_value-with es a.key (seen new) (IsRising-AllPairs (keys_of es) whole.ascend) there.0 in
      subst (λ (w : List Entry). AreWholeWith (others ++ sending a.key leaving) w × KeepsNodes es w) (sym are) (landed-whole es a others new leaving old.mask (λ o low. ap (λ (n : core.Node). has_open n o) there.1 ∙ has_open_then old o low) opening whole, has_node-with es a.key (seen new))

  pub new-whole : None ≡ lookup (is_at (key_cmp a.key)) nodes → old.mask ≡ 0 → StaysWhole (a ∷ others) nodes (others ++ sending a.key leaving) (insert_entry key_cmp nodes a.key new)
  new-whole absent none whole =
      let there = found-none es a.key (entry-none nodes a.key absent) in
      subst (λ (w : List Entry). AreWholeWith (others ++ sending a.key leaving) w × KeepsNodes es w) (sym (entries-insert nodes a.key new)) (landed-whole es a others new leaving old.mask (λ o low. ap (λ (n : core.Node). has_open n o) there.1 ∙ (blank_closed o low ∙ ap (λ (m : ℕ). opened m o) (sym none))) opening whole, has_node-with es a.key (seen new))

-- ---- the root alone, and a point on its way to it

pub blank_open : (o : ℕ) → has_open blank o ≡ true → ⊥
unfolding has_open
blank_open o is = absurd (cc)

module _ (g : grid.Node) (none : g.mask ≡ 0) where
  abbrev alone : List Entry
  alone = entry_of (branch root g) ∷ []

  shut_root : (o : ℕ) → o < 8 → has_open (seen g) o ≡ true → ⊥
  shut_root o low is =
      let shut : has_open blank o ≡ true = blank_closed o low ∙ (ap (λ (m : ℕ). opened m o) (sym none) ∙ (sym (has_open_then g o low) ∙ is)) in
      blank_open o shut

  open_alone : (key : VoxelKey) (o : ℕ) (b : Bool) → same_key root key ≡ b → o < 8 → has_open (node_at alone key) o ≡ true → ⊥
  unfolding node_at
  open_alone key o true same low is = shut_root o low (ap (λ (c : Bool). has_open (Rattle.std.proofs.Common.cond c (seen g) blank) o) (sym same) ∙ is)
  open_alone key o false same low is = blank_open o (ap (λ (c : Bool). has_open (Rattle.std.proofs.Common.cond c (seen g) blank) o) (sym same) ∙ is)

  known_alone : (key : VoxelKey) → IsKnown [] alone key → key ≡ root
  known_alone key (inl node) = of_member (has_node-key alone key node)
    where
      of_member : IsMember key (root ∷ []) → key ≡ root
      of_member (inl is) = sym is
      of_member (inr m) = absurd m
  known_alone key (inr (a, m, at)) = absurd m

  pub root-whole : (nodes : List Branch) → nodes ≡ branch root g ∷ [] → AreWholeWith [] (map entry_of nodes)
  root-whole nodes is = subst (λ (w : List Branch). AreWholeWith [] (map entry_of w)) (sym is) (record {
    ascend = AllPairs-IsRising (root ∷ []) (λ k m. absurd m, tt);
    rooted = key-has_node alone root (inl refl);
    below_open = λ key known. inl (known_alone key known);
    open_leads = λ key o low is. absurd (open_alone key o (same_key root key) refl low is);
  })

to_root : (a : Arrival) → a.key ≡ root → (es : List Entry) (key : VoxelKey) → IsKnown (a ∷ []) es key → IsKnown [] es key ⊎ (key ≡ root)
to_root a at es key (inl node) = inl (inl node)
to_root a at es key (inr (b, inl is, is_key)) = inr (sym is_key ∙ (ap (λ (c : Arrival). c.key) (sym is) ∙ at))
to_root a at es key (inr (b, inr m, is_key)) = absurd m

no_arrival : (a : Arrival) (es : List Entry) (key : VoxelKey) → IsKnown [] es key → IsKnown (a ∷ []) es key
no_arrival a es key (inl node) = inl node
no_arrival a es key (inr (b, m, at)) = absurd m

pub drawn-whole : (a : Arrival) → a.key ≡ root → (es : List Entry) → AreWholeWith [] es → AreWholeWith (a ∷ []) es
drawn-whole a at es whole = record {
  ascend = whole.ascend;
  rooted = whole.rooted;
  below_open = λ key known. elim (to_root a at es key known) [ inl before ↦ whole.below_open key before | inr is ↦ inl is ];
  open_leads = λ key o low is. no_arrival a es (child key o) (whole.open_leads key o low is);
}

-- ---- with no point on its way

only_node : (es : List Entry) (key : VoxelKey) → IsKnown [] es key → has_node es key ≡ true
only_node es key (inl node) = node
only_node es key (inr (a, m, at)) = absurd m

pub whole-alone : (es : List Entry) → AreWholeWith [] es → AreWhole es
whole-alone es whole = record {
  ascend = whole.ascend;
  rooted = whole.rooted;
  below_open = λ key node. whole.below_open key (inl node);
  open_leads = λ key o low is. only_node es (child key o) (whole.open_leads key o low is);
}

pub alone-whole : (es : List Entry) → AreWhole es → AreWholeWith [] es
alone-whole es whole = record {
  ascend = whole.ascend;
  rooted = whole.rooted;
  below_open = λ key known. whole.below_open key (only_node es key known);
  open_leads = λ key o low is. inl (whole.open_leads key o low is);
}
