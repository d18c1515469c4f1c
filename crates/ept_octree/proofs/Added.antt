-- A node of a checkpoint is added.
use Rattle.std.proofs.Common.{◌≡◌, ◌∙◌, ℕ, suc, ◌+◌, ◌-◌, ◌<◌, ◌≤◌, false, cond, inl, inr, List, [], ◌∷◌, map, length, set, refl, sym, ap, subst, arith, Option, Some, None, Result}
use Rattle.std.specs.Prelude.{is_some, OnOk, OnErr, slice_get}
use Rattle.std.specs.List.{All}
use Rattle.std.specs.BTreeMap.{is_at, insert_entry}
use Rattle.std.specs.Map.{remove_entry}
use Rattle.std.specs.List.Sorted.{IsStrictlySortedBy}
use Rattle.std.proofs.lemmas.Bool.{false≢true}
use Rattle.ept_point.specs.declared.point.Point.{Point}
use Rattle.ept_space.specs.declared.cube.Rules.{Rules}
use Rattle.ept_space.specs.VoxelKey.{VoxelKey, root, same_key, key_cmp, AreAscending}
use Rattle.ept_sample.proofs.KeyOrder.{AllPairs-IsRising}
use Rattle.ept_core.proofs.Lookups.{sorted-rising}
use Rattle.ept_core.proofs.NodeMap.{same_key-self}
use Rattle.ept_grid.specs.Node as grid
use Rattle.ept_grid.specs.declared.error.GridError.{GridError}
use Rattle.ept_grid.specs.Tile.{IsTile, IsTileFault}
use Rattle.ept_node.specs.declared.node.Node as node
use Rattle.ept_node.specs.declared.state.NodeState.TheVariants as states
use Rattle.ept_node.specs.Shown.{node_of, state_of, fault_of}
use Rattle.ept_forest.specs.Slots as forest
use Rattle.ept_table.specs.At.{At}
use Rattle.ept_table.specs.Octree.{Branch}
use Rattle.ept_octree.specs.Index.{Site, in_slot, in_slots, untold, branches, slot_of, node_in, IsSoundBy, IsIndex}
use Rattle.ept_octree.specs.declared.octree.Octree.{Octree}
use Rattle.ept_octree.specs.Octree.{nodes_of}
use Rattle.ept_octree.specs.Adding.{filled, IsFree}
use Rattle.ept_octree.specs.declared.error.AddError.{AddError}
use Rattle.ept_node.proofs.Here.{here-resident}
use Rattle.ept_octree.proofs.Here.{all-at, first-here}
use Rattle.ept_octree.proofs.Alike.{index-any, told-index}
use Rattle.ept_octree.proofs.Placing.{slice-at, either-way, on-ok, both-ok, on-err, its-slot, put-in, same-in, long-in, length-in, sound-filled, free-slot, root-there, none-below, index-more, branches-more, put-removed, root-used, root-node, index-root, branches-root, named-some, named-none}

module _ {F : Type 0} (held : F → Option (List ℕ)) (rules : Rules) (used : ℕ) (ns : List (node.Node F)) (sites : List Site) (index : IsIndex rules used (in_slots held ns) sites) (key : VoxelKey) (free : IsFree key (branches (in_slots held ns) sites)) where
  abbrev nodes : List Branch
  nodes = branches (in_slots held ns) sites

  -- ---- the root

  module _ (is_root : key ≡ root) (n : node.Node F) (at : At ns 0 n) where
    alone : (g : grid.Node) × (nodes ≡ (let b : Branch = (root, g) in b) ∷ []) × (g.points ≡ [])
    alone =
        elim free [
          | inl none ↦ absurd (root-there rules used (in_slots held ns) sites index (λ b m e. none b m (e ∙ sym is_root)))
          | inr r ↦ (r.1, r.2, r.3)
        ]

    its : (h : grid.Node) × (node_in (in_slots held ns) 1 ≡ Some h) × (h.key ≡ root) × (h.rules ≡ rules) × (h.points ≡ [])
    its = root-node rules used (in_slots held ns) sites index alone.0 alone.1 alone.2

    shown : (state_of n ≡ states.Blank → ⊥) × (node_of held n ≡ its.0)
    shown = named-some (state_of n) (node_of held n) its.0 (sym (its-slot held ns 0 n at) ∙ its.1)

    others_blank : (k : ℕ) (m : node.Node F) → At ns (suc k) m → state_of m ≡ states.Blank
    others_blank k m a =
        let one : used ≡ 1 = root-used rules used (in_slots held ns) sites index alone.0 alone.1 alone.2 in
        named-none (state_of m) (node_of held m) (ap (λ (x : Option grid.Node). is_some x) (sym (its-slot held ns (suc k) m a)) ∙ index.blank (suc (suc k)) (omega (arith, one)))

    pub root-resident : 0 < forest.residents_of ns → All (λ m. fault_of m ≡ None) ns → state_of n ≡ states.Resident
    root-resident some sound =
        here-resident n (first-here ns n at others_blank some) (all-at (λ m. fault_of m ≡ None) ns 0 n sound at)

    pub root-empty : (node_of held n).points ≡ []
    root-empty = ap (λ (g : grid.Node). g.points) shown.1 ∙ its.4

    root_key : (node_of held n).key ≡ key
    root_key = ap (λ (g : grid.Node). g.key) shown.1 ∙ (its.2 ∙ sym is_root)

    root_rules : (node_of held n).rules ≡ rules
    root_rules = ap (λ (g : grid.Node). g.rules) shown.1 ∙ its.3

    module _ (m : node.Node F) (mask : ℕ) (points : List Point) (r : Result (Unit {0}) AddError) (tile : OnOk r (IsTile (node_of held n).key (node_of held n).rules mask points)) where
      as_asked : (P : VoxelKey → Rules → Type 0) → P (node_of held n).key (node_of held n).rules → P key rules
      as_asked P p =
          subst (λ (rs : Rules). P key rs) root_rules (subst (λ (k : VoxelKey). P k (node_of held n).rules) root_key p)

      pub root-tile : OnOk r (IsTile key rules mask points)
      root-tile =
          on-ok r (IsTile (node_of held n).key (node_of held n).rules mask points) (IsTile key rules mask points) tile (as_asked (λ k rs. IsTile k rs mask points))

      pub root-fault : (fault : GridError) → IsTileFault (node_of held n).key (node_of held n).rules mask points fault → IsTileFault key rules mask points fault
      root-fault fault = as_asked (λ k rs. IsTileFault k rs mask points fault)

      module _ (low : key.depth ≤ rules.cube.depth) (ok : OnOk r (in_slot held m ≡ Some (filled (node_of held n).key (node_of held n).rules mask points))) (same : OnErr r (in_slot held m ≡ in_slot held n)) where
        abbrev Put : Type 0
        Put = in_slot held m ≡ Some (filled key rules mask points)

        put_ok : OnOk r Put
        put_ok =
            on-ok r (in_slot held m ≡ Some (filled (node_of held n).key (node_of held n).rules mask points)) Put ok (as_asked (λ k rs. in_slot held m ≡ Some (filled k rs mask points)))

        now_in : Put → in_slots held (set ns 0 m) ≡ set (in_slots held ns) 1 (Some (filled key rules mask points))
        now_in put =
            put-in held ns 0 n at m ∙ ap (λ (x : Option grid.Node). set (in_slots held ns) 1 x) put

        sound_now : IsTile key rules mask points → IsSoundBy rules (filled key rules mask points)
        sound_now t = sound-filled key rules mask points t low

        pub root-index : IsIndex rules used (in_slots held (set ns 0 m)) sites
        root-index =
            either-way r (Put × IsTile key rules mask points) (in_slot held m ≡ in_slot held n) (IsIndex rules used (in_slots held (set ns 0 m)) sites) (both-ok r Put (IsTile key rules mask points) put_ok root-tile) same
            (λ p. subst (λ (w : List (Option grid.Node)). IsIndex rules used w sites) (sym (now_in p.0)) (index-root rules used (in_slots held ns) sites index alone.0 alone.1 alone.2 (filled key rules mask points) is_root (sound_now p.1) (map (in_slot held) ns) refl))
            (λ e. subst (λ (w : List (Option grid.Node)). IsIndex rules used w sites) (sym (same-in held ns 0 n at m e)) index)

        pub root-ok : OnOk r (branches (in_slots held (set ns 0 m)) sites ≡ insert_entry key_cmp nodes key (filled key rules mask points))
        root-ok =
            on-ok r (Put × IsTile key rules mask points) (branches (in_slots held (set ns 0 m)) sites ≡ insert_entry key_cmp nodes key (filled key rules mask points)) (both-ok r Put (IsTile key rules mask points) put_ok root-tile)
            (λ p. ap (λ (w : List (Option grid.Node)). branches w sites) (now_in p.0)
            ∙ (branches-root rules used (in_slots held ns) sites index alone.0 alone.1 alone.2 (filled key rules mask points) is_root (sound_now p.1) (map (in_slot held) ns) refl
            ∙ ap (λ (k : VoxelKey). insert_entry key_cmp nodes k (filled key rules mask points)) (sym is_root)))

        pub root-err : OnErr r (branches (in_slots held (set ns 0 m)) sites ≡ nodes)
        root-err =
            on-err r (in_slot held m ≡ in_slot held n) (branches (in_slots held (set ns 0 m)) sites ≡ nodes) same (λ e. ap (λ (w : List (Option grid.Node)). branches w sites) (same-in held ns 0 n at m e))

  -- ---- another node

  module _ (other : same_key key root ≡ false) where
    not_root : key ≡ root → ⊥
    not_root e =
        false≢true (sym other ∙ (ap (λ (k : VoxelKey). same_key k root) e ∙ same_key-self root))

    pub no-slot : slot_of sites key ≡ None
    no-slot =
        elim free [
          | inl none ↦ free-slot rules used (in_slots held ns) sites index key none
          | inr r ↦ absurd (not_root r.0)
        ]

    module _ (place : ℕ) (at_used : place ≡ used) (n : node.Node F) (at : At ns place n) where
      pub next-blank : state_of n ≡ states.Blank
      next-blank =
          named-none (state_of n) (node_of held n) (ap (λ (x : Option grid.Node). is_some x) (sym (its-slot held ns place n at)) ∙ index.blank (suc place) (omega (arith, at_used)))

      module _ (m : node.Node F) where
        pub kept-in : in_slot held m ≡ None → in_slots held (set ns place m) ≡ in_slots held ns
        kept-in none =
            same-in held ns place n at m (none ∙ sym (sym (its-slot held ns place n at) ∙ none-below rules used (in_slots held ns) sites index (suc place) (omega (arith, at_used))))

        module _ (mask : ℕ) (points : List Point) (after : List Site) (put : in_slot held m ≡ Some (filled key rules mask points)) (tile : IsTile key rules mask points) (low : key.depth ≤ rules.cube.depth) (is : after ≡ insert_entry key_cmp sites key (suc used)) (finds : (q : VoxelKey) → slot_of after q ≡ cond (is_at (key_cmp key) q) (Some (suc used)) (slot_of sites q)) (ascend : AreAscending (map (λ (s : Site). s.0) after)) where
          now_there : in_slots held (set ns place m) ≡ set (in_slots held ns) (suc used) (Some (filled key rules mask points))
          now_there =
              put-in held ns place n at m
              ∙ (ap (λ (x : Option grid.Node). set (in_slots held ns) (suc place) x) put
              ∙ ap (λ (k : ℕ). set (in_slots held ns) (suc k) (Some (filled key rules mask points))) at_used)

          room : suc used < length (in_slots held ns)
          room = omega (arith, length-in held ns, long-in ns place n at, at_used)

          sound : IsSoundBy rules (filled key rules mask points)
          sound = sound-filled key rules mask points tile low

          pub added-index : IsIndex rules (suc used) (in_slots held (set ns place m)) after
          added-index =
              subst (λ (w : List (Option grid.Node)). IsIndex rules (suc used) w after) (sym now_there) (index-more rules used (in_slots held ns) sites index after (filled key rules mask points) room no-slot sound is finds ascend)

          pub added-nodes : branches (in_slots held (set ns place m)) after ≡ insert_entry key_cmp nodes key (filled key rules mask points)
          added-nodes =
              ap (λ (w : List (Option grid.Node)). branches w after) now_there ∙ branches-more rules used (in_slots held ns) sites index after (filled key rules mask points) room no-slot sound is finds ascend

    -- the site that was put is removed again
    pub as-before : (k : ℕ) (after again : List Site) → after ≡ insert_entry key_cmp sites key k → again ≡ remove_entry (is_at (key_cmp key)) after → again ≡ sites
    as-before k after again is out =
        out ∙ (ap (λ (w : List Site). remove_entry (is_at (key_cmp key)) w) is ∙ put-removed sites key k no-slot)

-- ---- of an octree

module _ {F : Type 0} (held : F → Option (List ℕ)) (octree : Octree F) (key : VoxelKey) (free : IsFree key (nodes_of held octree)) where
  abbrev its_nodes : List (node.Node F)
  its_nodes = forest.nodes_of octree.forest

  abbrev its_sites : List Site
  its_sites = octree.slots.entries

  abbrev its_used : ℕ
  its_used = forest.used_of octree.forest

  known : IsIndex octree.rules its_used (in_slots held its_nodes) its_sites
  known = told-index held octree

  -- the root gets its points
  module _ (is_root : key ≡ root) (n : node.Node F) (value : slice_get its_nodes 0 ≡ Some n) where
    pub top-at : At its_nodes 0 n
    top-at = slice-at its_nodes 0 n value

    pub top-resident : 0 < forest.residents_of its_nodes → All (λ m. fault_of m ≡ None) its_nodes → state_of n ≡ states.Resident
    top-resident = root-resident held octree.rules its_used its_nodes its_sites known key free is_root n top-at

    pub top-empty : (node_of held n).points ≡ []
    top-empty = root-empty held octree.rules its_used its_nodes its_sites known key free is_root n top-at

    module _ (m : node.Node F) (mask : ℕ) (points : List Point) (r : Result (Unit {0}) AddError) (tile : OnOk r (IsTile (node_of held n).key (node_of held n).rules mask points)) where
      pub top-tile : OnOk r (IsTile key octree.rules mask points)
      top-tile =
          root-tile held octree.rules its_used its_nodes its_sites known key free is_root n top-at m mask points r tile

      pub top-fault : (fault : GridError) → IsTileFault (node_of held n).key (node_of held n).rules mask points fault → IsTileFault key octree.rules mask points fault
      top-fault =
          root-fault held octree.rules its_used its_nodes its_sites known key free is_root n top-at m mask points r tile

      module _ (low : key.depth ≤ octree.rules.cube.depth) (ok : OnOk r (in_slot held m ≡ Some (filled (node_of held n).key (node_of held n).rules mask points))) (same : OnErr r (in_slot held m ≡ in_slot held n)) where
        pub top-index : IsIndex octree.rules its_used (in_slots untold (set its_nodes 0 m)) its_sites
        top-index =
            index-any held untold octree.rules its_used (set its_nodes 0 m) its_sites (root-index held octree.rules its_used its_nodes its_sites known key free is_root n top-at m mask points r tile low ok same)

        pub top-ok : OnOk r (branches (in_slots held (set its_nodes 0 m)) its_sites ≡ insert_entry key_cmp (nodes_of held octree) key (filled key octree.rules mask points))
        top-ok =
            root-ok held octree.rules its_used its_nodes its_sites known key free is_root n top-at m mask points r tile low ok same

        pub top-err : OnErr r (branches (in_slots held (set its_nodes 0 m)) its_sites ≡ nodes_of held octree)
        top-err =
            root-err held octree.rules its_used its_nodes its_sites known key free is_root n top-at m mask points r tile low ok same

  -- another node gets the next slot, whose number is one more than its place
  module _ (other : same_key key root ≡ false) (drawn : ℕ) (last : drawn ≡ its_used) (n : node.Node F) (value : slice_get its_nodes (drawn + 1 - 1) ≡ Some n) where
    at_used : drawn + 1 - 1 ≡ its_used
    at_used = omega (arith, last)

    next_slot : drawn + 1 ≡ suc its_used
    next_slot = omega (arith, last)

    pub new-at : At its_nodes (drawn + 1 - 1) n
    new-at = slice-at its_nodes (drawn + 1 - 1) n value

    pub new-blank : state_of n ≡ states.Blank
    new-blank =
        next-blank held octree.rules its_used its_nodes its_sites known key free other (drawn + 1 - 1) at_used n new-at

    module _ (m : node.Node F) (after : List Site) (put : after ≡ insert_entry key_cmp its_sites key (drawn + 1)) where
      put_next : after ≡ insert_entry key_cmp its_sites key (suc its_used)
      put_next = put ∙ ap (λ (k : ℕ). insert_entry key_cmp its_sites key k) next_slot

      -- the slot has a node
      module _ (mask : ℕ) (points : List Point) (there : in_slot held m ≡ Some (filled key octree.rules mask points)) (tile : IsTile key octree.rules mask points) (low : key.depth ≤ octree.rules.cube.depth) (finds : (q : VoxelKey) → slot_of after q ≡ cond (is_at (key_cmp key) q) (Some (drawn + 1)) (slot_of its_sites q)) (ordered : IsStrictlySortedBy key_cmp (map (λ (s : Site). s.0) after)) where
        found : (q : VoxelKey) → slot_of after q ≡ cond (is_at (key_cmp key) q) (Some (suc its_used)) (slot_of its_sites q)
        found = subst (λ (k : ℕ). (q : VoxelKey) → slot_of after q ≡ cond (is_at (key_cmp key) q) (Some k) (slot_of its_sites q)) next_slot finds

        ascend : AreAscending (map (λ (s : Site). s.0) after)
        ascend = AllPairs-IsRising (map (λ (s : Site). s.0) after) (sorted-rising (map (λ (s : Site). s.0) after) ordered)

        pub new-index : IsIndex octree.rules (suc its_used) (in_slots untold (set its_nodes (drawn + 1 - 1) m)) after
        new-index =
            index-any held untold octree.rules (suc its_used) (set its_nodes (drawn + 1 - 1) m) after (added-index held octree.rules its_used its_nodes its_sites known key free other (drawn + 1 - 1) at_used n new-at m mask points after there tile low put_next found ascend)

        pub new-nodes : branches (in_slots held (set its_nodes (drawn + 1 - 1) m)) after ≡ insert_entry key_cmp (nodes_of held octree) key (filled key octree.rules mask points)
        new-nodes =
            added-nodes held octree.rules its_used its_nodes its_sites known key free other (drawn + 1 - 1) at_used n new-at m mask points after there tile low put_next found ascend

      -- the slot has no node, and the key has no slot again
      module _ (none : in_slot held m ≡ None) (again : List Site) (out : again ≡ remove_entry (is_at (key_cmp key)) after) where
        back : again ≡ its_sites
        back = as-before held octree.rules its_used its_nodes its_sites known key free other (drawn + 1) after again put out

        empty : in_slots held (set its_nodes (drawn + 1 - 1) m) ≡ in_slots held its_nodes
        empty =
            kept-in held octree.rules its_used its_nodes its_sites known key free other (drawn + 1 - 1) at_used n new-at m none

        pub no-index : IsIndex octree.rules its_used (in_slots untold (set its_nodes (drawn + 1 - 1) m)) again
        no-index =
            index-any held untold octree.rules its_used (set its_nodes (drawn + 1 - 1) m) again (subst (λ (w : List (Option grid.Node)). IsIndex octree.rules its_used w again) (sym empty) (subst (λ (w : List Site). IsIndex octree.rules its_used (in_slots held its_nodes) w) (sym back) known))

        pub no-nodes : branches (in_slots held (set its_nodes (drawn + 1 - 1) m)) again ≡ nodes_of held octree
        no-nodes =
            ap (λ (w : List (Option grid.Node)). branches w again) empty ∙ ap (λ (w : List Site). branches (in_slots held its_nodes) w) back
