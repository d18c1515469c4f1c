-- The map of a tree's nodes, and the same nodes in the core.
use Rattle.std.proofs.Common.{◌≡◌, ◌∙◌, Bool, true, false, cond, ◌⊎◌, inl, inr, List, [], ◌∷◌, map, refl, sym, ap, subst, Option, Some, None, Ordering}
use Rattle.std.specs.declared.cmp.Ordering.TheVariants.{Less, Equal, Greater}
use Rattle.std.specs.Ordering.{match_ordering, is_eq}
use Rattle.std.specs.BTreeMap.{is_at, insert_entry}
use Rattle.std.specs.Map.{lookup, set_value}
use Rattle.ept_space.specs.declared.cube.Rules.{Rules}
use Rattle.ept_space.specs.VoxelKey.{VoxelKey, key_cmp}
use Rattle.ept_sample.specs.declared.tiles.Tile.{Tile}
use Rattle.ept_sample.specs.Members.{IsMember}
use Rattle.ept_sample.proofs.KeyOrder.{key-equal}
use Rattle.ept_grid.specs.Node as grid
use Rattle.ept_core.specs.declared.node.Node as core
use Rattle.ept_core.specs.State as state
use Rattle.ept_core.specs.State.{Entry}
use Rattle.ept_core.specs.Steps.{with_node}
use Rattle.ept_node.specs.Batch.{seen}
use Rattle.ept_table.specs.Octree.{Branch, entry_of, tile_of, AreNodes}

-- ---- what is found at a key

some_step : (b : Bool) (n g : grid.Node) (x : Option grid.Node) (y : Option core.Node) → (Some g ≡ x → Some (seen g) ≡ y) → Some g ≡ cond b (Some n) x → Some (seen g) ≡ cond b (Some (seen n)) y
some_step true n g x y more is = let same : g ≡ n = cc in ap (λ (w : grid.Node). Some (seen w)) same
some_step false n g x y more is = more is

pub entry-some : (nodes : List Branch) (k : VoxelKey) (g : grid.Node) → Some g ≡ lookup (is_at (key_cmp k)) nodes → Some (seen g) ≡ lookup (is_at (key_cmp k)) (map entry_of nodes)
entry-some [] k g is = absurd (cc)
entry-some (b ∷ bs) k g is =
    some_step (is_at (key_cmp k) b.0) b.1 g (lookup (is_at (key_cmp k)) bs) (lookup (is_at (key_cmp k)) (map entry_of bs)) (entry-some bs k g) is

none_step : (b : Bool) (n : grid.Node) (x : Option grid.Node) (y : Option core.Node) → (None ≡ x → None ≡ y) → None ≡ cond b (Some n) x → None ≡ cond b (Some (seen n)) y
none_step true n x y more is = absurd (cc)
none_step false n x y more is = more is

pub entry-none : (nodes : List Branch) (k : VoxelKey) → None ≡ lookup (is_at (key_cmp k)) nodes → None ≡ lookup (is_at (key_cmp k)) (map entry_of nodes)
entry-none [] k is = refl
entry-none (b ∷ bs) k is =
    none_step (is_at (key_cmp k) b.0) b.1 (lookup (is_at (key_cmp k)) bs) (lookup (is_at (key_cmp k)) (map entry_of bs)) (entry-none bs k) is

-- a node that is found is in the map under its key
abbrev pub branch : VoxelKey → grid.Node → Branch
branch k g = (k, g)

member_step : (k : VoxelKey) (g : grid.Node) (b : Branch) (bs : List Branch) (o : Ordering) → key_cmp k b.0 ≡ o → (Some g ≡ lookup (is_at (key_cmp k)) bs → IsMember (branch k g) bs) → Some g ≡ cond (is_eq o) (Some b.1) (lookup (is_at (key_cmp k)) bs) → IsMember (branch k g) (b ∷ bs)
member_step k g b bs Less at more is = inr (more is)
member_step k g b bs Greater at more is = inr (more is)
member_step k g b bs Equal at more is =
    let same : g ≡ b.1 = cc in
    inl (ap (λ (j : VoxelKey). branch j b.1) (sym (key-equal k b.0 at)) ∙ ap (λ (n : grid.Node). branch k n) (sym same))

pub lookup-member : (nodes : List Branch) (k : VoxelKey) (g : grid.Node) → Some g ≡ lookup (is_at (key_cmp k)) nodes → IsMember (branch k g) nodes
lookup-member [] k g is = absurd (cc)
lookup-member (b ∷ bs) k g is = member_step k g b bs (key_cmp k b.0) refl (lookup-member bs k g) is

-- ---- a node written at its key

set_step : (b : Bool) (e : Branch) (es s : List Branch) (g : grid.Node) (t : List Entry) → map entry_of s ≡ t → map entry_of (cond b ((e.0, g) ∷ es) (e ∷ s)) ≡ cond b ((e.0, seen g) ∷ map entry_of es) (entry_of e ∷ t)
set_step true e es s g t more = refl
set_step false e es s g t more = ap (λ (w : List Entry). entry_of e ∷ w) more

pub entries-set : (nodes : List Branch) (k : VoxelKey) (g : grid.Node) → map entry_of (set_value (is_at (key_cmp k)) nodes g) ≡ set_value (is_at (key_cmp k)) (map entry_of nodes) (seen g)
entries-set [] k g = refl
entries-set (e ∷ es) k g =
    set_step (is_at (key_cmp k) e.0) e es (set_value (is_at (key_cmp k)) es g) g (set_value (is_at (key_cmp k)) (map entry_of es) (seen g)) (entries-set es k g)

set_member_step : (k : VoxelKey) (c e : Branch) (es : List Branch) (g : grid.Node) (o : Ordering) → key_cmp k e.0 ≡ o → (IsMember c (set_value (is_at (key_cmp k)) es g) → (branch k g ≡ c) ⊎ IsMember c es) → IsMember c (cond (is_eq o) ((e.0, g) ∷ es) (e ∷ set_value (is_at (key_cmp k)) es g)) → (branch k g ≡ c) ⊎ IsMember c (e ∷ es)
set_member_step k c e es g Equal at more (inl is) = inl (ap (λ (j : VoxelKey). branch j g) (key-equal k e.0 at) ∙ is)
set_member_step k c e es g Equal at more (inr m) = inr (inr m)
set_member_step k c e es g Less at more (inl is) = inr (inl is)
set_member_step k c e es g Less at more (inr m) = elim (more m) [ inl is ↦ inl is | inr r ↦ inr (inr r) ]
set_member_step k c e es g Greater at more (inl is) = inr (inl is)
set_member_step k c e es g Greater at more (inr m) = elim (more m) [ inl is ↦ inl is | inr r ↦ inr (inr r) ]

set_member : (nodes : List Branch) (k : VoxelKey) (g : grid.Node) (c : Branch) → IsMember c (set_value (is_at (key_cmp k)) nodes g) → (branch k g ≡ c) ⊎ IsMember c nodes
set_member [] k g c m = absurd m
set_member (e ∷ es) k g c m = set_member_step k c e es g (key_cmp k e.0) refl (set_member es k g c) m

-- ---- a node put at its key

insert_step : (k : VoxelKey) (g : grid.Node) (e : Branch) (es s : List Branch) (t : List Entry) (o : Ordering) → map entry_of s ≡ t → map entry_of (match_ordering o ((k, g) ∷ e ∷ es) ((e.0, g) ∷ es) (e ∷ s)) ≡ match_ordering o ((k, seen g) ∷ entry_of e ∷ map entry_of es) ((e.0, seen g) ∷ map entry_of es) (entry_of e ∷ t)
insert_step k g e es s t Less more = refl
insert_step k g e es s t Equal more = refl
insert_step k g e es s t Greater more = ap (λ (w : List Entry). entry_of e ∷ w) more

pub entries-insert : (nodes : List Branch) (k : VoxelKey) (g : grid.Node) → map entry_of (insert_entry key_cmp nodes k g) ≡ with_node (map entry_of nodes) k (seen g)
entries-insert [] k g = refl
entries-insert (e ∷ es) k g =
    insert_step k g e es (insert_entry key_cmp es k g) (with_node (map entry_of es) k (seen g)) (key_cmp k e.0) (entries-insert es k g)

insert_member_step : (k : VoxelKey) (c e : Branch) (es : List Branch) (g : grid.Node) (o : Ordering) → key_cmp k e.0 ≡ o → (IsMember c (insert_entry key_cmp es k g) → (branch k g ≡ c) ⊎ IsMember c es) → IsMember c (match_ordering o ((k, g) ∷ e ∷ es) ((e.0, g) ∷ es) (e ∷ insert_entry key_cmp es k g)) → (branch k g ≡ c) ⊎ IsMember c (e ∷ es)
insert_member_step k c e es g Less at more (inl is) = inl is
insert_member_step k c e es g Less at more (inr m) = inr m
insert_member_step k c e es g Equal at more (inl is) = inl (ap (λ (j : VoxelKey). branch j g) (key-equal k e.0 at) ∙ is)
insert_member_step k c e es g Equal at more (inr m) = inr (inr m)
insert_member_step k c e es g Greater at more (inl is) = inr (inl is)
insert_member_step k c e es g Greater at more (inr m) = elim (more m) [ inl is ↦ inl is | inr r ↦ inr (inr r) ]

insert_member : (nodes : List Branch) (k : VoxelKey) (g : grid.Node) (c : Branch) → IsMember c (insert_entry key_cmp nodes k g) → (branch k g ≡ c) ⊎ IsMember c nodes
insert_member [] k g c (inl is) = inl is
insert_member [] k g c (inr m) = absurd m
insert_member (e ∷ es) k g c m = insert_member_step k c e es g (key_cmp k e.0) refl (insert_member es k g c) m

-- ---- the nodes still have their keys and the rules

module _ (rules : Rules) (nodes : List Branch) (k : VoxelKey) (g : grid.Node) (own : AreNodes rules nodes) (key : g.key ≡ k) (its_rules : g.rules ≡ rules) where
  one_or_old : (c : Branch) → (branch k g ≡ c) ⊎ IsMember c nodes → (c.1.key ≡ c.0) × (c.1.rules ≡ rules)
  one_or_old c (inl is) = subst (λ (b : Branch). (b.1.key ≡ b.0) × (b.1.rules ≡ rules)) is (key, its_rules)
  one_or_old c (inr m) = own c m

  pub own-set : AreNodes rules (set_value (is_at (key_cmp k)) nodes g)
  own-set c m = one_or_old c (set_member nodes k g c m)

  pub own-insert : AreNodes rules (insert_entry key_cmp nodes k g)
  own-insert c m = one_or_old c (insert_member nodes k g c m)

-- ---- the nodes as tiles

pub tiles-of : (nodes : List Branch) → map state.tile_of (map entry_of nodes) ≡ map tile_of nodes
tiles-of [] = refl
tiles-of (b ∷ bs) = ap (λ (w : List Tile). tile_of b ∷ w) (tiles-of bs)
