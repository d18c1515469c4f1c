-- The nodes that the walk from the top down comes to are those of the sampling.
use Rattle.std.proofs.Common.{◌≡◌, ◌∙◌, ℕ, zero, suc, ◌+◌, ◌≤◌, ◌<◌, Bool, true, false, cond, ◌⊎◌, inl, inr, List, [], ◌∷◌, map, refl, sym, ap, subst, arith, length, Ordering, Result, IfOk}
use Rattle.std.specs.declared.cmp.Ordering.TheVariants.{Less, Equal, Greater}
use Rattle.std.specs.Ordering.{match_ordering}
use Rattle.std.specs.BTreeMap.{insert_entry}
use Rattle.ept_point.specs.declared.point.Point.{Point}
use Rattle.ept_space.specs.declared.cube.Rules.{Rules}
use Rattle.ept_space.specs.VoxelKey.{VoxelKey, root, child, parent, octant_of, key_cmp}
use Rattle.ept_space.specs.OctreeCube.{OctreeCube, IsCube, InCube, InBox}
use Rattle.ept_space.proofs.PlaceKeys.{InBox-root}
use Rattle.std.proofs.lemmas.List.Sorted.{All-permutation}
use Rattle.std.proofs.lemmas.List.Elements.{All-weaker}
use Rattle.ept_sample.specs.Ids.{in_id_order}
use Rattle.ept_sample.proofs.IdLaws.{IsPermutation-in_id_order}
use Rattle.ept_space.proofs.Family.{child-parent, octant_of-below, depth-child, depth-parent}
use Rattle.ept_sample.specs.declared.tiles.Tile.{Tile}
use Rattle.ept_sample.specs.declared.tiles.Tiles.{Tiles}
use Rattle.ept_sample.specs.Place.{place, AllInCube, AllInBox}
use Rattle.ept_sample.specs.Arrivals.{losers, overflows, sent, none_open}
use Rattle.ept_sample.specs.Sampling.{given, sampling, is_node}
use Rattle.ept_sample.specs.Nodes.{with_key, tile_at, sampled}
use Rattle.ept_sample.specs.Walk.{Node, node_of, nodes_of_octants, nodes_below, with_nodes, tile_of}
use Rattle.ept_sample.specs.Members.{IsMember}
use Rattle.ept_sample.proofs.Members.{IsMember-left, IsMember-right, IsMember-append, IsMember-map, member-map}
use Rattle.ept_sample.proofs.Ascending.{IsRising}
use Rattle.ept_sample.proofs.KeyOrder.{key_before, key-equal, with_key-put}
use Rattle.ept_sample.proofs.ArrivalLaws.{sent-none_open, overflows-depth, overflows-more}
use Rattle.ept_sample.proofs.SamplingLaws.{given-root, given-child, given-parent, given-top, is_node-root, is_node-given, is_node-parent, node-given, node-cases, below_or_at}
use Rattle.ept_sample.proofs.NodeLaws.{node_keys-is}
use Rattle.ept_sample.proofs.WalkLaws.{octants-zero, octants-suc, nodes_below-zero, nodes_below-suc}
use Rattle.ept_sample.proofs.Choices.{either}

-- ---- a map of nodes

-- the keys of nodes
abbrev pub keys_of : List Node → List VoxelKey
keys_of nodes = map (λ (n : Node). n.0) nodes

keys_step : (k : VoxelKey) (v : List Point) (e : Node) (es : List Node) (o : Ordering) → keys_of (insert_entry key_cmp es k v) ≡ with_key k (keys_of es) → keys_of (match_ordering o ((k, v) ∷ e ∷ es) ((e.0, v) ∷ es) (e ∷ insert_entry key_cmp es k v)) ≡ match_ordering o (k ∷ e.0 ∷ keys_of es) (e.0 ∷ keys_of es) (e.0 ∷ with_key k (keys_of es))
keys_step k v e es Less more = refl
keys_step k v e es Equal more = refl
keys_step k v e es Greater more = ap (λ (w : List VoxelKey). e.0 ∷ w) more

keys_of-insert : (k : VoxelKey) (v : List Point) (es : List Node) → keys_of (insert_entry key_cmp es k v) ≡ with_key k (keys_of es)
keys_of-insert k v [] = refl
keys_of-insert k v (e ∷ es) = keys_step k v e es (key_cmp k e.0) (keys_of-insert k v es)

entry_step : (n : Node) (k : VoxelKey) (v : List Point) (e : Node) (es : List Node) (o : Ordering) → key_cmp k e.0 ≡ o → (IsMember n (insert_entry key_cmp es k v) → ((k, v) ≡ n) ⊎ IsMember n es) → IsMember n (match_ordering o ((k, v) ∷ e ∷ es) ((e.0, v) ∷ es) (e ∷ insert_entry key_cmp es k v)) → ((k, v) ≡ n) ⊎ IsMember n (e ∷ es)
entry_step n k v e es Less is more (inl h) = inl h
entry_step n k v e es Less is more (inr m) = inr m
entry_step n k v e es Equal is more (inl h) =
    inl (ap (λ (j : VoxelKey). let t : Node = (j, v) in t) (key-equal k e.0 is) ∙ h)
entry_step n k v e es Equal is more (inr m) = inr (inr m)
entry_step n k v e es Greater is more (inl h) = inr (inl h)
entry_step n k v e es Greater is more (inr m) =
    elim (more m) [ inl h ↦ inl h | inr r ↦ inr (inr r) ]

-- a node of a map that a node was put into is that node, or was there
IsMember-insert : (n : Node) (k : VoxelKey) (v : List Point) (es : List Node) → IsMember n (insert_entry key_cmp es k v) → ((k, v) ≡ n) ⊎ IsMember n es
IsMember-insert n k v [] (inl h) = inl h
IsMember-insert n k v [] (inr m) = absurd m
IsMember-insert n k v (e ∷ es) m = entry_step n k v e es (key_cmp k e.0) refl (IsMember-insert n k v es) m

-- the keys stay in order
pub IsRising-with_nodes : (es ns : List Node) → IsRising key_before (keys_of es) → IsRising key_before (keys_of (with_nodes es ns))
IsRising-with_nodes es [] up = up
IsRising-with_nodes es (n ∷ ns) up =
    IsRising-with_nodes (insert_entry key_cmp es n.0 n.1) ns (subst (λ (w : List VoxelKey). IsRising key_before w) (sym (keys_of-insert n.0 n.1 es)) ((with_key-put n.0 (keys_of es)).3 up))

-- the nodes are those that were there, and those that were put into it
pub IsMember-with_nodes : (n : Node) (es ns : List Node) → IsMember n (with_nodes es ns) → IsMember n es ⊎ IsMember n ns
IsMember-with_nodes n es [] m = inl m
IsMember-with_nodes n es (k ∷ ns) m =
    elim (IsMember-with_nodes n (insert_entry key_cmp es k.0 k.1) ns m) [
      | inl h ↦ elim (IsMember-insert n k.0 k.1 es h) [ inl is ↦ inr (inl is) | inr r ↦ inl r ]
      | inr r ↦ inr (inr r)
    ]

key_stays : (j : VoxelKey) (es ns : List Node) → IsMember j (keys_of es) → IsMember j (keys_of (with_nodes es ns))
key_stays j es [] m = m
key_stays j es (n ∷ ns) m =
    key_stays j (insert_entry key_cmp es n.0 n.1) ns (subst (λ (w : List VoxelKey). IsMember j w) (sym (keys_of-insert n.0 n.1 es)) ((with_key-put n.0 (keys_of es)).1 j m))

-- each key that was put into it is there
pub with_nodes-IsMember : (j : VoxelKey) (es ns : List Node) → IsMember j (keys_of ns) → IsMember j (keys_of (with_nodes es ns))
with_nodes-IsMember j es [] m = absurd m
with_nodes-IsMember j es (n ∷ ns) (inl is) =
    key_stays j (insert_entry key_cmp es n.0 n.1) ns (subst (λ (w : List VoxelKey). IsMember j w) (sym (keys_of-insert n.0 n.1 es)) (subst (λ (w : VoxelKey). IsMember w (with_key n.0 (keys_of es))) is (with_key-put n.0 (keys_of es)).2))
with_nodes-IsMember j es (n ∷ ns) (inr m) = with_nodes-IsMember j (insert_entry key_cmp es n.0 n.1) ns m

-- ---- the nodes below octants

if_member : (n : Node) (b : Bool) (xs : List Node) → IsMember n (cond b xs []) → (b ≡ true) × IsMember n xs
if_member n true xs m = (refl, m)
if_member n false xs m = absurd m

member_if : (n : Node) (b : Bool) (xs : List Node) → b ≡ true → IsMember n xs → IsMember n (cond b xs [])
member_if n b xs e m = let M : Bool → Type 0 = λ c. IsMember n (cond c xs []) in subst M (sym e) m

-- a node is below an octant that overflows
abbrev pub BelowOctant : (VoxelKey → List Point → List Node) → Rules → VoxelKey → List Point → ℕ → Node → ℕ → Type 0
BelowOctant below rules key given most n o =
    (o < most) × (overflows rules key.depth given o ≡ true) × IsMember n (below (child key o) (losers rules key.depth given o))

pub IsMember-octants : (below : VoxelKey → List Point → List Node) (rules : Rules) (key : VoxelKey) (given : List Point) (most : ℕ) (n : Node) → IsMember n (nodes_of_octants below rules key given most) → (o : ℕ) × BelowOctant below rules key given most n o
IsMember-octants below rules key given zero n m =
    absurd (subst (λ (w : List Node). IsMember n w) (octants-zero below rules key given) m)
IsMember-octants below rules key given (suc most) n m =
    elim (IsMember-append n (nodes_of_octants below rules key given most) (cond (overflows rules key.depth given most) (below (child key most) (losers rules key.depth given most)) []) (subst (λ (w : List Node). IsMember n w) (octants-suc below rules key given most) m)) [
      | inl l ↦
          let h : (o : ℕ) × BelowOctant below rules key given most n o = IsMember-octants below rules key given most n l in
          (h.0, (omega (arith, h.1.0), h.1.1, h.1.2))
      | inr r ↦
          let h = if_member n (overflows rules key.depth given most) (below (child key most) (losers rules key.depth given most)) r in
          (most, (omega arith, h.0, h.1))
    ]

pub octants-IsMember : (below : VoxelKey → List Point → List Node) (rules : Rules) (key : VoxelKey) (given : List Point) (most : ℕ) (n : Node) (o : ℕ) → BelowOctant below rules key given most n o → IsMember n (nodes_of_octants below rules key given most)
octants-IsMember below rules key given zero n o h = absurd (omega (arith, h.0))
octants-IsMember below rules key given (suc most) n o h =
    subst (λ (w : List Node). IsMember n w) (sym (octants-suc below rules key given most))
    (elim (below_or_at o most (omega (arith, h.0))) [
      | inl less ↦ IsMember-left n (nodes_of_octants below rules key given most) (cond (overflows rules key.depth given most) (below (child key most) (losers rules key.depth given most)) []) (octants-IsMember below rules key given most n o (less, h.1, h.2))
      | inr same ↦
          IsMember-right n (nodes_of_octants below rules key given most) (cond (overflows rules key.depth given most) (below (child key most) (losers rules key.depth given most)) []) (last same)
    ])
  where
    last : o ≡ most → IsMember n (cond (overflows rules key.depth given most) (below (child key most) (losers rules key.depth given most)) [])
    last same =
        subst (λ (w : ℕ). IsMember n (cond (overflows rules key.depth given w) (below (child key w) (losers rules key.depth given w)) [])) same (member_if n (overflows rules key.depth given o) (below (child key o) (losers rules key.depth given o)) h.1 h.2)

-- ---- the walk

-- what the parent gives to the child of an octant that overflows
losers-given : (rules : Rules) (points : List Point) (key : VoxelKey) (o : ℕ) → o < 8 → overflows rules key.depth (given rules points key) o ≡ true → losers rules key.depth (given rules points key) o ≡ given rules points (child key o)
losers-given rules points key o small over =
    sym (given-child rules points key o small ∙ (sent-none_open rules key.depth (given rules points key) o ∙ ap (λ (b : Bool). cond b (losers rules key.depth (given rules points key) o) []) over))

some_of : (xs : List Point) (t : ℕ) → t < length xs → (p : Point) × IsMember p xs
some_of [] t more = absurd (omega arith)
some_of (p ∷ xs) t more = (p, inl refl)

-- that child is a node
child-node : (rules : Rules) (points : List Point) (key : VoxelKey) (o : ℕ) → o < 8 → overflows rules key.depth (given rules points key) o ≡ true → is_node rules points (child key o) ≡ true
child-node rules points key o small over =
    let some = some_of (losers rules key.depth (given rules points key) o) rules.threshold (overflows-more rules key.depth (given rules points key) o over) in
    is_node-given rules points (child key o) some.0 (subst (λ (xs : List Point). IsMember some.0 xs) (losers-given rules points key o small over) some.1)

-- a node of the sampling, with its points
pub record IsSampled (rules : Rules) (points : List Point) (n : Node) : Type 0 where
  pub in_it : is_node rules points n.0 ≡ true
  pub its_points : n.1 ≡ sampling rules points n.0

first_node : (rules : Rules) (points : List Point) (key : VoxelKey) → is_node rules points key ≡ true → IsSampled rules points (node_of rules key (given rules points key))
unfolding sampling
first_node rules points key is = record { in_it = is; its_points = refl }

-- the walk comes to nodes of the sampling
walk_sound : (rules : Rules) (points : List Point) (depths : ℕ) (key : VoxelKey) → is_node rules points key ≡ true → (n : Node) → IsMember n (nodes_below rules depths key (given rules points key)) → IsSampled rules points n
walk_sound rules points zero key is n m =
    elim (subst (λ (w : List Node). IsMember n w) (nodes_below-zero rules key (given rules points key)) m) [ inl h ↦ subst (IsSampled rules points) h (first_node rules points key is) | inr none ↦ absurd none ]
walk_sound rules points (suc depths) key is n m =
    elim (subst (λ (w : List Node). IsMember n w) (nodes_below-suc rules depths key (given rules points key)) m) [
      | inl h ↦ subst (IsSampled rules points) h (first_node rules points key is)
      | inr r ↦
          let h : (o : ℕ) × BelowOctant (nodes_below rules depths) rules key (given rules points key) 8 n o =
          IsMember-octants (nodes_below rules depths) rules key (given rules points key) 8 n r in
          walk_sound rules points depths (child key h.0) (child-node rules points key h.0 h.1.0 h.1.1) n (subst (λ (xs : List Point). IsMember n (nodes_below rules depths (child key h.0) xs)) (losers-given rules points key h.0 h.1.0 h.1.1) h.1.2)
    ]

head_in : (rules : Rules) (depths : ℕ) (key : VoxelKey) (xs : List Point) → IsMember (node_of rules key xs) (nodes_below rules depths key xs)
head_in rules zero key xs =
    subst (λ (w : List Node). IsMember (node_of rules key xs) w) (sym (nodes_below-zero rules key xs)) (inl refl)
head_in rules (suc depths) key xs =
    subst (λ (w : List Node). IsMember (node_of rules key xs) w) (sym (nodes_below-suc rules depths key xs)) (inl refl)

-- the key of one of the nodes
abbrev pub IsWalked : VoxelKey → List Node → Type 0
IsWalked k nodes = IsMember k (keys_of nodes)

walked_octant : (rules : Rules) (depths : ℕ) (key : VoxelKey) (xs : List Point) (o : ℕ) (k : VoxelKey) → o < 8 → overflows rules key.depth xs o ≡ true → IsWalked k (nodes_below rules depths (child key o) (losers rules key.depth xs o)) → IsWalked k (nodes_below rules (suc depths) key xs)
walked_octant rules depths key xs o k small over m =
    let n = member-map (λ (e : Node). e.0) k (nodes_below rules depths (child key o) (losers rules key.depth xs o)) m in
    subst (λ (w : List Node). IsMember k (keys_of w)) (sym (nodes_below-suc rules depths key xs)) (inr (subst (λ (w : VoxelKey). IsMember w (keys_of (nodes_of_octants (nodes_below rules depths) rules key xs 8))) n.2 (IsMember-map (λ (e : Node). e.0) n.0 (nodes_of_octants (nodes_below rules depths) rules key xs 8) (octants-IsMember (nodes_below rules depths) rules key xs 8 n.0 o (small, over, n.1)))))

-- if it comes to a key with an octant that overflows, it comes to the octant's child
walk_on : (rules : Rules) (points : List Point) (depths : ℕ) (key k : VoxelKey) (o : ℕ) → rules.cube.depth ≤ key.depth + depths → o < 8 → overflows rules k.depth (given rules points k) o ≡ true → IsWalked k (nodes_below rules depths key (given rules points key)) → IsWalked (child k o) (nodes_below rules depths key (given rules points key))
walk_on rules points zero key k o low small over m =
    elim (subst (λ (w : List Node). IsMember k (keys_of w)) (nodes_below-zero rules key (given rules points key)) m) [
      | inl h ↦ absurd (let level : key.depth ≡ k.depth = ap (λ (j : VoxelKey). j.depth) h in omega (arith, overflows-depth rules k.depth (given rules points k) o over))
      | inr none ↦ absurd none
    ]
walk_on rules points (suc depths) key k o low small over m =
    elim (subst (λ (w : List Node). IsMember k (keys_of w)) (nodes_below-suc rules depths key (given rules points key)) m) [
      | inl h ↦
          let over' : overflows rules key.depth (given rules points key) o ≡ true = subst (λ (j : VoxelKey). overflows rules j.depth (given rules points j) o ≡ true) (sym h) over in
          let here : IsWalked (child key o) (nodes_below rules (suc depths) key (given rules points key)) =
          walked_octant rules depths key (given rules points key) o (child key o) small over' (IsMember-map (λ (e : Node). e.0) (node_of rules (child key o) (losers rules key.depth (given rules points key) o)) (nodes_below rules depths (child key o) (losers rules key.depth (given rules points key) o)) (head_in rules depths (child key o) (losers rules key.depth (given rules points key) o))) in
          subst (λ (j : VoxelKey). IsWalked (child j o) (nodes_below rules (suc depths) key (given rules points key))) h here
      | inr r ↦
          let n = member-map (λ (e : Node). e.0) k (nodes_of_octants (nodes_below rules depths) rules key (given rules points key) 8) r in
          let h : (q : ℕ) × BelowOctant (nodes_below rules depths) rules key (given rules points key) 8 n.0 q =
          IsMember-octants (nodes_below rules depths) rules key (given rules points key) 8 n.0 n.1 in
          let is = losers-given rules points key h.0 h.1.0 h.1.1 in
          let inside : IsWalked k (nodes_below rules depths (child key h.0) (given rules points (child key h.0))) =
          subst (λ (w : VoxelKey). IsMember w (keys_of (nodes_below rules depths (child key h.0) (given rules points (child key h.0))))) n.2 (IsMember-map (λ (e : Node). e.0) n.0 (nodes_below rules depths (child key h.0) (given rules points (child key h.0))) (subst (λ (xs : List Point). IsMember n.0 (nodes_below rules depths (child key h.0) xs)) is h.1.2)) in
          let on = walk_on rules points depths (child key h.0) k o (omega (arith, depth-child key h.0)) small over inside in
          walked_octant rules depths key (given rules points key) h.0 (child k o) h.1.0 h.1.1 (subst (λ (xs : List Point). IsWalked (child k o) (nodes_below rules depths (child key h.0) xs)) (sym is) on)
    ]

over_of : (rules : Rules) (xs : List Point) (d o : ℕ) (p : Point) → IsMember p (sent rules d none_open xs o) → overflows rules d xs o ≡ true
over_of rules xs d o p m =
    elim (either (overflows rules d xs o)) [
      | inl over ↦ over
      | inr shut ↦
          let M : Bool → Type 0 = λ b. IsMember p (cond b (losers rules d xs o) []) in
          absurd (subst M shut (subst (λ (w : List Point). IsMember p w) (sent-none_open rules d xs o) m))
    ]

-- all nodes that the walk from the root comes to
abbrev pub walk : Rules → List Point → List Node
walk rules points = nodes_below rules rules.cube.depth root (given rules points root)

walked_root : (rules : Rules) (points : List Point) → IsWalked root (walk rules points)
walked_root rules points =
    IsMember-map (λ (n : Node). n.0) (node_of rules root (given rules points root)) (walk rules points) (head_in rules rules.cube.depth root (given rules points root))

-- so it comes to each node
walk_complete : (rules : Rules) (points : List Point) (d : ℕ) (k : VoxelKey) → k.depth ≡ d → is_node rules points k ≡ true → IsWalked k (walk rules points)
walk_complete rules points zero k e is =
    elim (node-cases rules points k is) [
      | inl top ↦ subst (λ (j : VoxelKey). IsWalked j (walk rules points)) (sym top) (walked_root rules points)
      | inr some ↦ subst (λ (j : VoxelKey). IsWalked j (walk rules points)) (sym (given-top rules points k some.0 e some.1)) (walked_root rules points)
    ]
walk_complete rules points (suc d) k e is =
    let deep : 0 < k.depth = omega arith in
    let level : (parent k).depth ≡ d = omega (arith, depth-parent k) in
    let some = node-given rules points k deep is in
    let over : overflows rules (parent k).depth (given rules points (parent k)) (octant_of k) ≡ true =
    over_of rules (given rules points (parent k)) (parent k).depth (octant_of k) some.0 (subst (λ (xs : List Point). IsMember some.0 xs) (given-parent rules points k deep) some.1) in
    let above : IsWalked (parent k) (walk rules points) =
    walk_complete rules points d (parent k) level (is_node-parent rules points k deep is) in
    subst (λ (j : VoxelKey). IsWalked j (walk rules points)) (child-parent k deep) (walk_on rules points rules.cube.depth root (parent k) (octant_of k) (omega arith) (octant_of-below k) over above)

-- ---- the map that the walk fills

tiles_are : (rules : Rules) (points : List Point) (nodes : List Node) → ((n : Node) → IsMember n nodes → IsSampled rules points n) → map tile_of nodes ≡ map (tile_at rules points) (keys_of nodes)
tiles_are rules points [] each = refl
tiles_are rules points (n ∷ nodes) each =
    ap (λ (xs : List Point). (let t : Tile = record { key = n.0; points = xs } in t) ∷ map tile_of nodes) (each n (inl refl)).its_points
    ∙ ap (λ (ts : List Tile). tile_at rules points n.0 ∷ ts) (tiles_are rules points nodes (λ k m. each k (inr m)))

-- its nodes, as tiles, are the sampling
pub walk-sampled : (rules : Rules) (points : List Point) → IsCube rules.cube → AllInCube rules.cube points → map tile_of (with_nodes [] (walk rules points)) ≡ sampled rules points
unfolding sampled
walk-sampled rules points ok inside =
    tiles_are rules points (with_nodes [] (walk rules points)) sound
    ∙ ap (λ (keys : List VoxelKey). map (tile_at rules points) keys) (node_keys-is rules points (keys_of (with_nodes [] (walk rules points))) ok inside (IsRising-with_nodes [] (walk rules points) tt) there (λ k is. with_nodes-IsMember k [] (walk rules points) (walk_complete rules points k.depth k refl is)))
  where
    sound : (n : Node) → IsMember n (with_nodes [] (walk rules points)) → IsSampled rules points n
    sound n m =
        elim (IsMember-with_nodes n [] (walk rules points) m) [ inl none ↦ absurd none | inr w ↦ walk_sound rules points rules.cube.depth root (is_node-root rules points) n w ]

    there : (k : VoxelKey) → IsMember k (keys_of (with_nodes [] (walk rules points))) → is_node rules points k ≡ true
    there k m =
        let n = member-map (λ (e : Node). e.0) k (with_nodes [] (walk rules points)) m in
        subst (λ (j : VoxelKey). is_node rules points j ≡ true) n.2 (sound n.0 n.1).in_it

-- ---- the points that the walk begins with

pub given-InCube : (cube : OctreeCube) (points items xs : List Point) → xs ≡ items → items ≡ in_id_order points → AllInCube cube points → AllInCube cube xs
given-InCube cube points items xs e is inside =
    let M : List Point → Type 0 = λ w. AllInCube cube w in
    subst M (sym (e ∙ is)) (All-permutation (λ p. InCube cube (place p)) points (in_id_order points) (IsPermutation-in_id_order points) inside)

pub root-InBox : (cube : OctreeCube) (points items xs : List Point) → xs ≡ items → items ≡ in_id_order points → AllInCube cube points → AllInBox cube root xs
root-InBox cube points items xs e is inside =
    All-weaker (λ p. InCube cube (place p)) (λ p. InBox cube root (place p)) (λ p h. InBox-root cube (place p) h) xs (given-InCube cube points items xs e is inside)

-- the map, if the walk began with the points in id order and an empty map
pub walk-entries : (rules : Rules) (points items xs : List Point) (start new : List Node) (depths : ℕ) → IsCube rules.cube → AllInCube rules.cube points → start ≡ [] → depths ≡ rules.cube.depth → xs ≡ items → items ≡ in_id_order points → new ≡ with_nodes start (nodes_below rules depths root xs) → map tile_of new ≡ sampled rules points
walk-entries rules points items xs start new depths ok inside none all e is filled =
    ap (λ (w : List Node). map tile_of w)
    (filled
    ∙ (ap (λ (w : List Node). with_nodes w (nodes_below rules depths root xs)) none
    ∙ (ap (λ (n : ℕ). with_nodes [] (nodes_below rules n root xs)) all
    ∙ ap (λ (w : List Point). with_nodes [] (nodes_below rules rules.cube.depth root w)) (e ∙ (is ∙ sym (given-root rules points))))))
    ∙ walk-sampled rules points ok inside

pub tiles-same : {E : Type 0} (r : Result Tiles E) (a b : List Tile) → a ≡ b → IfOk r (λ t. t.tiles ≡ a) → IfOk r (λ t. t.tiles ≡ b)
tiles-same {E} r a b e h = let M : List Tile → Type 0 = λ w. IfOk r (λ t. t.tiles ≡ w) in subst M e h
