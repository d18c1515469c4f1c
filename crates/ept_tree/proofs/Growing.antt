-- A tree into which points are inserted keeps the law of the core: each turn is a step of it.
use Rattle.std.proofs.Common.{◌≡◌, ◌∙◌, ℕ, zero, suc, ◌+◌, ◌≤◌, ◌<◌, Bool, true, not, ◌||◌, ◌&&◌, ◌==◌, inl, inr, List, [], ◌∷◌, ◌++◌, map, refl, sym, ap, subst, arith, length, Some, None, Result, Ok, Err, OnOk}
use Rattle.std.specs.List.{flat_map}
use Rattle.std.specs.BTreeMap.{is_at, insert_entry}
use Rattle.std.specs.Map.{lookup, set_value}
use Rattle.std.proofs.lemmas.List.Elements.{filter_agree, All-nil, All-cons, All-head, All-append}
use Rattle.ept_point.specs.declared.point.Point.{Point}
use Rattle.ept_space.specs.declared.cube.Rules.{Rules}
use Rattle.ept_space.specs.VoxelKey.{VoxelKey, root, child, key_cmp}
use Rattle.ept_space.specs.OctreeCube.{InBox}
use Rattle.ept_space.proofs.PlaceKeys.{octant_at-below}
use Rattle.ept_space.proofs.Family.{depth-child}
use Rattle.ept_sample.specs.Place.{place}
use Rattle.ept_sample.specs.Ids.{HasDistinctIds, in_id_order}
use Rattle.ept_sample.specs.Arrivals.{loses, octant, overflows, is_open, leaves, kept, sent, all_octants, none_open}
use Rattle.ept_sample.specs.SamplingLaws.{CanBeSampled}
use Rattle.ept_sample.specs.Nodes.{node_keys, tile_at, sampled}
use Rattle.ept_sample.specs.declared.tiles.Tile.{Tile}
use Rattle.std.proofs.lemmas.List.{length-map}
use Rattle.ept_sample.proofs.Members.{IsMember-left}
use Rattle.ept_sample.proofs.Octants.{IsMember-octant}
use Rattle.ept_sample.proofs.MorePoints.{length-node_keys-among}
use Rattle.ept_sample.specs.Members.{IsMember}
use Rattle.ept_grid.specs.Mask.{opened}
use Rattle.ept_grid.specs.Outgoing.{Leaving, points_at}
use Rattle.ept_grid.specs.Node as grid
use Rattle.ept_grid.specs.Node.{is_open_in, given_with, TakesIn}
use Rattle.ept_core.specs.declared.flight.Flight.{Flight}
use Rattle.ept_core.specs.declared.node.Node as core
use Rattle.ept_core.specs.State.{State, Entry, blank, node_at, has_node, has_open}
use Rattle.ept_core.specs.Steps.{with_node, gathered, node_after, flights_after}
use Rattle.ept_core.specs.Law.{KeepsLaw}
use Rattle.ept_core.proofs.ArriveLaw.{arrive-keeps}
use Rattle.ept_core.proofs.OtherSteps.{draw-keeps}
use Rattle.ept_core.proofs.CoreLaws.{begun-keeps, landed-sampled, all-sampled}
use Rattle.ept_core.proofs.Held.{keys-rise, distinct-drawn}
use Rattle.ept_core.proofs.Lookups.{found-some, found-none, set_value-with}
use Rattle.ept_core.proofs.Leaving.{open-at}
use Rattle.ept_core.proofs.Arriving.{distinct-arrival}
use Rattle.ept_tree.specs.declared.arrival.Arrival.{Arrival}
use Rattle.ept_tree.specs.Sending.{arrivals_to, sending}
use Rattle.ept_node.specs.Batch.{seen}
use Rattle.ept_table.specs.Octree.{Branch, entry_of, tile_of, AreNodes}
use Rattle.ept_tree.specs.Tree.{flight_of, state_of, IsTree, AreAtDepth}
use Rattle.ept_tree.proofs.Branches.{branch, entry-some, entry-none, lookup-member, entries-set, entries-insert, own-set, own-insert, tiles-of}
use Rattle.ept_core.proofs.Regrouping.{CarryTheSame, regrouped}
use Rattle.ept_tree.proofs.Regrouping.{behind-others, one-each, whole, split, split-same, flights-append}

-- ---- the eight octants

pub map_alike : {X : Type 0} (f g : ℕ → X) (os : List ℕ) → ((o : ℕ) → IsMember o os → f o ≡ g o) → map f os ≡ map g os
map_alike f g [] same = refl
map_alike {X} f g (o ∷ os) same =
    ap (λ (x : X). x ∷ map f os) (same o (inl refl)) ∙ ap (λ (w : List X). g o ∷ w) (map_alike f g os (λ k m. same k (inr m)))

flat_alike : {X : Type 0} (f g : ℕ → List X) (os : List ℕ) → ((o : ℕ) → IsMember o os → f o ≡ g o) → flat_map f os ≡ flat_map g os
flat_alike f g [] same = refl
flat_alike {X} f g (o ∷ os) same =
    ap (λ (x : List X). x ++ flat_map f os) (same o (inl refl)) ∙ ap (λ (w : List X). g o ++ w) (flat_alike f g os (λ k m. same k (inr m)))

-- ---- what opens, stays and leaves depends on the eight octants alone

module _ (rules : Rules) (depth : ℕ) (f g : ℕ → Bool) (same : (o : ℕ) → o < 8 → f o ≡ g o) (given : List Point) where
  open_alike : (o : ℕ) → o < 8 → is_open rules depth f given o ≡ is_open rules depth g given o
  unfolding is_open
  open_alike o low = ap (λ (b : Bool). b || overflows rules depth given o) (same o low)

  leaves_alike : (p : Point) → leaves rules depth f given p ≡ leaves rules depth g given p
  unfolding leaves
  leaves_alike p =
      ap (λ (b : Bool). loses rules depth given p && b) (open_alike (octant rules depth p) (octant_at-below rules.cube depth (place p)))

  kept_alike : kept rules depth f given ≡ kept rules depth g given
  unfolding kept
  kept_alike = filter_agree (λ p. not (leaves rules depth f given p)) (λ p. not (leaves rules depth g given p)) (λ p. ap not (leaves_alike p)) given

  sent_alike : (o : ℕ) → sent rules depth f given o ≡ sent rules depth g given o
  unfolding sent
  sent_alike o = filter_agree _ _ (λ p. ap (λ (b : Bool). b && (octant rules depth p == o)) (leaves_alike p)) given

-- ---- a point that arrives at a node

-- a node that took in a point is the core's node afterwards
node_then : (rules : Rules) (key : VoxelKey) (n : core.Node) (given : List Point) (new : grid.Node) → new.points ≡ kept rules key.depth (has_open n) given → ((o : ℕ) → o < 8 → is_open_in new o ≡ is_open rules key.depth (has_open n) given o) → seen new ≡ node_after rules key n given
unfolding node_after
node_then rules key n given new points opens = λ i. record {
  points = points i;
  opened = map_alike (opened new.mask) (is_open rules key.depth (has_open n) given) all_octants (λ o m. opens o (IsMember-octant o m)) i;
  is_resident = true;
}

flights_then : (rules : Rules) (key : VoxelKey) (n : core.Node) (given : List Point) → flights_after 0 rules key n given ≡ whole key (sent rules key.depth (has_open n) given) all_octants
unfolding flights_after
flights_then rules key n given = refl

gathered_then : (nodes : List Entry) (f : Flight) → gathered nodes f ≡ in_id_order (f.points ++ (node_at nodes f.key).points)
unfolding gathered
gathered_then nodes f = refl

module _ (rules : Rules) (points left : List Point) (a : Arrival) (others : List Arrival) (nodes : List Branch) (tree : IsTree rules points left (a ∷ others) nodes) where
  abbrev s : State
  s = state_of left (a ∷ others) nodes

  abbrev here : core.Node
  here = node_at (map entry_of nodes) a.key

  pub arrival-inside : InBox rules.cube a.key (place a.point)
  arrival-inside = tree.law.placed.in_box a.key a.point (inr (flight_of a, inl refl, refl, inl refl))

  pub arrival-shallow : a.key.depth ≤ rules.cube.depth
  arrival-shallow = tree.law.placed.shallow a.key a.point (inr (flight_of a, inl refl, refl, inl refl))

  pub arrival-distinct : HasDistinctIds (a.point ∷ here.points)
  arrival-distinct = distinct-arrival rules points s 0 (flight_of a) (omega arith) refl tree.law

  module _ (old new : grid.Node) (before after : List Leaving) (same_points : here.points ≡ old.points) (same_open : (o : ℕ) → o < 8 → has_open here o ≡ is_open_in old o) (key : old.key ≡ a.key) (its_rules : old.rules ≡ rules) (taken : TakesIn old new a.point before after) (empty : (o : ℕ) → points_at before o ≡ []) where
    abbrev given : List Point
    given = in_id_order (a.point ∷ here.points)

    given_is : given_with old a.point ≡ given
    given_is = ap (λ (w : List Point). in_id_order (a.point ∷ w)) (sym same_points)

    -- what the core states of the rules, the depth and the given points of the node
    abbrev Kept : Rules → VoxelKey → List Point → Type 0
    Kept r k w = new.points ≡ kept r k.depth (is_open_in old) w

    keeps : new.points ≡ kept rules a.key.depth (has_open here) given
    keeps =
        subst (λ (r : Rules). Kept r a.key given) its_rules (subst (λ (k : VoxelKey). Kept old.rules k given) key (subst (λ (w : List Point). Kept old.rules old.key w) given_is taken.points))
        ∙ sym (kept_alike rules a.key.depth (has_open here) (is_open_in old) same_open given)

    abbrev Opens : Rules → VoxelKey → List Point → Type 0
    Opens r k w = (o : ℕ) → o < 8 → is_open_in new o ≡ is_open r k.depth (is_open_in old) w o

    opens : (o : ℕ) → o < 8 → is_open_in new o ≡ is_open rules a.key.depth (has_open here) given o
    opens o low =
        subst (λ (r : Rules). Opens r a.key given) its_rules (subst (λ (k : VoxelKey). Opens old.rules k given) key (subst (λ (w : List Point). Opens old.rules old.key w) given_is taken.opens)) o low
        ∙ sym (open_alike rules a.key.depth (has_open here) (is_open_in old) same_open given o low)

    abbrev Leaves : Rules → VoxelKey → List Point → Type 0
    Leaves r k w = (o : ℕ) → o < 8 → points_at after o ≡ points_at before o ++ sent r k.depth (is_open_in old) w o

    sends : (o : ℕ) → o < 8 → points_at after o ≡ sent rules a.key.depth (has_open here) given o
    sends o low =
        subst (λ (r : Rules). Leaves r a.key given) its_rules (subst (λ (k : VoxelKey). Leaves old.rules k given) key (subst (λ (w : List Point). Leaves old.rules old.key w) given_is taken.leave)) o low
        ∙ (ap (λ (w : List Point). w ++ sent rules a.key.depth (is_open_in old) given o) (empty o)
        ∙ sym (sent_alike rules a.key.depth (has_open here) (is_open_in old) same_open given o))

    node_is : seen new ≡ node_after rules a.key here (gathered (map entry_of nodes) (flight_of a))
    node_is =
        node_then rules a.key here given new keeps opens
        ∙ ap (λ (w : List Point). node_after rules a.key here w) (sym (gathered_then (map entry_of nodes) (flight_of a)))

    abbrev on_the_way : List Arrival
    on_the_way = sending a.key after

    sent_is : on_the_way ≡ split a.key (sent rules a.key.depth (has_open here) given) all_octants
    sent_is = flat_alike (λ o. arrivals_to (child a.key o) (points_at after o)) (λ o. arrivals_to (child a.key o) (sent rules a.key.depth (has_open here) given o)) all_octants (λ o m. ap (λ (w : List Point). arrivals_to (child a.key o) w) (sends o (IsMember-octant o m)))

    flights_are : flights_after 0 rules a.key here (gathered (map entry_of nodes) (flight_of a)) ≡ whole a.key (sent rules a.key.depth (has_open here) given) all_octants
    flights_are =
        ap (λ (w : List Point). flights_after 0 rules a.key here w) (gathered_then (map entry_of nodes) (flight_of a))
        ∙ flights_then rules a.key here given

    same_flights : CarryTheSame (map flight_of others ++ flights_after 0 rules a.key here (gathered (map entry_of nodes) (flight_of a))) (map flight_of (others ++ on_the_way))
    same_flights =
        subst (λ (w : List Flight). CarryTheSame (map flight_of others ++ w) (map flight_of (others ++ on_the_way))) (sym flights_are)
        (subst (λ (w : List Flight). CarryTheSame (map flight_of others ++ whole a.key (sent rules a.key.depth (has_open here) given) all_octants) w) (sym (flights-append others on_the_way))
        (subst (λ (w : List Arrival). CarryTheSame (map flight_of others ++ whole a.key (sent rules a.key.depth (has_open here) given) all_octants) (map flight_of others ++ map flight_of w)) (sym sent_is)
        (behind-others (map flight_of others) (whole a.key (sent rules a.key.depth (has_open here) given) all_octants) (map flight_of (split a.key (sent rules a.key.depth (has_open here) given) all_octants)) (one-each others) (split-same a.key (sent rules a.key.depth (has_open here) given) all_octants))))

    abbrev core_nodes : List Entry
    core_nodes = with_node (map entry_of nodes) a.key (node_after rules a.key here (gathered (map entry_of nodes) (flight_of a)))

    -- the tree afterwards, with the points that left on their way
    pub arrived-tree : (nodes' : List Branch) → map entry_of nodes' ≡ with_node (map entry_of nodes) a.key (seen new) → AreNodes rules nodes' → IsTree rules points left (others ++ on_the_way) nodes'
    arrived-tree nodes' are own' = record {
      law = subst (λ (es : List Entry). KeepsLaw rules points (record { left = left; flights = map flight_of (others ++ on_the_way); nodes = es })) (ap (λ (n : core.Node). with_node (map entry_of nodes) a.key n) (sym node_is) ∙ sym are)
          (regrouped rules points left core_nodes (map flight_of others ++ flights_after 0 rules a.key here (gathered (map entry_of nodes) (flight_of a))) (map flight_of (others ++ on_the_way)) same_flights (arrive-keeps rules points s [] (flight_of a) (map flight_of others) tree.law refl));
      own = own';
    }

-- ---- a node that is found, and one that is new

pub has_open_then : (g : grid.Node) (o : ℕ) → o < 8 → has_open (seen g) o ≡ is_open_in g o
unfolding has_open
has_open_then g o low = open-at (opened g.mask) o low

pub blank_closed : (o : ℕ) → o < 8 → has_open blank o ≡ opened 0 o
unfolding has_open opened
blank_closed zero low = refl
blank_closed (suc zero) low = refl
blank_closed (suc (suc zero)) low = refl
blank_closed (suc (suc (suc zero))) low = refl
blank_closed (suc (suc (suc (suc zero)))) low = refl
blank_closed (suc (suc (suc (suc (suc zero))))) low = refl
blank_closed (suc (suc (suc (suc (suc (suc zero)))))) low = refl
blank_closed (suc (suc (suc (suc (suc (suc (suc zero))))))) low = refl
blank_closed (suc (suc (suc (suc (suc (suc (suc (suc o)))))))) low = absurd (omega (arith, low))

module _ (rules : Rules) (points left : List Point) (a : Arrival) (others : List Arrival) (nodes : List Branch) (tree : IsTree rules points left (a ∷ others) nodes) where
  module _ (old : grid.Node) (found : Some old ≡ lookup (is_at (key_cmp a.key)) nodes) where
    in_core : (has_node (map entry_of nodes) a.key ≡ true) × (node_at (map entry_of nodes) a.key ≡ seen old)
    in_core = found-some (map entry_of nodes) a.key (seen old) (entry-some nodes a.key old found)

    its_own : (old.key ≡ a.key) × (old.rules ≡ rules)
    its_own = tree.own (branch a.key old) (lookup-member nodes a.key old found)

    pub found-inside : InBox old.rules.cube old.key (place a.point)
    found-inside =
        subst (λ (r : Rules). InBox r.cube old.key (place a.point)) (sym its_own.1) (subst (λ (k : VoxelKey). InBox rules.cube k (place a.point)) (sym its_own.0) (arrival-inside rules points left a others nodes tree))

    pub found-distinct : HasDistinctIds (a.point ∷ old.points)
    found-distinct =
        subst (λ (n : core.Node). HasDistinctIds (a.point ∷ n.points)) in_core.1 (arrival-distinct rules points left a others nodes tree)

    pub found-above : old.key.depth < old.rules.cube.depth → a.key.depth < rules.cube.depth
    found-above less =
        subst (λ (r : Rules). a.key.depth < r.cube.depth) its_own.1 (subst (λ (k : VoxelKey). k.depth < old.rules.cube.depth) its_own.0 less)

    pub found-tree : (new : grid.Node) (before after : List Leaving) → new.key ≡ old.key → new.rules ≡ old.rules → TakesIn old new a.point before after → ((o : ℕ) → points_at before o ≡ []) → IsTree rules points left (others ++ sending a.key after) (set_value (is_at (key_cmp a.key)) nodes new)
    found-tree new before after key its_rules taken empty =
        arrived-tree rules points left a others nodes tree old new before after (ap (λ (n : core.Node). n.points) in_core.1) (λ o low. ap (λ (n : core.Node). has_open n o) in_core.1 ∙ has_open_then old o low) its_own.0 its_own.1 taken empty (set_value (is_at (key_cmp a.key)) nodes new)
        (entries-set nodes a.key new ∙ set_value-with (map entry_of nodes) a.key (seen new) (keys-rise rules points (state_of left (a ∷ others) nodes) tree.law) in_core.0)
        (own-set rules nodes a.key new tree.own (key ∙ its_own.0) (its_rules ∙ its_own.1))

  module _ (none : None ≡ lookup (is_at (key_cmp a.key)) nodes) where
    not_there : node_at (map entry_of nodes) a.key ≡ blank
    not_there = (found-none (map entry_of nodes) a.key (entry-none nodes a.key none)).1

    pub new-distinct : (old : grid.Node) → old.points ≡ [] → HasDistinctIds (a.point ∷ old.points)
    new-distinct old empty =
        subst (λ (w : List Point). HasDistinctIds (a.point ∷ w)) (ap (λ (n : core.Node). n.points) not_there ∙ sym empty) (arrival-distinct rules points left a others nodes tree)

    pub new-node-tree : (old new : grid.Node) (before after : List Leaving) → old.key ≡ a.key → old.rules ≡ rules → old.points ≡ [] → old.mask ≡ 0 → new.key ≡ old.key → new.rules ≡ old.rules → TakesIn old new a.point before after → ((o : ℕ) → points_at before o ≡ []) → IsTree rules points left (others ++ sending a.key after) (insert_entry key_cmp nodes a.key new)
    new-node-tree old new before after key its_rules no_points no_mask key' rules' taken empty =
        arrived-tree rules points left a others nodes tree old new before after (ap (λ (n : core.Node). n.points) not_there ∙ sym no_points) (λ o low. ap (λ (n : core.Node). has_open n o) not_there ∙ (blank_closed o low ∙ ap (λ (m : ℕ). opened m o) (sym no_mask))) key its_rules taken empty (insert_entry key_cmp nodes a.key new) (entries-insert nodes a.key new)
        (own-insert rules nodes a.key new tree.own (key' ∙ key) (rules' ∙ its_rules))

-- ---- a tree begins, takes points, and is the sampling

all_closed : (mask : ℕ) → mask ≡ 0 → map (opened mask) all_octants ≡ map none_open all_octants
unfolding opened
all_closed mask none = ap (λ (m : ℕ). map (opened m) all_octants) none

pub empty-tree : (rules : Rules) (points : List Point) (g : grid.Node) (nodes : List Branch) → CanBeSampled rules points → g.key ≡ root → g.rules ≡ rules → g.points ≡ [] → g.mask ≡ 0 → nodes ≡ branch root g ∷ [] → IsTree rules points points [] nodes
empty-tree rules points g nodes can key its_rules empty closed is = subst (λ (w : List Branch). IsTree rules points points [] w) (sym is) (record {
  law = subst (λ (n : core.Node). KeepsLaw rules points (record { left = points; flights = []; nodes = (root, n) ∷ [] })) (λ i. record { points = sym empty i; opened = sym (all_closed g.mask closed) i; is_resident = true }) (begun-keeps rules points can);
  own = λ b m. elim m [
    | inl same ↦ subst (λ (w : Branch). (w.1.key ≡ w.0) × (w.1.rules ≡ rules)) same (key, its_rules)
    | inr none ↦ absurd none
  ];
})

pub drawn-tree : (rules : Rules) (points left : List Point) (p : Point) (nodes : List Branch) → IsTree rules points (p ∷ left) [] nodes → IsTree rules points left (record { key = root; point = p } ∷ []) nodes
drawn-tree rules points left p nodes tree = record {
  law = draw-keeps rules points (state_of (p ∷ left) [] nodes) 0 1 tree.law;
  own = tree.own;
}

-- no point is on its way below the greatest depth
pub none-deeper : (rules : Rules) (points left : List Point) (arrivals : List Arrival) (nodes : List Branch) (depth : ℕ) → IsTree rules points left arrivals nodes → AreAtDepth depth arrivals → rules.cube.depth < depth → arrivals ≡ []
none-deeper rules points left [] nodes depth tree at deep = refl
none-deeper rules points left (a ∷ arrivals) nodes depth tree at deep =
    absurd (omega (arith, arrival-shallow rules points left a arrivals nodes tree, All-head (λ (b : Arrival). b.key.depth ≡ depth) a arrivals at, deep))

sampled-length : (rules : Rules) (points : List Point) → length (sampled rules points) ≡ length (node_keys rules points)
unfolding sampled
sampled-length rules points = length-map (node_keys rules points) (tile_at rules points)

-- a tree has at most the number of nodes of the sampling of all points
pub few-nodes : (rules : Rules) (points left : List Point) (nodes : List Branch) → IsTree rules points left [] nodes → length nodes ≤ length (sampled rules points)
few-nodes rules points left nodes tree =
    let s : State = state_of left [] nodes in
    let first : List Point = tree.law.same_points.0 in
    let suffix : points ≡ first ++ left = tree.law.same_points.1.suffix in
    let tiles : map tile_of nodes ≡ sampled rules first = sym (tiles-of nodes) ∙ landed-sampled rules points first s tree.law refl suffix in
    let more : length (node_keys rules first) ≤ length (node_keys rules points) = length-node_keys-among rules first points tree.law.points_law.cube tree.law.points_law.inside (distinct-drawn rules points s tree.law) (λ p m. subst (λ (w : List Point). IsMember p w) (sym suffix) (IsMember-left p first left m)) in
    omega (arith, more, length-map nodes tile_of, ap (λ (w : List Tile). length w) tiles, sampled-length rules first, sampled-length rules points)

pub grown-tree : (rules : Rules) (points : List Point) (nodes : List Branch) → IsTree rules points [] [] nodes → map tile_of nodes ≡ sampled rules points
grown-tree rules points nodes tree =
    sym (tiles-of nodes) ∙ all-sampled rules points (state_of [] [] nodes) tree.law refl refl

-- the points that are sent are one depth below
one_below : (key : VoxelKey) (o : ℕ) (points : List Point) → AreAtDepth (key.depth + 1) (arrivals_to (child key o) points)
one_below key o [] = All-nil (λ (b : Arrival). b.key.depth ≡ key.depth + 1)
one_below key o (p ∷ points) =
    All-cons (λ (b : Arrival). b.key.depth ≡ key.depth + 1) (record { key = child key o; point = p }) (arrivals_to (child key o) points) (depth-child key o) (one_below key o points)

all_below : (key : VoxelKey) (part : ℕ → List Point) (os : List ℕ) → AreAtDepth (key.depth + 1) (flat_map (λ o. arrivals_to (child key o) (part o)) os)
all_below key part [] = All-nil (λ (b : Arrival). b.key.depth ≡ key.depth + 1)
all_below key part (o ∷ os) =
    All-append (λ (b : Arrival). b.key.depth ≡ key.depth + 1) (arrivals_to (child key o) (part o)) (flat_map (λ k. arrivals_to (child key k) (part k)) os) (one_below key o (part o)) (all_below key part os)

pub sent-below : (key : VoxelKey) (leaving : List Leaving) → AreAtDepth (key.depth + 1) (sending key leaving)
sent-below key leaving = all_below key (points_at leaving) all_octants

-- what follows from facts on success holds on success
pub three-ok : {E : Type 0} (r : Result (Unit {0}) E) (P Q R S : Type 0) → OnOk r P → OnOk r Q → OnOk r R → (P → Q → R → S) → OnOk r S
three-ok (Ok u) P Q R S p q r' more = more p q r'
three-ok (Err e) P Q R S p q r' more = tt

pub four-ok : {E : Type 0} (r : Result (Unit {0}) E) (P Q R S V : Type 0) → OnOk r P → OnOk r Q → OnOk r R → OnOk r S → (P → Q → R → S → V) → OnOk r V
four-ok (Ok u) P Q R S V p q r' s more = more p q r' s
four-ok (Err e) P Q R S V p q r' s more = tt

pub one-ok : {E : Type 0} (r : Result (Unit {0}) E) (P R : Type 0) → OnOk r P → (P → R) → OnOk r R
one-ok (Ok u) P R p more = more p
one-ok (Err e) P R p more = tt
