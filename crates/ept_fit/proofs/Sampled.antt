-- The nodes of a sampling are fit.
use Rattle.std.proofs.Common.{◌≡◌, ◌∙◌, ℕ, ◌≤◌, ◌<◌, Bool, true, false, ◌⊎◌, inl, inr, List, [], ◌∷◌, map, refl, sym, ap, subst, arith, length}
use Rattle.std.specs.List.{All}
use Rattle.std.proofs.lemmas.List.{append-nil}
use Rattle.ept_point.specs.declared.point.Point.{Point}
use Rattle.ept_point.specs.Order.{IsAscending}
use Rattle.ept_space.specs.declared.cube.Rules.{Rules}
use Rattle.ept_space.specs.VoxelKey.{VoxelKey, root, child, parent, is_below}
use Rattle.ept_space.specs.OctreeCube.{InBox}
use Rattle.ept_space.proofs.PlaceKeys.{octant_at-below}
use Rattle.ept_sample.specs.declared.tiles.Tile.{Tile}
use Rattle.ept_sample.specs.Place.{place}
use Rattle.ept_sample.specs.Ids.{HasDistinctIds}
use Rattle.ept_sample.specs.Arrivals.{loses, losers, octant}
use Rattle.ept_sample.specs.Sampling.{sampling, is_node}
use Rattle.ept_sample.specs.Nodes.{node_keys, tile_at, sampled}
use Rattle.ept_sample.specs.SamplingLaws.{CanBeSampled}
use Rattle.ept_sample.specs.Members.{IsMember}
use Rattle.ept_sample.proofs.Members.{All-members, member-map, IsMember-map}
use Rattle.ept_sample.proofs.Ascending.{IsRising}
use Rattle.ept_sample.proofs.KeyOrder.{key_before, AllPairs-IsRising}
use Rattle.ept_sample.proofs.IdLaws.{HasDistinctIds-IsPermutation}
use Rattle.ept_sample.proofs.SamplingLaws.{is_node-root, is_node-parent, node-depth, node-IsKey}
use Rattle.ept_sample.proofs.NodeLaws.{IsMember-node_keys, node_keys-IsMember, IsRising-node_keys, IsPermutation-sampled}
use Rattle.ept_sample.proofs.MorePoints.{length-among}
use Rattle.ept_sample.proofs.Choices.{is_false, not_both}
use Rattle.ept_core.specs.declared.node.Node.{Node}
use Rattle.ept_core.specs.State.{State, Entry, node_at, has_open, IsHeld}
use Rattle.ept_core.specs.Law.{HasPoint, KeepsLaw}
use Rattle.ept_core.specs.Steps.{resumed_node, resumed}
use Rattle.ept_core.proofs.Resumed.{resumed-keeps}
use Rattle.ept_core.proofs.CoreLaws.{landed-opens}
use Rattle.ept_core.proofs.NodeMap.{node_at-entry, node_at-member}
use Rattle.ept_core.proofs.Held.{keys-rise}
use Rattle.ept_fit.specs.Fit.{keys_in, points_in, points_within, is_among, IsInOctree, HasParent, has_child, LiesInBox, IsInOrder, IsFilled, HasNoOpenLoser, HasFewLosers, LosesAbove, HasFullChildren, AreFit}
use Rattle.ept_fit.proofs.Keys.{among-member, member-among, node-within}

-- ---- the tiles of the sampling
tile-member : (rules : Rules) (points : List Point) (node : Tile) → IsMember node (sampled rules points) → (key : VoxelKey) × IsMember key (node_keys rules points) × (tile_at rules points key ≡ node)
unfolding sampled
tile-member rules points node m = member-map (tile_at rules points) node (node_keys rules points) m

member-tile : (rules : Rules) (points : List Point) (key : VoxelKey) → IsMember key (node_keys rules points) → IsMember (tile_at rules points key) (sampled rules points)
unfolding sampled
member-tile rules points key m = IsMember-map (tile_at rules points) key (node_keys rules points) m

tiles-keys : (rules : Rules) (points : List Point) → keys_in (sampled rules points) ≡ node_keys rules points
unfolding sampled
tiles-keys rules points = each (node_keys rules points)
  where
    each : (keys : List VoxelKey) → keys_in (map (tile_at rules points) keys) ≡ keys
    each [] = refl
    each (key ∷ keys) = ap (λ (w : List VoxelKey). key ∷ w) (each keys)

stands-points : (rules : Rules) (points : List Point) (key : VoxelKey) → (resumed_node rules points true key).points ≡ sampling rules points key
unfolding resumed_node
stands-points rules points key = refl

module _ (rules : Rules) (points : List Point) (can : CanBeSampled rules points) where
  abbrev nodes : List Tile
  nodes = sampled rules points

  abbrev keys : List VoxelKey
  keys = keys_in nodes

  abbrev s : State
  s = resumed rules points [] (λ key. true)

  law : KeepsLaw rules points s
  law = resumed-keeps rules points points [] (λ key. true) can (sym (append-nil points))

  -- ---- the keys

  is_key : (key : VoxelKey) → is_among keys key ≡ true → is_node rules points key ≡ true
  is_key key some =
      IsMember-node_keys rules points key (subst (λ (w : List VoxelKey). IsMember key w) (tiles-keys rules points) (among-member keys key some))

  key_is : (key : VoxelKey) → is_node rules points key ≡ true → is_among keys key ≡ true
  key_is key e =
      member-among keys key (subst (λ (w : List VoxelKey). IsMember key w) (sym (tiles-keys rules points)) (node_keys-IsMember rules points key can.cube can.inside e))

  -- an octant is open in the state if the child is a node
  opens : (key : VoxelKey) (o : ℕ) → o < 8 → has_open (node_at s.nodes key) o ≡ has_child keys key o
  opens key o low =
      landed-opens rules points points s key o law refl (sym (append-nil points)) low ∙ same (is_node rules points (child key o)) refl
    where
      same : (b : Bool) → is_node rules points (child key o) ≡ b → b ≡ has_child keys key o
      same true e = sym (key_is (child key o) e)
      same false e = sym (is_false (has_child keys key o) (λ some. not_both (is_node rules points (child key o)) (is_key (child key o) some) e))

  -- ---- the nodes

  each_node : (P : Tile → Type 0) → ((key : VoxelKey) → IsMember key (node_keys rules points) → P (tile_at rules points key)) → All P nodes
  each_node P each =
      All-members P nodes (λ node m. (let r = tile-member rules points node m in subst P r.2 (each r.0 r.1)))

  each_key : (P : VoxelKey → Type 0) → ((key : VoxelKey) → is_node rules points key ≡ true → P key) → All P keys
  each_key P each = All-members P keys (λ key m. each key (is_key key (member-among keys key m)))

  entry : VoxelKey → Entry
  entry key = (key, resumed_node rules points true key)

  stands : (key : VoxelKey) → IsMember key (node_keys rules points) → node_at s.nodes key ≡ resumed_node rules points true key
  stands key m =
      node_at-member s.nodes (key, resumed_node rules points true key) (keys-rise rules points s law) (IsMember-map (λ (k : VoxelKey). let e : Entry = (k, resumed_node rules points true k) in e) key (node_keys rules points) m)

  points_there : (key : VoxelKey) → IsMember key (node_keys rules points) → (node_at s.nodes key).points ≡ sampling rules points key
  points_there key m = ap (λ (n : Node). n.points) (stands key m) ∙ stands-points rules points key

  held_there : (key : VoxelKey) (p : Point) → IsMember key (node_keys rules points) → IsMember p (sampling rules points key) → IsMember p (node_at s.nodes key).points
  held_there key p m n = subst (λ (w : List Point). IsMember p w) (sym (points_there key m)) n

  -- a point that is held is in a tile
  held_tile : (key : VoxelKey) (p : Point) → IsHeld s key p → IsMember key (node_keys rules points) × IsMember p (sampling rules points key)
  held_tile key p (inr h) = absurd h.1
  held_tile key p (inl m) =
      let e = node_at-entry s.nodes key p m in
      let r = member-map (λ (k : VoxelKey). let w : Entry = (k, resumed_node rules points true k) in w) e.0 (node_keys rules points) e.1 in
      let at : IsMember key (node_keys rules points) = subst (λ (w : VoxelKey). IsMember w (node_keys rules points)) (ap (λ (w : Entry). w.0) r.2 ∙ e.2) r.1 in
      (at, subst (λ (w : List Point). IsMember p w) (points_there key at) m)

  small : (key : VoxelKey) (p : Point) → octant rules key.depth p < 8
  small key p = octant_at-below rules.cube key.depth (place p)

  no_open_loser : (key : VoxelKey) → IsMember key (node_keys rules points) → HasNoOpenLoser rules keys (tile_at rules points key)
  no_open_loser key m =
      All-members (λ (p : Point). loses rules key.depth (sampling rules points key) p ≡ true → has_child keys key (octant rules key.depth p) ≡ false) (sampling rules points key) (λ p n lost.
      sym (opens key (octant rules key.depth p) (small key p))
      ∙ law.settled.open_without_losers key p (held_there key p m n) (subst (λ (w : List Point). loses rules key.depth w p ≡ true) (sym (points_there key m)) lost))

  few_losers : (key : VoxelKey) → IsMember key (node_keys rules points) → HasFewLosers rules keys (tile_at rules points key)
  few_losers key m above o low closed =
      subst (λ (w : List Point). length (losers rules key.depth w o) ≤ rules.threshold) (points_there key m) (law.settled.closed_has_few key o low above (opens key o low ∙ closed))

  lose_above : (key top : VoxelKey) → IsMember key (node_keys rules points) → IsMember top (node_keys rules points) → is_below top key ≡ true → All (λ p. loses rules top.depth (sampling rules points top) p ≡ true) (sampling rules points key)
  lose_above key top m n below =
      All-members (λ (p : Point). loses rules top.depth (sampling rules points top) p ≡ true) (sampling rules points key) (λ p q.
      subst (λ (w : List Point). loses rules top.depth w p ≡ true) (points_there top n) (law.passed.lost_above top key p (inl (held_there key p m q)) below))

  distinct : HasDistinctIds (points_in nodes)
  distinct = HasDistinctIds-IsPermutation points (points_in nodes) (IsPermutation-sampled rules points can.cube can.inside can.distinct) can.distinct

  full_children : (key : VoxelKey) → HasFullChildren rules nodes (tile_at rules points key)
  full_children key o low some =
      let more = law.settled.open_holds_more key o low (opens key o low ∙ some) in
      let there : (p : Point) → IsMember p more.0 → IsMember p (points_within nodes (child key o)) = λ p n. (
      let h = more.2 p n in
      let t = held_tile h.0 p h.2 in
      node-within nodes (child key o) (tile_at rules points h.0) p (member-tile rules points h.0 t.0) h.1 t.1) in
      omega (arith, more.3, length-among more.0 (points_within nodes (child key o)) more.1 there)

  filled : (key : VoxelKey) → IsMember key (node_keys rules points) → IsFilled (tile_at rules points key)
  filled key m =
      subst (λ (w : List Point). (key ≡ root) ⊎ HasPoint w) (stands-points rules points key) (law.tidy.has_points (key, resumed_node rules points true key) (IsMember-map (λ (k : VoxelKey). let e : Entry = (k, resumed_node rules points true k) in e) key (node_keys rules points) m))

  in_order : (key : VoxelKey) → IsMember key (node_keys rules points) → IsInOrder (tile_at rules points key)
  in_order key m = subst (λ (w : List Point). IsAscending w) (points_there key m) (law.tidy.points_in_order key)

  pub sampled-are_fit : AreFit rules (sampled rules points)
  sampled-are_fit = record {
    cube = can.cube;
    ascend = AllPairs-IsRising keys (subst (λ (w : List VoxelKey). IsRising key_before w) (sym (tiles-keys rules points)) (IsRising-node_keys rules points));
    keys = each_key (IsInOctree rules) (λ key e. (node-IsKey rules points key can.cube can.inside e, node-depth rules points key e));
    rooted = key_is root (is_node-root rules points);
    parents = each_key (HasParent keys) (λ key e deep. key_is (parent key) (is_node-parent rules points key deep e));
    inside = each_node (LiesInBox rules) (λ key m. All-members (λ (p : Point). InBox rules.cube key (place p)) (sampling rules points key) (λ p n. law.placed.in_box key p (inl (held_there key p m n))));
    winners = each_node (HasNoOpenLoser rules keys) no_open_loser;
    few_losers = each_node (HasFewLosers rules keys) few_losers;
    passed = each_node (LosesAbove rules nodes) (λ key m. each_node (λ (top : Tile). is_below top.key key ≡ true → All (λ p. loses rules top.key.depth top.points p ≡ true) (sampling rules points key)) (λ top n below. lose_above key top m n below));
    many = each_node (HasFullChildren rules nodes) (λ key m. full_children key);
    filled = each_node IsFilled filled;
    in_order = each_node IsInOrder in_order;
    once = distinct;
  }
