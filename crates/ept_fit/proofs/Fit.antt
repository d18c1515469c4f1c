-- Nodes that are fit are the sampling of their points.
use Rattle.std.proofs.Common.{◌≡◌, ◌∙◌, ℕ, ◌≤◌, ◌<◌, true, false, ◌⊎◌, inl, inr, List, [], refl, sym, subst, arith, length}
use Rattle.std.specs.List.{All}
use Rattle.std.specs.List.Sorted.{IsPermutation}
use Rattle.std.proofs.lemmas.List.{append-nil}
use Rattle.std.proofs.lemmas.List.Sorted.{IsPermutation-refl}
use Rattle.ept_point.specs.declared.point.Point.{Point}
use Rattle.ept_point.specs.Order.{IsAscending}
use Rattle.ept_space.specs.declared.cube.Rules.{Rules}
use Rattle.ept_space.specs.VoxelKey.{VoxelKey, root, child, is_within, is_below, AreAscending}
use Rattle.ept_space.specs.OctreeCube.{InCube, InBox, key_at}
use Rattle.ept_space.proofs.Family.{depth-child}
use Rattle.ept_space.proofs.Within.{is_below-within}
use Rattle.ept_space.proofs.PlaceKeys.{key_at-box, octant_at-below, InCube-box, is_within-child_at}
use Rattle.ept_sample.specs.declared.tiles.Tile.{Tile}
use Rattle.ept_sample.specs.Place.{place}
use Rattle.ept_sample.specs.Arrivals.{loses, losers, octant}
use Rattle.ept_sample.specs.Nodes.{sampled}
use Rattle.ept_sample.specs.SamplingLaws.{CanBeSampled}
use Rattle.ept_sample.specs.Members.{IsMember}
use Rattle.ept_sample.proofs.Members.{all-member, All-members, member-map}
use Rattle.ept_sample.proofs.Ascending.{IsRising}
use Rattle.ept_sample.proofs.KeyOrder.{key_before, IsRising-AllPairs}
use Rattle.ept_sample.proofs.SamplingLaws.{depth-side}
use Rattle.ept_sample.proofs.Choices.{not_both}
use Rattle.ept_core.specs.declared.node.Node.{Node}
use Rattle.ept_core.specs.State.{State, Entry, blank, node_at, has_open, keys_of, held, IsHeld}
use Rattle.ept_core.specs.Law.{HoldsMore, HasPoint, KeepsLaw}
use Rattle.ept_core.proofs.NodeMap.{key-has_node}
use Rattle.ept_core.proofs.CoreLaws.{landed-sampled}
use Rattle.ept_fit.specs.Fit.{keys_in, points_in, points_within, is_among, IsInOctree, has_child, LiesInBox, IsInOrder, IsFilled, HasNoOpenLoser, HasFewLosers, LosesAbove, HasFullChildren, AreFit}
use Rattle.ept_fit.proofs.Keys.{among-member, among-node, node-among, above-among, points-node, within-node, distinct-within}
use Rattle.ept_fit.proofs.Standing.{standing, entry_of, state_of, standing-open, blank-open, entries-keys, entries-points, entries-tiles, stands, at-each, standing-node, opens}

none-lose : (rules : Rules) (depth o : ℕ) → length (losers rules depth [] o) ≤ rules.threshold
unfolding losers
none-lose rules depth o = omega arith

module _ (rules : Rules) (nodes : List Tile) (fit : AreFit rules nodes) where
  abbrev keys : List VoxelKey
  keys = keys_in nodes

  abbrev points : List Point
  points = points_in nodes

  abbrev s : State
  s = state_of nodes

  rising : IsRising key_before keys
  rising = IsRising-AllPairs keys fit.ascend

  side : rules.cube.depth < rules.cube.e
  side = depth-side rules.cube fit.cube

  in_octree : (key : VoxelKey) → is_among keys key ≡ true → IsInOctree rules key
  in_octree key some = all-member (IsInOctree rules) key keys fit.keys (among-member keys key some)

  small : (depth : ℕ) (p : Point) → octant rules depth p < 8
  small depth p = octant_at-below rules.cube depth (place p)

  in_box : (node : Tile) (p : Point) → IsMember node nodes → IsMember p node.points → InBox rules.cube node.key (place p)
  in_box node p m n =
      all-member (λ (q : Point). InBox rules.cube node.key (place q)) p node.points (all-member (LiesInBox rules) node nodes fit.inside m) n

  in_cube : (p : Point) → IsMember p points → InCube rules.cube (place p)
  in_cube p m =
      let t = points-node nodes p m in
      let at = in_octree t.0.key (node-among nodes t.0 t.1) in
      InCube-box rules.cube t.0.key (place p) at.0 (omega (arith, at.1, side)) (in_box t.0 p t.1 t.2)

  pub can-sample : CanBeSampled rules (points_in nodes)
  can-sample = record {
    cube = fit.cube;
    inside = All-members (λ (p : Point). InCube rules.cube (place p)) points in_cube;
    distinct = fit.once;
  }

  -- ---- what is held

  held_node : (key : VoxelKey) (p : Point) → IsHeld s key p → (node : Tile) × IsMember node nodes × (node.key ≡ key) × IsMember p node.points
  held_node key p (inl m) = standing-node nodes rising key p m
  held_node key p (inr h) = absurd h.1

  node_held : (node : Tile) (p : Point) → IsMember node nodes → IsMember p node.points → IsHeld s node.key p
  node_held node p m n = inl (subst (λ (w : Node). IsMember p w.points) (sym (stands nodes rising node m)) n)

  held_in_box : (key : VoxelKey) (p : Point) → IsHeld s key p → InBox rules.cube key (place p)
  held_in_box key p h =
      let t = held_node key p h in
      subst (λ (w : VoxelKey). InBox rules.cube w (place p)) t.2 (in_box t.0 p t.1 t.3)

  held_among : (key : VoxelKey) (p : Point) → IsHeld s key p → is_among keys key ≡ true
  held_among key p h =
      let t = held_node key p h in
      subst (λ (w : VoxelKey). is_among keys w ≡ true) t.2 (node-among nodes t.0 t.1)

  held_shallow : (key : VoxelKey) (p : Point) → IsHeld s key p → key.depth ≤ rules.cube.depth
  held_shallow key p h = (in_octree key (held_among key p h)).1

  through_open : (top key : VoxelKey) (p : Point) → IsHeld s key p → is_below top key ≡ true → has_open (node_at s.nodes top) (octant rules top.depth p) ≡ true
  through_open top key p h below =
      let some = held_among key p h in
      let low = held_shallow key p h in
      let at : key_at rules.cube key.depth (place p) ≡ key = key_at-box rules.cube key (place p) (held_in_box key p h) in
      let under : is_within (child top (octant rules top.depth p)) (key_at rules.cube key.depth (place p)) ≡ true = is_within-child_at rules.cube top key.depth (place p) (subst (λ (w : VoxelKey). is_below top w ≡ true) (sym at) below) (omega (arith, low, side)) in
      opens nodes rising top (octant rules top.depth p) (above-among keys fit.parents key top some (is_below-within top key below)) (small top.depth p)
      ∙ above-among keys fit.parents key (child top (octant rules top.depth p)) some (subst (λ (w : VoxelKey). is_within (child top (octant rules top.depth p)) w ≡ true) at under)

  lost_above : (top key : VoxelKey) (p : Point) → IsHeld s key p → is_below top key ≡ true → loses rules top.depth (node_at s.nodes top).points p ≡ true
  lost_above top key p h below =
      let t = held_node key p h in
      let u = among-node nodes top (above-among keys fit.parents key top (held_among key p h) (is_below-within top key below)) in
      let under : is_below u.0.key t.0.key ≡ true = subst (λ (w : VoxelKey). is_below w t.0.key ≡ true) (sym u.2) (subst (λ (w : VoxelKey). is_below top w ≡ true) (sym t.2) below) in
      let lost : All (λ q. loses rules u.0.key.depth u.0.points q ≡ true) t.0.points = all-member (λ (w : Tile). is_below w.key t.0.key ≡ true → All (λ q. loses rules w.key.depth w.points q ≡ true) t.0.points) u.0 nodes (all-member (LosesAbove rules nodes) t.0 nodes fit.passed t.1) u.1 under in
      let at : loses rules u.0.key.depth (node_at s.nodes u.0.key).points p ≡ true = subst (λ (w : Node). loses rules u.0.key.depth w.points p ≡ true) (sym (stands nodes rising u.0 u.1)) (all-member (λ (q : Point). loses rules u.0.key.depth u.0.points q ≡ true) p t.0.points lost t.3) in
      subst (λ (w : VoxelKey). loses rules w.depth (node_at s.nodes w).points p ≡ true) u.2 at

  -- ---- what is open

  no_open_loser : (key : VoxelKey) (p : Point) → IsMember p (node_at s.nodes key).points → loses rules key.depth (node_at s.nodes key).points p ≡ true → has_open (node_at s.nodes key) (octant rules key.depth p) ≡ false
  no_open_loser key p =
      at-each nodes rising (λ k n. IsMember p n.points → loses rules k.depth n.points p ≡ true → has_open n (octant rules k.depth p) ≡ false)
      (λ node m q lost. standing-open keys node (octant rules node.key.depth p) (small node.key.depth p)
      ∙ all-member (λ (r : Point). loses rules node.key.depth node.points r ≡ true → has_child keys node.key (octant rules node.key.depth r) ≡ false) p node.points (all-member (HasNoOpenLoser rules keys) node nodes fit.winners m) q lost)
      (λ k q lost. absurd q)
      key

  child_there : (key : VoxelKey) (o : ℕ) → o < 8 → has_open (node_at s.nodes key) o ≡ true → is_among keys (child key o) ≡ true
  child_there key o low =
      at-each nodes rising (λ k n. has_open n o ≡ true → is_among keys (child k o) ≡ true)
      (λ node m e. sym (standing-open keys node o low) ∙ e)
      (λ k e. absurd (not_both (has_open blank o) e (blank-open o)))
      key

  bottom : (key : VoxelKey) (o : ℕ) → o < 8 → has_open (node_at s.nodes key) o ≡ true → key.depth < rules.cube.depth
  bottom key o low e =
      let deeper = depth-child key o in
      let there = in_octree (child key o) (child_there key o low e) in
      omega (arith, deeper, there.1)

  holds_more : (node : Tile) → IsMember node nodes → (o : ℕ) → o < 8 → has_open (standing keys node) o ≡ true → HoldsMore rules s (child node.key o)
  holds_more node m o low e = (
    points_within nodes (child node.key o),
    distinct-within nodes (child node.key o) fit.once,
    λ p q. (
        let t = within-node nodes (child node.key o) p q in
        (t.0.key, t.2, node_held t.0 p t.1 t.3)),
    all-member (HasFullChildren rules nodes) node nodes fit.many m o low (sym (standing-open keys node o low) ∙ e),
  )

  open_holds_more : (key : VoxelKey) (o : ℕ) → o < 8 → has_open (node_at s.nodes key) o ≡ true → HoldsMore rules s (child key o)
  open_holds_more key o low =
      at-each nodes rising (λ k n. has_open n o ≡ true → HoldsMore rules s (child k o))
      (λ node m e. holds_more node m o low e)
      (λ k e. absurd (not_both (has_open blank o) e (blank-open o)))
      key

  closed_has_few : (key : VoxelKey) (o : ℕ) → o < 8 → key.depth < rules.cube.depth → has_open (node_at s.nodes key) o ≡ false → length (losers rules key.depth (node_at s.nodes key).points o) ≤ rules.threshold
  closed_has_few key o low =
      at-each nodes rising (λ k n. k.depth < rules.cube.depth → has_open n o ≡ false → length (losers rules k.depth n.points o) ≤ rules.threshold)
      (λ node m above e. all-member (HasFewLosers rules keys) node nodes fit.few_losers m above o low (sym (standing-open keys node o low) ∙ e))
      (λ k above e. none-lose rules k.depth o)
      key

  -- ---- the state keeps the law

  has_points : (e : Entry) → IsMember e s.nodes → (e.0 ≡ root) ⊎ HasPoint e.1.points
  has_points e m =
      let r = member-map (entry_of keys) e nodes m in
      subst (λ (w : Entry). (w.0 ≡ root) ⊎ HasPoint w.1.points) r.2 (all-member IsFilled r.0 nodes fit.filled r.1)

  keys_are : keys_of s.nodes ≡ keys
  keys_are = entries-keys keys nodes

  nothing_flies : held s ≡ points
  nothing_flies = append-nil _ ∙ entries-points keys nodes

  pub fit-keeps : KeepsLaw rules (points_in nodes) (state_of nodes)
  fit-keeps = record {
    points_law = can-sample;
    same_points = (
      points,
      record {
        suffix = sym (append-nil points);
        held_once = subst (λ (w : List Point). IsPermutation points w) (sym nothing_flies) (IsPermutation-refl points);
      },
    );
    placed = record { in_box = held_in_box; shallow = held_shallow };
    passed = record { through_open = through_open; lost_above = lost_above };
    settled = record { open_without_losers = no_open_loser; open_holds_more = open_holds_more; closed_has_few = closed_has_few };
    bottom = bottom;
    rooted = record {
      has_root = key-has_node s.nodes root (subst (λ (w : List VoxelKey). IsMember root w) (sym keys_are) (among-member keys root fit.rooted));
      flying = λ f m. absurd m;
    };
    tidy = record {
      has_points = has_points;
      in_order = subst (λ (w : List VoxelKey). AreAscending w) (sym keys_are) fit.ascend;
      points_in_order = at-each nodes rising (λ k n. IsAscending n.points) (λ node m. all-member IsInOrder node nodes fit.in_order m) (λ k. tt);
    };
  }

-- nodes that are fit are the sampling of their points, and these can be sampled
pub fit-sampled : (rules : Rules) (nodes : List Tile) → AreFit rules nodes → CanBeSampled rules (points_in nodes) × (nodes ≡ sampled rules (points_in nodes))
fit-sampled rules nodes fit = (
  can-sample rules nodes fit,
  sym (entries-tiles (keys_in nodes) nodes) ∙ landed-sampled rules (points_in nodes) (points_in nodes) (state_of nodes) (fit-keeps rules nodes fit) refl (sym (append-nil (points_in nodes))),
)
