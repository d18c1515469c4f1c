-- If nothing flies, the nodes are the sampling of the points that were drawn.
use Rattle.std.proofs.Common.{◌≡◌, ◌∙◌, ℕ, zero, suc, ◌≤◌, ◌<◌, true, false, ◌⊎◌, inl, inr, List, [], ◌∷◌, map, refl, sym, ap, subst, arith, length}
use Rattle.std.proofs.lemmas.Bool.{false≢true}
use Rattle.ept_point.specs.declared.point.Point.{Point}
use Rattle.ept_space.specs.declared.cube.Rules.{Rules}
use Rattle.ept_space.specs.VoxelKey.{VoxelKey, root, child, parent, is_within, is_below}
use Rattle.ept_space.specs.OctreeCube.{InCube, key_at}
use Rattle.ept_space.proofs.Family.{depth-parent}
use Rattle.ept_space.proofs.Within.{depth-within, is_within-level, is_below-from, is_below-deeper}
use Rattle.ept_space.proofs.PlaceKeys.{octant_at-below, key_at-box, key_at-root, is_within-key_at}
use Rattle.ept_sample.specs.declared.tiles.Tile.{Tile}
use Rattle.ept_sample.specs.Place.{place}
use Rattle.ept_sample.specs.Ids.{HasDistinctIds}
use Rattle.ept_sample.specs.Arrivals.{loses, octant, losers, overflows, leaves, none_open}
use Rattle.ept_sample.specs.Sampling.{given, sampling, is_node}
use Rattle.ept_sample.specs.Nodes.{node_keys, tile_at, sampled}
use Rattle.ept_sample.specs.Members.{IsMember}
use Rattle.ept_sample.proofs.Members.{IsMember-map, member-map, all-member, All-members}
use Rattle.ept_sample.proofs.Choices.{either, is_false, not_both}
use Rattle.ept_sample.proofs.IdLaws.{HasDistinctIds-IsRising, IsRising-IsAscending, HasDistinctIds-IsAscending, in_id_order-members, in_id_order-IsRising}
use Rattle.ept_sample.proofs.ArrivalLaws.{loses-beaten, best, leaves-loses, leaves-open, overflows-depth, overflows-more}
use Rattle.ept_sample.proofs.SamplingLaws.{given-top, given-leaves, given-IsMember, given-key_at, depth-side, is_node-root, is_node-given, node-cases, IsMember-sampling, sampling-IsMember, sampling-some, below_or_at, IsRising-given, IsRising-sampling}
use Rattle.ept_sample.proofs.NodeLaws.{node_keys-is}
use Rattle.ept_core.specs.declared.flight.Flight.{Flight}
use Rattle.ept_core.specs.declared.node.Node.{Node}
use Rattle.ept_core.specs.State.{State, Entry, node_at, has_open, keys_of, IsHeld, tile_of}
use Rattle.ept_core.specs.Law.{KeepsLaw}
use Rattle.ept_core.proofs.NodeMap.{node_at-entry, node_at-member, has_node-key}
use Rattle.ept_core.proofs.Held.{drawn-point, keys-rise, drawn-held, distinct-drawn}
use Rattle.ept_core.proofs.Leaving.{open-cases, loses-more, IsMember-losers, losers-IsMember, distinct-losers}
use Rattle.ept_core.proofs.Sampled.{length-among, open_overflows, below_leaves, given-below, held-given}
use Rattle.ept_core.proofs.Resumed.{child-is_node, is_node-child}

module _ (rules : Rules) (points : List Point) (s : State) (law : KeepsLaw rules points s) (landed : s.flights ≡ []) where
  abbrev sunk : List Point
  sunk = law.same_points.0

  in_node : (k : VoxelKey) (p : Point) → IsHeld s k p → IsMember p (node_at s.nodes k).points
  in_node k p (inl m) = m
  in_node k p (inr (g, m, at, q)) = absurd (subst (λ (w : List Flight). IsMember g w) landed m)

  -- what the law states of the points that were drawn
  node_given : (k : VoxelKey) (p : Point) → IsMember p (node_at s.nodes k).points → IsMember p (given rules sunk k)
  node_given k p m = held-given rules points s law sunk (distinct-drawn rules points s law) (λ q n. n) k p (inl m)

  inside : (p : Point) → IsMember p sunk → InCube rules.cube (place p)
  inside p m =
      all-member (λ (q : Point). InCube rules.cube (place q)) p points law.points_law.inside (drawn-point rules points s law p m)

  side : rules.cube.depth < rules.cube.e
  side = depth-side rules.cube law.points_law.cube

  -- what is given to a key is in its node or in one below it
  abbrev SinksBelow : VoxelKey → Type 0
  SinksBelow a =
      (p : Point) → IsMember p (given rules sunk a) → (k : VoxelKey) × (is_within a k ≡ true) × IsMember p (node_at s.nodes k).points

  at_or_below : (a k : VoxelKey) → is_within a k ≡ true → (a ≡ k) ⊎ (is_below a k ≡ true)
  at_or_below a k w =
      elim (below_or_at a.depth k.depth (depth-within a k w)) [
        | inl less ↦ inr (is_below-from a k w less)
        | inr same ↦ inl (is_within-level a k w (omega (arith, same)))
      ]

  -- the same points lose among the points given to a node and among those in it
  loses_there : (a : VoxelKey) → SinksBelow a → (p : Point) → loses rules a.depth (given rules sunk a) p ≡ true → loses rules a.depth (node_at s.nodes a).points p ≡ true
  loses_there a sinks p lost =
      let b = best rules a.depth (given rules sunk a) p lost in
      let k = sinks b.0 b.1 in
      elim (at_or_below a k.0 k.1) [
        | inl at ↦ loses-beaten rules a.depth (node_at s.nodes a).points b.0 p (subst (λ (w : VoxelKey). IsMember b.0 (node_at s.nodes w).points) (sym at) k.2) b.2
        | inr below ↦
            absurd (not_both (loses rules a.depth (given rules sunk a) b.0) (loses-more rules a.depth (node_at s.nodes a).points (given rules sunk a) b.0 (node_given a) (law.passed.lost_above a k.0 b.0 (inl k.2) below)) b.3)
      ]

  distinct_node : (k : VoxelKey) → HasDistinctIds (node_at s.nodes k).points
  distinct_node k = HasDistinctIds-IsAscending (node_at s.nodes k).points (law.tidy.points_in_order k)

  -- a closed octant does not overflow
  closed_fits : (a : VoxelKey) (o : ℕ) → SinksBelow a → o < 8 → a.depth < rules.cube.depth → has_open (node_at s.nodes a) o ≡ false → length (losers rules a.depth (given rules sunk a) o) ≤ rules.threshold
  closed_fits a o sinks low above closed =
      let once : HasDistinctIds (given rules sunk a) = HasDistinctIds-IsRising (given rules sunk a) (IsRising-given rules sunk a (distinct-drawn rules points s law)) in
      omega (arith, law.settled.closed_has_few a o low above closed, length-among (losers rules a.depth (given rules sunk a) o) (losers rules a.depth (node_at s.nodes a).points o) (distinct-losers rules a.depth (given rules sunk a) o once) (distinct-losers rules a.depth (node_at s.nodes a).points o (distinct_node a)) here)
    where
      here : (x : Point) → IsMember x (losers rules a.depth (given rules sunk a) o) → IsMember x (losers rules a.depth (node_at s.nodes a).points o)
      here x m =
          let l = IsMember-losers rules a.depth (given rules sunk a) o x m in
          let k = sinks x l.0 in
          elim (at_or_below a k.0 k.1) [
            | inl at ↦
                subst (λ (n : ℕ). IsMember x (losers rules a.depth (node_at s.nodes a).points n)) l.2 (losers-IsMember rules a.depth (node_at s.nodes a).points x (subst (λ (w : VoxelKey). IsMember x (node_at s.nodes w).points) (sym at) k.2) (loses_there a sinks x l.1))
            | inr below ↦
                absurd (not_both (has_open (node_at s.nodes a) o) (subst (λ (n : ℕ). has_open (node_at s.nodes a) n ≡ true) l.2 (law.passed.through_open a k.0 x (inl k.2) below)) closed)
          ]

  -- a point of a node does not leave the points that are given to it
  none_leaves : (a : VoxelKey) → SinksBelow a → (p : Point) → IsMember p (node_at s.nodes a).points → leaves rules a.depth none_open (given rules sunk a) p ≡ true → ⊥
  none_leaves a sinks p m goes =
      let o : ℕ = octant rules a.depth p in
      let closed : has_open (node_at s.nodes a) (octant rules a.depth p) ≡ false = law.settled.open_without_losers a p m (loses_there a sinks p (leaves-loses rules a.depth none_open (given rules sunk a) p goes)) in
      elim (open-cases rules a.depth none_open (given rules sunk a) (octant rules a.depth p) (leaves-open rules a.depth none_open (given rules sunk a) p goes)) [
        | inl never ↦ false≢true never
        | inr over ↦
            let few = closed_fits a (octant rules a.depth p) sinks (octant_at-below rules.cube a.depth (place p)) (overflows-depth rules a.depth (given rules sunk a) (octant rules a.depth p) over) closed in
            let many = overflows-more rules a.depth (given rules sunk a) (octant rules a.depth p) over in
            omega (arith, few, many)
      ]

  sinks_top : (a : VoxelKey) → a.depth ≡ 0 → SinksBelow a
  sinks_top a flat p m =
      let mine : IsMember p sunk = given-IsMember rules sunk a p m in
      let k = drawn-held rules points s law p mine in
      let top : a ≡ root = given-top rules sunk a p flat m in
      let there : key_at rules.cube k.0.depth (place p) ≡ k.0 = key_at-box rules.cube k.0 (place p) (law.placed.in_box k.0 p k.1) in
      let low = law.placed.shallow k.0 p k.1 in
      let w : is_within root k.0 ≡ true = subst (λ (j : VoxelKey). is_within j k.0 ≡ true) (key_at-root rules.cube (place p) (inside p mine)) (subst (λ (j : VoxelKey). is_within (key_at rules.cube 0 (place p)) j ≡ true) there (is_within-key_at rules.cube 0 k.0.depth (place p) (omega arith) (omega (arith, low, side)))) in
      (k.0, subst (λ (j : VoxelKey). is_within j k.0 ≡ true) (sym top) w, in_node k.0 p k.1)

  sinks_step : (a : VoxelKey) → 0 < a.depth → SinksBelow (parent a) → SinksBelow a
  sinks_step a deep sinks p m =
      let mine : IsMember p sunk = given-IsMember rules sunk a p m in
      let up = given-leaves rules sunk a p deep m in
      let k = sinks p up.0 in
      elim (at_or_below (parent a) k.0 k.1) [
        | inl at ↦ absurd (none_leaves (parent a) sinks p (subst (λ (w : VoxelKey). IsMember p (node_at s.nodes w).points) (sym at) k.2) up.1)
        | inr below ↦
            let deeper = is_below-deeper (parent a) k.0 below in
            let one = depth-parent a in
            let low = law.placed.shallow k.0 p (inl k.2) in
            let there : key_at rules.cube k.0.depth (place p) ≡ k.0 = key_at-box rules.cube k.0 (place p) (law.placed.in_box k.0 p (inl k.2)) in
            let here : key_at rules.cube a.depth (place p) ≡ a = given-key_at rules sunk a p law.points_law.cube (inside p mine) m in
            (k.0, subst (λ (j : VoxelKey). is_within j k.0 ≡ true) here (subst (λ (j : VoxelKey). is_within (key_at rules.cube a.depth (place p)) j ≡ true) there (is_within-key_at rules.cube a.depth k.0.depth (place p) (omega (arith, deeper, one, deep)) (omega (arith, low, side)))), k.2)
      ]

  sinks_depth : (d : ℕ) (a : VoxelKey) → a.depth ≡ d → SinksBelow a
  sinks_depth zero a e = sinks_top a e
  sinks_depth (suc d) a e =
      sinks_step a (omega (arith, e)) (sinks_depth d (parent a) (omega (arith, e, depth-parent a)))

  sinks : (a : VoxelKey) → SinksBelow a
  sinks a = sinks_depth a.depth a refl

  -- ---- the nodes are those of the sampling

  node_sampled : (k : VoxelKey) (p : Point) → IsMember p (node_at s.nodes k).points → IsMember p (sampling rules sunk k)
  node_sampled k p m =
      sampling-IsMember rules sunk k p (node_given k p m) (elim (either (leaves rules k.depth none_open (given rules sunk k) p)) [
        | inl goes ↦ absurd (none_leaves k (sinks k) p m goes)
        | inr fine ↦ fine
      ])

  sampled_node : (k : VoxelKey) (p : Point) → IsMember p (sampling rules sunk k) → IsMember p (node_at s.nodes k).points
  sampled_node k p m =
      let g = IsMember-sampling rules sunk k p m in
      let j = sinks k p g.0 in
      elim (at_or_below k j.0 j.1) [
        | inl at ↦ subst (λ (w : VoxelKey). IsMember p (node_at s.nodes w).points) (sym at) j.2
        | inr below ↦
            absurd (not_both (leaves rules k.depth none_open (given rules sunk k) p) (below_leaves rules points s law sunk (distinct-drawn rules points s law) (λ q n. n) k j.0 p (given-below rules points s law sunk (distinct-drawn rules points s law) (λ q n. n) k) (inl j.2) below) g.1)
      ]

  -- the points of the node of a key
  pub node-sampling : (k : VoxelKey) → (node_at s.nodes k).points ≡ sampling rules sunk k
  node-sampling k =
      let up = IsRising-sampling rules sunk k (distinct-drawn rules points s law) in
      sym (in_id_order-IsRising (node_at s.nodes k).points (IsRising-IsAscending (node_at s.nodes k).points (law.tidy.points_in_order k)))
      ∙ (in_id_order-members (node_at s.nodes k).points (sampling rules sunk k) (distinct_node k) (HasDistinctIds-IsRising (sampling rules sunk k) up) (node_sampled k) (sampled_node k)
      ∙ in_id_order-IsRising (sampling rules sunk k) up)

  key_node : (k : VoxelKey) → IsMember k (keys_of s.nodes) → is_node rules sunk k ≡ true
  key_node k m =
      let e = member-map (λ (w : Entry). w.0) k s.nodes m in
      elim (law.tidy.has_points e.0 e.1) [
        | inl top ↦ subst (λ (w : VoxelKey). is_node rules sunk w ≡ true) (sym top ∙ e.2) (is_node-root rules sunk)
        | inr some ↦
            let at : node_at s.nodes k ≡ e.0.1 = ap (λ (w : VoxelKey). node_at s.nodes w) (sym e.2) ∙ node_at-member s.nodes e.0 (keys-rise rules points s law) e.1 in
            is_node-given rules sunk k some.0 (node_given k some.0 (subst (λ (n : Node). IsMember some.0 n.points) (sym at) some.1))
      ]

  node_key : (k : VoxelKey) → is_node rules sunk k ≡ true → IsMember k (keys_of s.nodes)
  node_key k e =
      elim (node-cases rules sunk k e) [
        | inl top ↦ subst (λ (w : VoxelKey). IsMember w (keys_of s.nodes)) (sym top) (has_node-key s.nodes root law.rooted.has_root)
        | inr some ↦
            let q = sampling-some rules sunk k some.0 some.1 in
            let n = node_at-entry s.nodes k q.0 (sampled_node k q.0 q.1) in
            subst (λ (w : VoxelKey). IsMember w (keys_of s.nodes)) n.2 (IsMember-map (λ (w : Entry). w.0) n.0 s.nodes n.1)
      ]

  pub keys-sampled : keys_of s.nodes ≡ node_keys rules sunk
  keys-sampled =
      node_keys-is rules sunk (keys_of s.nodes) law.points_law.cube (All-members (λ (p : Point). InCube rules.cube (place p)) sunk inside) (keys-rise rules points s law) key_node node_key

  tiles_step : (es : List Entry) → ((e : Entry) → IsMember e es → IsMember e s.nodes) → map tile_of es ≡ map (tile_at rules sunk) (keys_of es)
  tiles_step [] among = refl
  tiles_step (e ∷ es) among =
      let at : e.1.points ≡ sampling rules sunk e.0 = ap (λ (n : Node). n.points) (sym (node_at-member s.nodes e (keys-rise rules points s law) (among e (inl refl)))) ∙ node-sampling e.0 in
      ap (λ (xs : List Point). (let t : Tile = record { key = e.0; points = xs } in t) ∷ map tile_of es) at
      ∙ ap (λ (ts : List Tile). tile_at rules sunk e.0 ∷ ts) (tiles_step es (λ g m. among g (inr m)))

  -- the nodes are the sampling of the points that were drawn
  pub nodes-sampled : map tile_of s.nodes ≡ sampled rules sunk
  unfolding sampled
  nodes-sampled =
      tiles_step s.nodes (λ e m. m) ∙ ap (λ (keys : List VoxelKey). map (tile_at rules sunk) keys) keys-sampled

  -- an octant is open if its child is one of them
  pub opens-to-node : (k : VoxelKey) (o : ℕ) → o < 8 → has_open (node_at s.nodes k) o ≡ is_node rules sunk (child k o)
  opens-to-node k o low =
      elim (either (has_open (node_at s.nodes k) o)) [
        | inl opened ↦
            opened ∙ sym (child-is_node rules sunk k o low (open_overflows rules points s law sunk (distinct-drawn rules points s law) (λ q n. n) k o (given-below rules points s law sunk (distinct-drawn rules points s law) (λ q n. n) k) low opened))
        | inr closed ↦ closed ∙ sym (is_false (is_node rules sunk (child k o)) (no_child closed))
      ]
    where
      no_child : has_open (node_at s.nodes k) o ≡ false → is_node rules sunk (child k o) ≡ true → ⊥
      no_child closed node =
          let over : overflows rules k.depth (given rules sunk k) o ≡ true = is_node-child rules sunk k o low node in
          let few = closed_fits k o (sinks k) low (overflows-depth rules k.depth (given rules sunk k) o over) closed in
          let many = overflows-more rules k.depth (given rules sunk k) o over in
          omega (arith, few, many)
