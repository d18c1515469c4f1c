-- The sampling of the first points, with the others left, keeps the law.
use Rattle.std.proofs.Common.{◌≡◌, ◌∙◌, ℕ, zero, suc, ◌≤◌, ◌<◌, Bool, true, false, ◌⊎◌, inl, inr, List, [], ◌∷◌, ◌++◌, map, refl, sym, ap, subst, arith, length}
use Rattle.std.specs.List.{flat_map}
use Rattle.std.specs.List.Sorted.{IsPermutation}
use Rattle.std.proofs.lemmas.Bool.{false≢true}
use Rattle.std.proofs.lemmas.List.{append-nil}
use Rattle.ept_point.specs.declared.point.Point.{Point}
use Rattle.ept_point.specs.Order.{IsAscending}
use Rattle.ept_space.specs.declared.cube.Rules.{Rules}
use Rattle.ept_space.specs.VoxelKey.{VoxelKey, root, child, is_within, is_below}
use Rattle.ept_space.specs.OctreeCube.{InCube, key_at}
use Rattle.ept_space.proofs.Family.{parent-child, depth-child}
use Rattle.ept_space.proofs.Within.{is_below-deeper, is_below-within}
use Rattle.ept_space.proofs.PlaceKeys.{octant_at-below, is_within-key_at, key_at-unique}
use Rattle.ept_sample.specs.declared.tiles.Tile.{Tile}
use Rattle.ept_sample.specs.Place.{place, AllInCube}
use Rattle.ept_sample.specs.Ids.{HasDistinctIds}
use Rattle.ept_sample.specs.Arrivals.{loses, octant, losers, overflows, leaves, kept, none_open}
use Rattle.ept_sample.specs.Sampling.{given, sampling, is_node}
use Rattle.ept_sample.specs.SamplingLaws.{CanBeSampled}
use Rattle.ept_sample.specs.Nodes.{node_keys, tile_at, sampled}
use Rattle.ept_sample.specs.Members.{IsMember}
use Rattle.ept_sample.proofs.Members.{IsMember-left, IsMember-map, member-map, all-member, All-members}
use Rattle.ept_sample.proofs.Ascending.{IsRising}
use Rattle.ept_sample.proofs.KeyOrder.{key_before, AllPairs-IsRising}
use Rattle.ept_sample.proofs.Choices.{either, not_both}
use Rattle.ept_sample.proofs.IdLaws.{IsAscending-IsRising, HasDistinctIds-IsRising}
use Rattle.ept_sample.proofs.ArrivalLaws.{leaves-loses, leaves-open, leaves-from, loses-kept, overflows-depth, overflows-more, IsMember-sent}
use Rattle.ept_sample.proofs.SamplingLaws.{given-child, leaves-given, given-IsMember, given-depth, depth-side, given-key_at, given-InBox, is_node-root, is_node-given, node-cases, node-given, is_node-parent, IsMember-sampling, sampling-some, stays-somewhere, leaves-above, IsRising-given, IsRising-sampling}
use Rattle.ept_sample.proofs.NodeLaws.{IsMember-node_keys, node_keys-IsMember, IsRising-node_keys, points-of, IsPermutation-sampled}
use Rattle.ept_core.specs.declared.node.Node.{Node}
use Rattle.ept_core.specs.State.{State, Entry, blank, node_at, has_open, keys_of, held, IsHeld, IsHeldWithin}
use Rattle.ept_core.specs.Law.{HoldsMore, HasPoint, KeepsLaw}
use Rattle.ept_core.specs.Steps.{resumed_node, resumed}
use Rattle.ept_core.proofs.NodeMap.{points_of, same_key-apart, node_at-member, node_at-absent, key-has_node}
use Rattle.ept_core.proofs.Held.{HasDistinctIds-left}
use Rattle.ept_core.proofs.Leaving.{open-at, open-cases, over-open, fits-few, losers-kept, IsMember-losers, distinct-losers}

nothing : (xs : List Point) → ((p : Point) → IsMember p xs → ⊥) → xs ≡ []
nothing [] none = refl
nothing (x ∷ xs) none = absurd (none x (inl refl))

-- ---- which children are nodes

-- an octant that overflows has a child with points
pub child-is_node : (rules : Rules) (qs : List Point) (k : VoxelKey) (o : ℕ) → o < 8 → overflows rules k.depth (given rules qs k) o ≡ true → is_node rules qs (child k o) ≡ true
child-is_node rules qs k o low over = some (losers rules k.depth (given rules qs k) o) refl
  where
    some : (xs : List Point) → losers rules k.depth (given rules qs k) o ≡ xs → is_node rules qs (child k o) ≡ true
    some [] e = absurd (let none : length (losers rules k.depth (given rules qs k) o) ≡ 0 = ap (λ (w : List Point). length w) e in omega (arith, none, overflows-more rules k.depth (given rules qs k) o over))
    some (p ∷ xs) e =
        let l = IsMember-losers rules k.depth (given rules qs k) o p (subst (λ (w : List Point). IsMember p w) (sym e) (inl refl)) in
        let goes : leaves rules k.depth none_open (given rules qs k) p ≡ true = leaves-from rules k.depth none_open (given rules qs k) p l.1 (over-open rules k.depth none_open (given rules qs k) (octant rules k.depth p) (subst (λ (n : ℕ). overflows rules k.depth (given rules qs k) n ≡ true) (sym l.2) over)) in
        subst (λ (n : ℕ). is_node rules qs (child k n) ≡ true) l.2 (is_node-given rules qs (child k (octant rules k.depth p)) p (leaves-given rules qs k p l.0 goes))

-- and a child with points is the child of an octant that overflows
pub is_node-child : (rules : Rules) (qs : List Point) (k : VoxelKey) (o : ℕ) → o < 8 → is_node rules qs (child k o) ≡ true → overflows rules k.depth (given rules qs k) o ≡ true
is_node-child rules qs k o low e =
    let deep = depth-child k o in
    let p = node-given rules qs (child k o) (omega (arith, deep)) e in
    let g = IsMember-sent rules k.depth none_open (given rules qs k) o p.0 (subst (λ (w : List Point). IsMember p.0 w) (given-child rules qs k o low) p.1) in
    elim (open-cases rules k.depth none_open (given rules qs k) (octant rules k.depth p.0) (leaves-open rules k.depth none_open (given rules qs k) p.0 g.1)) [
      | inl never ↦ absurd (false≢true never)
      | inr over ↦ subst (λ (n : ℕ). overflows rules k.depth (given rules qs k) n ≡ true) g.2 over
    ]

sampling_kept : (rules : Rules) (qs : List Point) (k : VoxelKey) → sampling rules qs k ≡ kept rules k.depth none_open (given rules qs k)
unfolding sampling
sampling_kept rules qs k = refl

resumed_points : (rules : Rules) (qs : List Point) (resident : Bool) (k : VoxelKey) → (resumed_node rules qs resident k).points ≡ sampling rules qs k
unfolding resumed_node
resumed_points rules qs resident k = refl

resumed_open : (rules : Rules) (qs : List Point) (resident : Bool) (k : VoxelKey) (o : ℕ) → o < 8 → has_open (resumed_node rules qs resident k) o ≡ is_node rules qs (child k o)
unfolding resumed_node has_open
resumed_open rules qs resident k o low = open-at (λ w. is_node rules qs (child k w)) o low

blank_open : (o : ℕ) → has_open blank o ≡ false
unfolding has_open
blank_open o = refl

sampled_points : (rules : Rules) (qs : List Point) → flat_map (λ (t : Tile). t.points) (sampled rules qs) ≡ flat_map (λ (t : Tile). t.points) (map (tile_at rules qs) (node_keys rules qs))
unfolding sampled
sampled_points rules qs = refl

le_or_less : (a b : ℕ) → (a ≤ b) ⊎ (b < a)
le_or_less zero b = inl (omega arith)
le_or_less (suc a) zero = inr (omega arith)
le_or_less (suc a) (suc b) =
    elim (le_or_less a b) [ inl le ↦ inl (omega (arith, le)) | inr less ↦ inr (omega (arith, less)) ]

module _ (rules : Rules) (points qs rest : List Point) (resident : VoxelKey → Bool) (can : CanBeSampled rules points) (first : points ≡ qs ++ rest) where
  abbrev s : State
  s = resumed rules qs rest resident

  abbrev entry : VoxelKey → Entry
  entry key = (key, resumed_node rules qs (resident key) key)

  first_point : (p : Point) → IsMember p qs → IsMember p points
  first_point p m = subst (λ (w : List Point). IsMember p w) (sym first) (IsMember-left p qs rest m)

  inside : (p : Point) → IsMember p qs → InCube rules.cube (place p)
  inside p m = all-member (λ (q : Point). InCube rules.cube (place q)) p points can.inside (first_point p m)

  all_inside : AllInCube rules.cube qs
  all_inside = All-members (λ (q : Point). InCube rules.cube (place q)) qs inside

  distinct : HasDistinctIds qs
  distinct = HasDistinctIds-left qs rest (subst (λ (w : List Point). HasDistinctIds w) first can.distinct)

  side : rules.cube.depth < rules.cube.e
  side = depth-side rules.cube can.cube

  keys_are : (keys : List VoxelKey) → keys_of (map entry keys) ≡ keys
  keys_are [] = refl
  keys_are (k ∷ keys) = ap (λ (w : List VoxelKey). k ∷ w) (keys_are keys)

  rising : IsRising key_before (keys_of s.nodes)
  rising = subst (λ (w : List VoxelKey). IsRising key_before w) (sym (keys_are (node_keys rules qs))) (IsRising-node_keys rules qs)

  -- ---- what is at a key

  there : (k : VoxelKey) → is_node rules qs k ≡ true → node_at s.nodes k ≡ resumed_node rules qs (resident k) k
  there k e =
      node_at-member s.nodes (entry k) rising (IsMember-map entry k (node_keys rules qs) (node_keys-IsMember rules qs k can.cube all_inside e))

  nowhere : (k : VoxelKey) → is_node rules qs k ≡ false → node_at s.nodes k ≡ blank
  nowhere k e =
      node_at-absent s.nodes k (λ g m. (
      let r = member-map entry g (node_keys rules qs) m in
      same_key-apart g.0 k (λ at. not_both (is_node rules qs k) (subst (λ (w : VoxelKey). is_node rules qs w ≡ true) (ap (λ (w : Entry). w.0) r.2 ∙ at) (IsMember-node_keys rules qs r.0 r.1)) e)))

  points_at : (k : VoxelKey) → (node_at s.nodes k).points ≡ sampling rules qs k
  points_at k =
      elim (either (is_node rules qs k)) [
        | inl e ↦ ap (λ (n : Node). n.points) (there k e) ∙ resumed_points rules qs (resident k) k
        | inr e ↦
            ap (λ (n : Node). n.points) (nowhere k e)
            ∙ sym (nothing (sampling rules qs k) (λ p m. not_both (is_node rules qs k) (is_node-given rules qs k p (IsMember-sampling rules qs k p m).0) e))
      ]

  open_to : (k : VoxelKey) (o : ℕ) → o < 8 → has_open (node_at s.nodes k) o ≡ is_node rules qs (child k o)
  open_to k o low =
      elim (either (is_node rules qs k)) [
        | inl e ↦ ap (λ (n : Node). has_open n o) (there k e) ∙ resumed_open rules qs (resident k) k o low
        | inr e ↦ ap (λ (n : Node). has_open n o) (nowhere k e) ∙ (blank_open o ∙ sym (no_child e))
      ]
    where
      no_child : is_node rules qs k ≡ false → is_node rules qs (child k o) ≡ false
      no_child e =
          elim (either (is_node rules qs (child k o))) [
            | inl some ↦
                let deep = depth-child k o in
                absurd (not_both (is_node rules qs k) (subst (λ (w : VoxelKey). is_node rules qs w ≡ true) (parent-child k o) (is_node-parent rules qs (child k o) (omega (arith, deep)) some)) e)
            | inr none ↦ none
          ]

  small : (depth : ℕ) (p : Point) → octant rules depth p < 8
  small depth p = octant_at-below rules.cube depth (place p)

  open_over : (k : VoxelKey) (o : ℕ) → o < 8 → has_open (node_at s.nodes k) o ≡ true → overflows rules k.depth (given rules qs k) o ≡ true
  open_over k o low e = is_node-child rules qs k o low (sym (open_to k o low) ∙ e)

  -- a held point stays where it is held
  is_sampled : (k : VoxelKey) (p : Point) → IsHeld s k p → IsMember p (sampling rules qs k)
  is_sampled k p (inl m) = subst (λ (w : List Point). IsMember p w) (points_at k) m
  is_sampled k p (inr h) = absurd h.1

  sampled_held : (k : VoxelKey) (p : Point) → IsMember p (sampling rules qs k) → IsHeld s k p
  sampled_held k p m = inl (subst (λ (w : List Point). IsMember p w) (sym (points_at k)) m)

  is_given : (k : VoxelKey) (p : Point) → IsHeld s k p → IsMember p (given rules qs k)
  is_given k p h = (IsMember-sampling rules qs k p (is_sampled k p h)).0

  lose_alike : (k : VoxelKey) (p : Point) → loses rules k.depth (node_at s.nodes k).points p ≡ loses rules k.depth (given rules qs k) p
  lose_alike k p =
      ap (λ (w : List Point). loses rules k.depth w p) (points_at k ∙ sampling_kept rules qs k) ∙ loses-kept rules k.depth none_open (given rules qs k) p

  -- a point has left each node above
  left_above : (top k : VoxelKey) (p : Point) → IsHeld s k p → is_below top k ≡ true → IsMember p (given rules qs top) × (leaves rules top.depth none_open (given rules qs top) p ≡ true)
  left_above top k p h below =
      let g : IsMember p (given rules qs k) = is_given k p h in
      let in_cube : InCube rules.cube (place p) = inside p (given-IsMember rules qs k p g) in
      let here : key_at rules.cube k.depth (place p) ≡ k = given-key_at rules qs k p can.cube in_cube g in
      let low = given-depth rules qs k p g in
      let at : key_at rules.cube top.depth (place p) ≡ top = key_at-unique rules.cube top k.depth (place p) (subst (λ (j : VoxelKey). is_within top j ≡ true) (sym here) (is_below-within top k below)) (omega (arith, low, side)) in
      subst (λ (j : VoxelKey). IsMember p (given rules qs j) × (leaves rules top.depth none_open (given rules qs j) p ≡ true)) at (leaves-above rules qs k p can.cube in_cube g top.depth (is_below-deeper top k below))

  -- what is given to a key stays there or below it
  stays_below : (k : VoxelKey) (p : Point) → IsMember p (given rules qs k) → IsHeldWithin s k p
  stays_below k p g =
      let mine : IsMember p qs = given-IsMember rules qs k p g in
      let j = stays-somewhere rules qs p mine in
      let t = IsMember-sampling rules qs j.0 p j.1 in
      let here : key_at rules.cube k.depth (place p) ≡ k = given-key_at rules qs k p can.cube (inside p mine) g in
      let there : key_at rules.cube j.0.depth (place p) ≡ j.0 = given-key_at rules qs j.0 p can.cube (inside p mine) t.0 in
      let low = given-depth rules qs j.0 p t.0 in
      (j.0, subst (λ (w : VoxelKey). is_within w j.0 ≡ true) here (subst (λ (w : VoxelKey). is_within (key_at rules.cube k.depth (place p)) w ≡ true) there (is_within-key_at rules.cube k.depth j.0.depth (place p) (deeper j.0 j.1 there) (omega (arith, low, side)))), sampled_held j.0 p j.1)
    where
      deeper : (j : VoxelKey) → IsMember p (sampling rules qs j) → key_at rules.cube j.depth (place p) ≡ j → k.depth ≤ j.depth
      deeper j m there =
          elim (le_or_less k.depth j.depth) [
            | inl le ↦ le
            | inr less ↦
                let up = leaves-above rules qs k p can.cube (inside p (given-IsMember rules qs k p g)) g j.depth less in
                absurd (not_both (leaves rules j.depth none_open (given rules qs j) p) (subst (λ (w : VoxelKey). leaves rules j.depth none_open (given rules qs w) p ≡ true) there up.1) (IsMember-sampling rules qs j p m).1)
          ]

  same_points : IsPermutation qs (held s)
  same_points =
      let joined : flat_map (λ (t : Tile). t.points) (sampled rules qs) ≡ held s = tiles_points ∙ sym (append-nil (points_of s.nodes)) in
      subst (λ (w : List Point). IsPermutation qs w) joined (IsPermutation-sampled rules qs can.cube all_inside distinct)
    where
      each : (keys : List VoxelKey) → flat_map (sampling rules qs) keys ≡ points_of (map entry keys)
      each [] = refl
      each (k ∷ keys) =
          ap (λ (w : List Point). w ++ flat_map (sampling rules qs) keys) (sym (resumed_points rules qs (resident k) k))
          ∙ ap (λ (w : List Point). (resumed_node rules qs (resident k) k).points ++ w) (each keys)

      tiles_points : flat_map (λ (t : Tile). t.points) (sampled rules qs) ≡ points_of s.nodes
      tiles_points =
          sampled_points rules qs ∙ (points-of rules qs (node_keys rules qs) ∙ each (node_keys rules qs))

  pub resumed-keeps : KeepsLaw rules points (resumed rules qs rest resident)
  resumed-keeps = record {
    points_law = can;
    same_points = (qs, record { suffix = first; held_once = same_points });
    placed = record {
      in_box = λ k p h. given-InBox rules qs k p can.cube (inside p (given-IsMember rules qs k p (is_given k p h))) (is_given k p h);
      shallow = λ k p h. given-depth rules qs k p (is_given k p h);
    };
    passed = record {
      through_open = λ top k p h below. (
          let up = left_above top k p h below in
          open_to top (octant rules top.depth p) (small top.depth p)
          ∙ is_node-given rules qs (child top (octant rules top.depth p)) p (leaves-given rules qs top p up.0 up.1));
      lost_above = λ top k p h below. (
          let up = left_above top k p h below in
          lose_alike top p ∙ leaves-loses rules top.depth none_open (given rules qs top) p up.1);
    };
    settled = record { open_without_losers = none; open_holds_more = more; closed_has_few = few };
    bottom = λ k o low e. overflows-depth rules k.depth (given rules qs k) o (open_over k o low e);
    rooted = record {
      has_root = key-has_node s.nodes root (subst (λ (w : List VoxelKey). IsMember root w) (sym (keys_are (node_keys rules qs))) (node_keys-IsMember rules qs root can.cube all_inside (is_node-root rules qs)));
      flying = λ g m. absurd m;
    };
    tidy = record {
      has_points = some;
      in_order = AllPairs-IsRising (keys_of s.nodes) rising;
      points_in_order = λ k. subst (λ (w : List Point). IsAscending w) (sym (points_at k)) (IsAscending-IsRising (sampling rules qs k) (IsRising-sampling rules qs k distinct));
    };
  }
    where
      none : (k : VoxelKey) (p : Point) → IsMember p (node_at s.nodes k).points → loses rules k.depth (node_at s.nodes k).points p ≡ true → has_open (node_at s.nodes k) (octant rules k.depth p) ≡ false
      none k p m lost =
          elim (either (has_open (node_at s.nodes k) (octant rules k.depth p))) [
            | inl opened ↦
                let over = open_over k (octant rules k.depth p) (small k.depth p) opened in
                absurd (not_both (leaves rules k.depth none_open (given rules qs k) p) (leaves-from rules k.depth none_open (given rules qs k) p (sym (lose_alike k p) ∙ lost) (over-open rules k.depth none_open (given rules qs k) (octant rules k.depth p) over)) (IsMember-sampling rules qs k p (is_sampled k p (inl m))).1)
            | inr closed ↦ closed
          ]

      more : (k : VoxelKey) (o : ℕ) → o < 8 → has_open (node_at s.nodes k) o ≡ true → HoldsMore rules s (child k o)
      more k o low e =
          let over : overflows rules k.depth (given rules qs k) o ≡ true = open_over k o low e in (
            losers rules k.depth (given rules qs k) o,
            distinct-losers rules k.depth (given rules qs k) o (HasDistinctIds-IsRising (given rules qs k) (IsRising-given rules qs k distinct)),
            λ p m. (
                let l = IsMember-losers rules k.depth (given rules qs k) o p m in
                let goes : leaves rules k.depth none_open (given rules qs k) p ≡ true = leaves-from rules k.depth none_open (given rules qs k) p l.1 (over-open rules k.depth none_open (given rules qs k) (octant rules k.depth p) (subst (λ (n : ℕ). overflows rules k.depth (given rules qs k) n ≡ true) (sym l.2) over)) in
                stays_below (child k o) p (subst (λ (n : ℕ). IsMember p (given rules qs (child k n))) l.2 (leaves-given rules qs k p l.0 goes))),
            overflows-more rules k.depth (given rules qs k) o over,
          )

      few : (k : VoxelKey) (o : ℕ) → o < 8 → k.depth < rules.cube.depth → has_open (node_at s.nodes k) o ≡ false → length (losers rules k.depth (node_at s.nodes k).points o) ≤ rules.threshold
      few k o low above e =
          let fits : overflows rules k.depth (given rules qs k) o ≡ false = elim (either (overflows rules k.depth (given rules qs k) o)) [ inl over ↦ absurd (not_both (has_open (node_at s.nodes k) o) (open_to k o low ∙ child-is_node rules qs k o low over) e) | inr fine ↦ fine ] in
          subst (λ (w : List Point). length (losers rules k.depth w o) ≤ rules.threshold) (sym (points_at k ∙ sampling_kept rules qs k)) (omega (arith, losers-kept rules k.depth none_open (given rules qs k) o, fits-few rules k.depth (given rules qs k) o above fits))

      some : (e : Entry) → IsMember e s.nodes → (e.0 ≡ root) ⊎ HasPoint e.1.points
      some e m =
          let r = member-map entry e (node_keys rules qs) m in
          subst (λ (w : Entry). (w.0 ≡ root) ⊎ HasPoint w.1.points) r.2 (elim (node-cases rules qs r.0 (IsMember-node_keys rules qs r.0 r.1)) [
            | inl top ↦ inl top
            | inr g ↦ inr (subst (λ (w : List Point). HasPoint w) (sym (resumed_points rules qs (resident r.0) r.0)) (sampling-some rules qs r.0 g.0 g.1))
          ])
