-- Points that are drawn, and nodes that are evicted and reloaded, keep the law.
use Rattle.std.proofs.Common.{◌≡◌, ◌∙◌, ℕ, ◌≤◌, Bool, true, ◌⊎◌, inl, inr, List, ◌++◌, take, drop, refl, sym, ap, subst, arith, length, append_assoc}
use Rattle.std.specs.List.Sorted.{IsPermutation}
use Rattle.std.proofs.lemmas.List.Concat.{flat_map-append}
use Rattle.std.proofs.lemmas.List.{take-append-drop}
use Rattle.std.proofs.lemmas.List.Sorted.{IsPermutation-sym, IsPermutation-trans, IsPermutation-append_left}
use Rattle.ept_point.specs.declared.point.Point.{Point}
use Rattle.ept_point.specs.Order.{IsAscending}
use Rattle.ept_sample.proofs.KeyOrder.{AllPairs-IsRising}
use Rattle.ept_space.specs.declared.cube.Rules.{Rules}
use Rattle.ept_space.specs.VoxelKey.{VoxelKey, root, same_key, child, is_below}
use Rattle.ept_space.specs.OctreeCube.{InCube, InBox}
use Rattle.ept_space.proofs.Within.{same_key-true, is_below-deeper}
use Rattle.ept_space.proofs.PlaceKeys.{InBox-root}
use Rattle.ept_sample.specs.Place.{place}
use Rattle.ept_sample.specs.Arrivals.{loses, octant, losers}
use Rattle.ept_sample.specs.Members.{IsMember}
use Rattle.ept_sample.proofs.Members.{IsMember-left, IsMember-right, IsMember-append, member-map, all-member}
use Rattle.ept_sample.proofs.Choices.{either}
use Rattle.ept_core.specs.declared.flight.Flight.{Flight}
use Rattle.ept_core.specs.declared.node.Node.{Node}
use Rattle.ept_core.specs.State.{State, Entry, node_at, has_node, has_open, keys_of, held, IsHeld}
use Rattle.ept_core.specs.Law.{HoldsMore, HasPoint, KeepsLaw}
use Rattle.ept_core.specs.Steps.{flight_of, drawn, moved}
use Rattle.ept_core.proofs.NodeMap.{points_of, without, points_of-split, points_of-with, node_at-member, node_at-here, node_at-other, rising-with, has_node-with, has_node-key, IsMember-with}
use Rattle.ept_core.proofs.Held.{flown, keys-rise}
use Rattle.ept_core.proofs.Leaving.{IsMember-flight, flown-flight}

-- ---- points that are drawn

module _ (rules : Rules) (points : List Point) (s : State) (actor count : ℕ) (law : KeepsLaw rules points s) where
  abbrev first : List Point
  first = take count s.left

  abbrev next : State
  next = drawn actor count s

  taken : s.left ≡ first ++ drop count s.left
  taken = sym (take-append-drop count s.left)

  first_point : (p : Point) → IsMember p first → IsMember p points
  first_point p m =
      subst (λ (w : List Point). IsMember p w) (sym law.same_points.1.suffix) (IsMember-right p law.same_points.0 s.left (subst (λ (w : List Point). IsMember p w) (sym taken) (IsMember-left p first (drop count s.left) m)))

  -- a point that is held was held there, or was drawn and flies to the root
  came_drawn : (j : VoxelKey) (p : Point) → IsHeld next j p → IsHeld s j p ⊎ ((j ≡ root) × IsMember p first)
  came_drawn j p (inl m) = inl (inl m)
  came_drawn j p (inr (g, m, at, q)) =
      elim (IsMember-append g s.flights (flight_of actor root first) m) [
        | inl old ↦ inl (inr (g, old, at, q))
        | inr new ↦
            let h = IsMember-flight actor root first g new in
            inr (sym at ∙ h.0, subst (λ (w : List Point). IsMember p w) h.1 q)
      ]

  still_held : (j : VoxelKey) (p : Point) → IsHeld s j p → IsHeld next j p
  still_held j p (inl m) = inl m
  still_held j p (inr (g, m, at, q)) = inr (g, IsMember-left g s.flights (flight_of actor root first) m, at, q)

  none_above : (top j : VoxelKey) → j ≡ root → is_below top j ≡ true → ⊥
  none_above top j at h =
      let deep = is_below-deeper top root (subst (λ (w : VoxelKey). is_below top w ≡ true) at h) in
      omega (arith, deep)

  more_drawn : (key : VoxelKey) → HoldsMore rules s key → HoldsMore rules next key
  more_drawn key (xs, once, all, more) =
      (xs, once, λ p m. (let h = all p m in (h.0, h.1, still_held h.0 p h.2)), more)

  held_drawn : IsPermutation (law.same_points.0 ++ first) (held next)
  held_drawn =
      let flights : flown next.flights ≡ flown s.flights ++ first = flat_map-append (λ (g : Flight). g.points) s.flights (flight_of actor root first) ∙ ap (λ (w : List Point). flown s.flights ++ w) (flown-flight actor root first) in
      let joined : held s ++ first ≡ held next = append_assoc (points_of s.nodes) (flown s.flights) first ∙ ap (λ (w : List Point). points_of s.nodes ++ w) (sym flights) in
      subst (λ (w : List Point). IsPermutation (law.same_points.0 ++ first) w) joined (IsPermutation-append_left first law.same_points.0 (held s) law.same_points.1.held_once)

  suffix_drawn : points ≡ (law.same_points.0 ++ first) ++ drop count s.left
  suffix_drawn =
      law.same_points.1.suffix
      ∙ (ap (λ (w : List Point). law.same_points.0 ++ w) taken ∙ sym (append_assoc law.same_points.0 first (drop count s.left)))

  pub draw-keeps : KeepsLaw rules points (drawn actor count s)
  draw-keeps = record {
    points_law = law.points_law;
    same_points = (law.same_points.0 ++ first, record { suffix = suffix_drawn; held_once = held_drawn });
    placed = record {
      in_box = λ j p h. elim (came_drawn j p h) [
        | inl old ↦ law.placed.in_box j p old
        | inr new ↦ subst (λ (w : VoxelKey). InBox rules.cube w (place p)) (sym new.0) (InBox-root rules.cube (place p) (all-member (λ (q : Point). InCube rules.cube (place q)) p points law.points_law.inside (first_point p new.1)))
      ];
      shallow = λ j p h. elim (came_drawn j p h) [
        | inl old ↦ law.placed.shallow j p old
        | inr new ↦ let zero_deep : j.depth ≡ 0 = ap (λ (w : VoxelKey). w.depth) new.0 in omega (arith, zero_deep)
      ];
    };
    passed = record {
      through_open = λ top j p h below. elim (came_drawn j p h) [ inl old ↦ law.passed.through_open top j p old below | inr new ↦ absurd (none_above top j new.0 below) ];
      lost_above = λ top j p h below. elim (came_drawn j p h) [ inl old ↦ law.passed.lost_above top j p old below | inr new ↦ absurd (none_above top j new.0 below) ];
    };
    settled = record {
      open_without_losers = law.settled.open_without_losers;
      open_holds_more = λ key o low e. more_drawn (child key o) (law.settled.open_holds_more key o low e);
      closed_has_few = law.settled.closed_has_few;
    };
    bottom = law.bottom;
    rooted = record {
      has_root = law.rooted.has_root;
      flying = λ g m. elim (IsMember-append g s.flights (flight_of actor root first) m) [
        | inl old ↦ law.rooted.flying g old
        | inr new ↦ let h = IsMember-flight actor root first g new in subst (λ (w : List Point). HasPoint w) (sym h.1) h.2
      ];
    };
    tidy = record { has_points = law.tidy.has_points; in_order = law.tidy.in_order; points_in_order = law.tidy.points_in_order };
  }

-- ---- where the points of a node are kept

module _ (rules : Rules) (points : List Point) (s : State) (key : VoxelKey) (resident : Bool) (law : KeepsLaw rules points s) (there : has_node s.nodes key ≡ true) where
  abbrev kept_as : Node
  kept_as = record { points = (node_at s.nodes key).points; opened = (node_at s.nodes key).opened; is_resident = resident }

  abbrev to : State
  to = moved key resident s

  same_node_points : (j : VoxelKey) → (node_at to.nodes j).points ≡ (node_at s.nodes j).points
  same_node_points j =
      elim (either (same_key key j)) [
        | inl same ↦
            let at : key ≡ j = same_key-true key j same in
            subst (λ (w : VoxelKey). (node_at to.nodes w).points ≡ (node_at s.nodes w).points) at (ap (λ (n : Node). n.points) (node_at-here s.nodes key kept_as))
        | inr apart ↦ ap (λ (n : Node). n.points) (node_at-other s.nodes key kept_as j apart)
      ]

  open_as_kept : (o : ℕ) → has_open kept_as o ≡ has_open (node_at s.nodes key) o
  unfolding has_open
  open_as_kept o = refl

  same_node_open : (j : VoxelKey) (o : ℕ) → has_open (node_at to.nodes j) o ≡ has_open (node_at s.nodes j) o
  same_node_open j o =
      elim (either (same_key key j)) [
        | inl same ↦
            let at : key ≡ j = same_key-true key j same in
            subst (λ (w : VoxelKey). has_open (node_at to.nodes w) o ≡ has_open (node_at s.nodes w) o) at (ap (λ (n : Node). has_open n o) (node_at-here s.nodes key kept_as) ∙ open_as_kept o)
        | inr apart ↦ ap (λ (n : Node). has_open n o) (node_at-other s.nodes key kept_as j apart)
      ]

  held_moved : (j : VoxelKey) (p : Point) → IsHeld s j p → IsHeld to j p
  held_moved j p (inl m) = inl (subst (λ (w : List Point). IsMember p w) (sym (same_node_points j)) m)
  held_moved j p (inr h) = inr h

  moved_held : (j : VoxelKey) (p : Point) → IsHeld to j p → IsHeld s j p
  moved_held j p (inl m) = inl (subst (λ (w : List Point). IsMember p w) (same_node_points j) m)
  moved_held j p (inr h) = inr h

  more_moved : (k : VoxelKey) → HoldsMore rules s k → HoldsMore rules to k
  more_moved k (xs, once, all, more) =
      (xs, once, λ p m. (let h = all p m in (h.0, h.1, held_moved h.0 p h.2)), more)

  points_moved : IsPermutation (points_of s.nodes) (points_of to.nodes)
  points_moved =
      let rest : List Point = (node_at s.nodes key).points ++ points_of (without s.nodes key) in
      IsPermutation-trans (points_of s.nodes) rest (points_of to.nodes) (points_of-split s.nodes key) (IsPermutation-sym (points_of to.nodes) rest (points_of-with s.nodes key kept_as (keys-rise rules points s law)))

  -- the node of the key had points, or is the root
  some_moved : (e : Entry) → IsMember e to.nodes → (e.0 ≡ root) ⊎ HasPoint e.1.points
  some_moved e m =
      elim (IsMember-with e key kept_as s.nodes m) [
        | inl new ↦ subst (λ (w : Entry). (w.0 ≡ root) ⊎ HasPoint w.1.points) new here
        | inr old ↦ law.tidy.has_points e old
      ]
    where
      here : (key ≡ root) ⊎ HasPoint (node_at s.nodes key).points
      here =
          let m = member-map (λ (w : Entry). w.0) key s.nodes (has_node-key s.nodes key there) in
          let at : node_at s.nodes key ≡ m.0.1 = ap (λ (w : VoxelKey). node_at s.nodes w) (sym m.2) ∙ node_at-member s.nodes m.0 (keys-rise rules points s law) m.1 in
          elim (law.tidy.has_points m.0 m.1) [
            | inl top ↦ inl (sym m.2 ∙ top)
            | inr some ↦ inr (subst (λ (n : Node). HasPoint n.points) (sym at) some)
          ]

  pub move-keeps : KeepsLaw rules points (moved key resident s)
  move-keeps = record {
    points_law = law.points_law;
    same_points = (
      law.same_points.0,
      record {
        suffix = law.same_points.1.suffix;
        held_once = IsPermutation-trans law.same_points.0 (held s) (held to) law.same_points.1.held_once (IsPermutation-append_left (flown s.flights) (points_of s.nodes) (points_of to.nodes) points_moved);
      },
    );
    placed = record {
      in_box = λ j p h. law.placed.in_box j p (moved_held j p h);
      shallow = λ j p h. law.placed.shallow j p (moved_held j p h);
    };
    passed = record {
      through_open = λ top j p h below. same_node_open top (octant rules top.depth p) ∙ law.passed.through_open top j p (moved_held j p h) below;
      lost_above = λ top j p h below. ap (λ (w : List Point). loses rules top.depth w p) (same_node_points top) ∙ law.passed.lost_above top j p (moved_held j p h) below;
    };
    settled = record {
      open_without_losers = λ k p m lost. same_node_open k (octant rules k.depth p) ∙ law.settled.open_without_losers k p (subst (λ (w : List Point). IsMember p w) (same_node_points k) m) (sym (ap (λ (w : List Point). loses rules k.depth w p) (same_node_points k)) ∙ lost);
      open_holds_more = λ k o low e. more_moved (child k o) (law.settled.open_holds_more k o low (sym (same_node_open k o) ∙ e));
      closed_has_few = λ k o low above e. subst (λ (w : List Point). length (losers rules k.depth w o) ≤ rules.threshold) (sym (same_node_points k)) (law.settled.closed_has_few k o low above (sym (same_node_open k o) ∙ e));
    };
    bottom = λ k o low e. law.bottom k o low (sym (same_node_open k o) ∙ e);
    rooted = record { has_root = has_node-with s.nodes key kept_as root law.rooted.has_root; flying = law.rooted.flying };
    tidy = record {
      has_points = some_moved;
      in_order = AllPairs-IsRising (keys_of to.nodes) (rising-with s.nodes key kept_as (keys-rise rules points s law));
      points_in_order = λ k. subst (λ (w : List Point). IsAscending w) (sym (same_node_points k)) (law.tidy.points_in_order k);
    };
  }
