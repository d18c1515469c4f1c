-- What the law means for a state: each key that holds points is one of the sampling. If nothing flies, the nodes are
-- the sampling.
use Rattle.std.proofs.Common.{◌≡◌, ◌∙◌, ℕ, zero, suc, ◌+◌, ◌≤◌, ◌<◌, Bool, true, false, cond, inl, List, [], ◌∷◌, refl, sym, ap, subst, arith, filter, length}
use Rattle.std.specs.List.{list_any}
use Rattle.std.specs.List.Sorted.{IsPermutation}
use Rattle.std.proofs.lemmas.List.Sorted.{length_permutation}
use Rattle.ept_point.specs.declared.point.Point.{Point}
use Rattle.ept_space.specs.declared.cube.Rules.{Rules}
use Rattle.ept_space.specs.VoxelKey.{VoxelKey, root, child, parent, octant_of, is_within, is_below}
use Rattle.ept_space.specs.OctreeCube.{InCube, key_at}
use Rattle.ept_space.proofs.Family.{child-parent, depth-parent, octant_of-child, depth-child}
use Rattle.ept_space.proofs.Within.{is_within-self, is_within-trans, is_within-parent, is_within-child, depth-within, is_below-from}
use Rattle.ept_space.proofs.PlaceKeys.{key_at-box, octant_at-below, octant_of-key_at, key_at-root, key_at-unique}
use Rattle.ept_sample.specs.Place.{place}
use Rattle.ept_sample.specs.Ids.{same_id, HasDistinctIds}
use Rattle.ept_sample.specs.Arrivals.{loses, octant, losers, overflows, leaves, none_open}
use Rattle.ept_sample.specs.Sampling.{given, is_node}
use Rattle.ept_sample.specs.Members.{IsMember}
use Rattle.ept_sample.proofs.Members.{IsMember-filter, IsMember-kept, member-any, any-member, all-member}
use Rattle.ept_sample.proofs.IdLaws.{same_id-self, same_member, HasDistinctIds-filter, HasDistinctIds-IsRising, IsMember-in_id_order, IsPermutation-members}
use Rattle.ept_sample.proofs.ArrivalLaws.{leaves-from}
use Rattle.ept_sample.proofs.SamplingLaws.{given-root, leaves-given, depth-side, is_node-given, IsRising-given}
use Rattle.ept_core.specs.State.{State, node_at, has_open, IsHeld}
use Rattle.ept_core.specs.Law.{KeepsLaw}
use Rattle.ept_core.proofs.Held.{held-drawn, held-point}
use Rattle.ept_core.proofs.Leaving.{loses-more, losers-IsMember, distinct-losers, overflows-from, over-open}

-- ---- lists with distinct ids

length-filter_le : (test : Point → Bool) (xs : List Point) → length (filter test xs) ≤ length xs
length-filter_le test [] = omega arith
length-filter_le test (x ∷ xs) = step (test x) (length-filter_le test xs)
  where
    step : (b : Bool) → length (filter test xs) ≤ length xs → length (cond b (x ∷ filter test xs) (filter test xs)) ≤ suc (length xs)
    step true h = omega (arith, h)
    step false h = omega (arith, h)

-- if points with distinct ids are among others with distinct ids, their number is at most that of the others
pub length-among : (xs ys : List Point) → HasDistinctIds xs → HasDistinctIds ys → ((p : Point) → IsMember p xs → IsMember p ys) → length xs ≤ length ys
length-among xs ys once once' among =
    let mine : Point → Bool = λ q. list_any (λ r. same_id r q) xs in
    let there : (p : Point) → IsMember p xs → IsMember p (filter mine ys) = λ p m. IsMember-kept mine p ys (any-member (λ r. same_id r p) p xs m (same_id-self p)) (among p m) in
    let back : (p : Point) → IsMember p (filter mine ys) → IsMember p xs = λ p m. (
    let h = IsMember-filter mine p ys m in
    let r = member-any (λ q. same_id q p) xs h.1 in
    subst (λ (w : Point). IsMember w xs) (same_member ys once' r.0 p (among r.0 r.1) h.0 r.2) r.1) in
    let same : IsPermutation xs (filter mine ys) = IsPermutation-members xs (filter mine ys) once (HasDistinctIds-filter mine ys once') there back in
    omega (arith, length_permutation xs (filter mine ys) same, length-filter_le mine ys)

-- ---- points that are held are given

module _ (rules : Rules) (points : List Point) (s : State) (law : KeepsLaw rules points s) (qs : List Point) (once : HasDistinctIds qs) (has : (p : Point) → IsMember p law.same_points.0 → IsMember p qs) where
  held_inside : (k : VoxelKey) (p : Point) → IsHeld s k p → InCube rules.cube (place p)
  held_inside k p h =
      all-member (λ (q : Point). InCube rules.cube (place q)) p points law.points_law.inside (held-point rules points s law k p h)

  held_at : (k : VoxelKey) (p : Point) → IsHeld s k p → key_at rules.cube k.depth (place p) ≡ k
  held_at k p h = key_at-box rules.cube k (place p) (law.placed.in_box k p h)

  held_depth : (k : VoxelKey) (p : Point) → IsHeld s k p → k.depth ≤ rules.cube.e
  held_depth k p h =
      let side = depth-side rules.cube law.points_law.cube in
      let low = law.placed.shallow k p h in
      omega (arith, side, low)

  -- a key that holds the point, or has it below, is that of the point at its depth
  top_key : (top k : VoxelKey) (p : Point) → IsHeld s k p → is_within top k ≡ true → key_at rules.cube top.depth (place p) ≡ top
  top_key top k p h w =
      key_at-unique rules.cube top k.depth (place p) (subst (λ (j : VoxelKey). is_within top j ≡ true) (sym (held_at k p h)) w) (held_depth k p h)

  -- what is held at a key or below it is given to it
  abbrev IsGivenBelow : VoxelKey → Type 0
  IsGivenBelow a =
      (k : VoxelKey) (p : Point) → IsHeld s k p → is_within a k ≡ true → IsMember p (given rules qs a)

  node_points : (a : VoxelKey) → IsGivenBelow a → (q : Point) → IsMember q (node_at s.nodes a).points → IsMember q (given rules qs a)
  node_points a gives q m = gives a q (inl m) (is_within-self a)

  lost_given : (a k : VoxelKey) (p : Point) → IsGivenBelow a → IsHeld s k p → is_below a k ≡ true → loses rules a.depth (given rules qs a) p ≡ true
  lost_given a k p gives h below =
      loses-more rules a.depth (node_at s.nodes a).points (given rules qs a) p (node_points a gives) (law.passed.lost_above a k p h below)

  distinct_given : (a : VoxelKey) → HasDistinctIds (given rules qs a)
  distinct_given a = HasDistinctIds-IsRising (given rules qs a) (IsRising-given rules qs a once)

  child_below : (a k : VoxelKey) (o : ℕ) → is_within (child a o) k ≡ true → is_below a k ≡ true
  child_below a k o w =
      let deeper = depth-within (child a o) k w in
      let one = depth-child a o in
      is_below-from a k (is_within-trans a (child a o) k (is_within-child a o) w) (omega (arith, deeper, one))

  -- an open octant overflows with what is given
  pub open_overflows : (a : VoxelKey) (o : ℕ) → IsGivenBelow a → o < 8 → has_open (node_at s.nodes a) o ≡ true → overflows rules a.depth (given rules qs a) o ≡ true
  open_overflows a o gives low e =
      let more = law.settled.open_holds_more a o low e in
      overflows-from rules a.depth (given rules qs a) o (law.bottom a o low e) (omega (arith, more.3, length-among more.0 (losers rules a.depth (given rules qs a) o) more.1 (distinct-losers rules a.depth (given rules qs a) o (distinct_given a)) (λ x m. lost x (more.2 x m))))
    where
      octant_there : (x : Point) (k : VoxelKey) → IsHeld s k x → is_within (child a o) k ≡ true → octant rules a.depth x ≡ o
      octant_there x k h w =
          let at : key_at rules.cube (child a o).depth (place x) ≡ child a o = top_key (child a o) k x h w in
          sym (octant_of-key_at rules.cube a.depth (place x)) ∙ (ap (λ (d : ℕ). octant_of (key_at rules.cube d (place x))) (sym (depth-child a o)) ∙ (ap octant_of at ∙ octant_of-child a o low))

      lost : (x : Point) → (k : VoxelKey) × (is_within (child a o) k ≡ true) × IsHeld s k x → IsMember x (losers rules a.depth (given rules qs a) o)
      lost x (k, w, h) =
          let below : is_below a k ≡ true = child_below a k o w in
          subst (λ (n : ℕ). IsMember x (losers rules a.depth (given rules qs a) n)) (octant_there x k h w) (losers-IsMember rules a.depth (given rules qs a) x (gives k x h (is_within-trans a (child a o) k (is_within-child a o) w)) (lost_given a k x gives h below))

  -- a point that is held below leaves the points that are given
  pub below_leaves : (a k : VoxelKey) (p : Point) → IsGivenBelow a → IsHeld s k p → is_below a k ≡ true → leaves rules a.depth none_open (given rules qs a) p ≡ true
  below_leaves a k p gives h below =
      let over : overflows rules a.depth (given rules qs a) (octant rules a.depth p) ≡ true = open_overflows a (octant rules a.depth p) gives (octant_at-below rules.cube a.depth (place p)) (law.passed.through_open a k p h below) in
      leaves-from rules a.depth none_open (given rules qs a) p (lost_given a k p gives h below) (over-open rules a.depth none_open (given rules qs a) (octant rules a.depth p) over)

  given_top : (a : VoxelKey) → a.depth ≡ 0 → IsGivenBelow a
  given_top a flat k p h w =
      let at : a ≡ root = sym (top_key a k p h w) ∙ (ap (λ (d : ℕ). key_at rules.cube d (place p)) flat ∙ key_at-root rules.cube (place p) (held_inside k p h)) in
      subst (λ (j : VoxelKey). IsMember p (given rules qs j)) (sym at) (subst (λ (xs : List Point). IsMember p xs) (sym (given-root rules qs)) (IsMember-in_id_order p qs (has p (held-drawn rules points s law k p h))))

  given_step : (a : VoxelKey) → 0 < a.depth → IsGivenBelow (parent a) → IsGivenBelow a
  given_step a deep gives k p h w =
      let up : is_within (parent a) k ≡ true = is_within-trans (parent a) a k (is_within-parent a deep) w in
      let one = depth-parent a in
      let lower = depth-within a k w in
      let below : is_below (parent a) k ≡ true = is_below-from (parent a) k up (omega (arith, one, lower, deep)) in
      let goes = leaves-given rules qs (parent a) p (gives k p h up) (below_leaves (parent a) k p gives h below) in
      let level : (parent a).depth + 1 ≡ a.depth = omega (arith, one, deep) in
      let side : octant rules (parent a).depth p ≡ octant_of a = sym (octant_of-key_at rules.cube (parent a).depth (place p)) ∙ (ap (λ (d : ℕ). octant_of (key_at rules.cube d (place p))) level ∙ ap octant_of (top_key a k p h w)) in
      subst (λ (j : VoxelKey). IsMember p (given rules qs j)) (ap (λ (o : ℕ). child (parent a) o) side ∙ child-parent a deep) goes

  given_depth : (d : ℕ) (a : VoxelKey) → a.depth ≡ d → IsGivenBelow a
  given_depth zero a e = given_top a e
  given_depth (suc d) a e =
      given_step a (omega (arith, e)) (given_depth d (parent a) (omega (arith, e, depth-parent a)))

  pub given-below : (a : VoxelKey) → IsGivenBelow a
  given-below a = given_depth a.depth a refl

  -- a point is given to the key at which it is held
  pub held-given : (k : VoxelKey) (p : Point) → IsHeld s k p → IsMember p (given rules qs k)
  held-given k p h = given-below k k p h (is_within-self k)

  -- so the key is one of the sampling
  pub held-is_node : (k : VoxelKey) (p : Point) → IsHeld s k p → is_node rules qs k ≡ true
  held-is_node k p h = is_node-given rules qs k p (held-given k p h)
