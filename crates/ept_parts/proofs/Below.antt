-- The nodes of a part.
use Rattle.std.proofs.Common.{◌≡◌, ◌∙◌, ℕ, zero, suc, ◌≤◌, ◌<◌, Bool, true, false, ◌||◌, nat_lt, inl, inr, List, refl, sym, ap, subst, arith, filter, length}
use Rattle.ept_point.specs.declared.point.Point.{Point}
use Rattle.ept_space.specs.declared.cube.Rules.{Rules}
use Rattle.ept_space.specs.VoxelKey.{VoxelKey, root, same_key, child, parent, octant_of, is_within}
use Rattle.ept_space.specs.OctreeCube.{InCube}
use Rattle.ept_space.proofs.Family.{octant_of-child, depth-child, depth-parent}
use Rattle.ept_space.proofs.Within.{depth-within, is_within-level, is_below-from, is_within-above}
use Rattle.ept_sample.specs.Place.{place}
use Rattle.ept_sample.specs.Ids.{comes_before, HasDistinctIds, in_id_order}
use Rattle.ept_sample.specs.Arrivals.{octant, kept, sent, none_open}
use Rattle.ept_sample.specs.Sampling.{given, sampling, is_node}
use Rattle.ept_sample.specs.SamplingLaws.{CanBeSampled}
use Rattle.ept_sample.specs.Members.{IsMember}
use Rattle.ept_sample.proofs.Members.{IsMember-filter, IsMember-kept, all-member, All-members}
use Rattle.ept_sample.proofs.Ascending.{IsRising-filter}
use Rattle.ept_sample.proofs.IdLaws.{HasDistinctIds-IsPermutation, HasDistinctIds-filter, IsPermutation-in_id_order, IsMember-in_id_order, in_id_order-IsMember, IsRising-in_id_order, in_id_order-members, in_id_order-IsRising}
use Rattle.ept_sample.proofs.SamplingLaws.{given-root, given-child, given-parent, given-leaves, given-IsMember, node-cases, IsMember-sampling}
use Rattle.ept_sample.proofs.Choices.{is_false, not_both}
use Rattle.ept_parts.specs.Parts.{Octants, part_of}
use Rattle.ept_parts.specs.PartLaws.{IsSameNode}
use Rattle.ept_parts.proofs.AtRoot.{mine, kept-part, sent-part}

-- ---- points that pass a test, in id order

module _ (test : Point → Bool) (points : List Point) (once : HasDistinctIds points) where
  there : (p : Point) → IsMember p (filter test points) → IsMember p (filter test (in_id_order points))
  there p m =
      let h = IsMember-filter test p points m in
      IsMember-kept test p (in_id_order points) h.1 (IsMember-in_id_order p points h.0)

  back : (p : Point) → IsMember p (filter test (in_id_order points)) → IsMember p (filter test points)
  back p m =
      let h = IsMember-filter test p (in_id_order points) m in
      IsMember-kept test p points h.1 (in_id_order-IsMember p points h.0)

  ordered-once : HasDistinctIds (in_id_order points)
  ordered-once = HasDistinctIds-IsPermutation points (in_id_order points) (IsPermutation-in_id_order points) once

  pub in_id_order-filter : in_id_order (filter test points) ≡ filter test (in_id_order points)
  in_id_order-filter =
      in_id_order-members (filter test points) (filter test (in_id_order points)) (HasDistinctIds-filter test points once) (HasDistinctIds-filter test (in_id_order points) ordered-once) there back
      ∙ in_id_order-IsRising (filter test (in_id_order points)) (IsRising-filter comes_before test (in_id_order points) (IsRising-in_id_order points once))

-- ---- a part can be sampled

pub part-IsMember : (rules : Rules) (octants : Octants) (points : List Point) (p : Point) → IsMember p (part_of rules octants points) → IsMember p points × (octants (octant rules 0 p) ≡ true)
unfolding part_of
part-IsMember rules octants points p m = IsMember-filter (mine rules octants) p points m

pub part-once : (rules : Rules) (octants : Octants) (points : List Point) → HasDistinctIds points → HasDistinctIds (part_of rules octants points)
unfolding part_of
part-once rules octants points once = HasDistinctIds-filter (mine rules octants) points once

pub part-can : (rules : Rules) (octants : Octants) (points : List Point) → CanBeSampled rules points → CanBeSampled rules (part_of rules octants points)
part-can rules octants points can = record {
  cube = can.cube;
  inside = All-members (λ p. InCube rules.cube (place p)) (part_of rules octants points) (λ p m. all-member (λ p. InCube rules.cube (place p)) p points can.inside (part-IsMember rules octants points p m).0);
  distinct = part-once rules octants points can.distinct;
}

-- the points of its nodes lie in its octants
pub part-points : (rules : Rules) (octants : Octants) (points : List Point) (key : VoxelKey) (p : Point) → IsMember p (sampling rules (part_of rules octants points) key) → IsMember p points × (octants (octant rules 0 p) ≡ true)
part-points rules octants points key p m =
    part-IsMember rules octants points p (given-IsMember rules (part_of rules octants points) key p (IsMember-sampling rules (part_of rules octants points) key p m).0)

-- ---- what is given to the nodes of a part

module _ (rules : Rules) (octants : Octants) (points : List Point) (can : CanBeSampled rules points) where
  abbrev part : List Point
  part = part_of rules octants points

  root-given : given rules part root ≡ filter (mine rules octants) (given rules points root)
  unfolding part_of
  root-given =
      given-root rules part
      ∙ (in_id_order-filter (mine rules octants) points can.distinct
      ∙ ap (λ (xs : List Point). filter (mine rules octants) xs) (sym (given-root rules points)))

  module _ (o : ℕ) (low : o < 8) where
    -- the key of the octant, or a key whose parent is in the octant
    at_octant : (key : VoxelKey) → is_within (child root o) key ≡ true → key.depth ≡ 1 → child root o ≡ key
    at_octant key within top =
        is_within-level (child root o) key within (omega (arith, top, depth-child root o))

    above_octant : (n : ℕ) (key : VoxelKey) → is_within (child root o) key ≡ true → key.depth ≡ suc (suc n) → is_within (child root o) (parent key) ≡ true
    above_octant n key within deep =
        is_within-above (child root o) key (is_below-from (child root o) key within (omega (arith, deep, depth-child root o)))

    -- ---- in an octant of the part

    child-given : octants o ≡ true → given rules part (child root o) ≡ given rules points (child root o)
    child-given its =
        given-child rules part root o low
        ∙ (ap (λ (xs : List Point). sent rules 0 none_open xs o) root-given
        ∙ (sent-part rules octants can.cube (given rules points root) o its
        ∙ sym (given-child rules points root o low)))

    given-by : (n : ℕ) (key : VoxelKey) → octants o ≡ true → is_within (child root o) key ≡ true → key.depth ≡ suc n → given rules part key ≡ given rules points key
    given-by zero key its within deep =
        subst (λ (k : VoxelKey). given rules part k ≡ given rules points k) (at_octant key within deep) (child-given its)
    given-by (suc n) key its within deep =
        let below : 0 < key.depth = omega (arith, deep) in
        given-parent rules part key below
        ∙ (ap (λ (xs : List Point). sent rules (parent key).depth none_open xs (octant_of key)) (given-by n (parent key) its (above_octant n key within deep) (omega (arith, deep, depth-parent key)))
        ∙ sym (given-parent rules points key below))

    -- ---- in another octant

    none-by : (n : ℕ) (key : VoxelKey) (p : Point) → octants o ≡ false → is_within (child root o) key ≡ true → key.depth ≡ suc n → IsMember p (given rules part key) → ⊥
    none-by zero key p closed within deep m =
        let at = at_octant key within deep in
        let h = given-leaves rules part (child root o) p (omega (arith, depth-child root o)) (subst (λ (k : VoxelKey). IsMember p (given rules part k)) (sym at) m) in
        let up : (parent (child root o)).depth ≡ 0 = omega (arith, depth-parent (child root o), depth-child root o) in
        let mine_too : octants (octant rules 0 p) ≡ true = (part-IsMember rules octants points p (given-IsMember rules part key p m)).1 in
        let there : octant rules 0 p ≡ o = ap (λ (d : ℕ). octant rules d p) (sym up) ∙ (h.2 ∙ octant_of-child root o low) in
        not_both (octants o) (ap octants (sym there) ∙ mine_too) closed
    none-by (suc n) key p closed within deep m =
        none-by n (parent key) p closed (above_octant n key within deep) (omega (arith, deep, depth-parent key)) (given-leaves rules part key p (omega (arith, deep)) m).0

-- a key in an octant is below the root
octant-deep : (o : ℕ) (key : VoxelKey) → is_within (child root o) key ≡ true → (n : ℕ) × (key.depth ≡ suc n)
octant-deep o key within = deep key.depth (omega (arith, depth-within (child root o) key within, depth-child root o))
  where
    deep : (d : ℕ) → 1 ≤ d → (n : ℕ) × (d ≡ suc n)
    deep zero some = absurd (omega (arith, some))
    deep (suc n) some = (n, refl)

-- ---- the laws

pub part-root : (rules : Rules) (octants : Octants) (points : List Point) → CanBeSampled rules points → sampling rules (part_of rules octants points) root ≡ part_of rules octants (sampling rules points root)
unfolding sampling part_of
part-root rules octants points can =
    ap (λ (xs : List Point). kept rules 0 none_open xs) (root-given rules octants points can)
    ∙ kept-part rules octants can.cube (given rules points root)

pub part-nodes : (rules : Rules) (octants : Octants) (points : List Point) (o : ℕ) (key : VoxelKey) → CanBeSampled rules points → o < 8 → octants o ≡ true → is_within (child root o) key ≡ true → IsSameNode rules (part_of rules octants points) points key
unfolding sampling is_node
part-nodes rules octants points o key can low its within =
    let n = octant-deep o key within in
    let one = given-by rules octants points can o low n.0 key its within n.1 in
    record {
      node = ap (λ (xs : List Point). same_key key root || nat_lt 0 (length xs)) one;
      points = ap (λ (xs : List Point). kept rules key.depth none_open xs) one;
    }

pub part-no_other : (rules : Rules) (octants : Octants) (points : List Point) (o : ℕ) (key : VoxelKey) → CanBeSampled rules points → o < 8 → octants o ≡ false → is_within (child root o) key ≡ true → is_node rules (part_of rules octants points) key ≡ false
part-no_other rules octants points o key can low closed within =
    let n = octant-deep o key within in
    is_false (is_node rules (part_of rules octants points) key) (λ is. elim (node-cases rules (part_of rules octants points) key is) [
      | inl top ↦ (let shallow : key.depth ≡ 0 = ap (λ (k : VoxelKey). k.depth) top in absurd (omega (arith, shallow, n.1)))
      | inr some ↦ none-by rules octants points can o low n.0 key some.0 closed within n.1 some.1
    ])
