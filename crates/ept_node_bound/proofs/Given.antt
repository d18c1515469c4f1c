-- How many points a node is given.
use Rattle.std.proofs.Common.{◌≡◌, ◌∙◌, ℕ, zero, suc, ◌≤◌, ◌<◌, Bool, true, false, cond, ◌&&◌, ◌==◌, ◌⊎◌, inl, inr, List, [], refl, sym, ap, subst, arith, length, count_by}
use Rattle.ept_point.specs.declared.point.Point.{Point}
use Rattle.ept_space.specs.declared.cube.Rules.{Rules}
use Rattle.ept_space.specs.VoxelKey.{VoxelKey, root, same_key, parent, octant_of}
use Rattle.ept_space.specs.OctreeCube.{InCube, key_at}
use Rattle.ept_space.proofs.Within.{same_key-same}
use Rattle.ept_sample.specs.Place.{place}
use Rattle.ept_sample.specs.Ids.{in_id_order}
use Rattle.ept_sample.specs.Arrivals.{octant, losers, overflows, is_open, leaves, sent, none_open}
use Rattle.ept_sample.specs.Sampling.{given_at, given, is_node}
use Rattle.ept_sample.specs.SamplingLaws.{CanBeSampled}
use Rattle.ept_sample.specs.Members.{IsMember}
use Rattle.ept_sample.proofs.Members.{all-member}
use Rattle.ept_sample.proofs.IdLaws.{count_by-IsPermutation, count_by-filter-le, IsPermutation-in_id_order}
use Rattle.ept_sample.proofs.ArrivalLaws.{leaves-open, overflows-more, sent-none_open}
use Rattle.ept_sample.proofs.SamplingLaws.{given-top, given-leaves, given-parent, given-IsMember, given-key_at, node-cases}
use Rattle.ept_node_bound.proofs.Counts.{count_by-all}

zero_or_more : (d : ℕ) → (d ≡ 0) ⊎ (0 < d)
zero_or_more zero = inl refl
zero_or_more (suc d) = inr (omega arith)

-- a node of depth 0 is the root
pub node-top : (rules : Rules) (points : List Point) (key : VoxelKey) → is_node rules points key ≡ true → key.depth ≡ 0 → key ≡ root
node-top rules points key is top =
    elim (node-cases rules points key is) [ inl same ↦ same | inr some ↦ given-top rules points key some.0 top some.1 ]

-- if a point leaves for an octant, that octant overflows
open-overflows : (rules : Rules) (depth : ℕ) (xs : List Point) (o : ℕ) → is_open rules depth none_open xs o ≡ true → overflows rules depth xs o ≡ true
unfolding is_open
open-overflows rules depth xs o e = e

-- a key below the root is given no points, or more than the threshold
given-more : (rules : Rules) (points : List Point) (key : VoxelKey) (p : Point) → 0 < key.depth → IsMember p (given rules points key) → rules.threshold < length (given rules points key)
given-more rules points key p deep m =
    let above : List Point = given rules points (parent key) in
    let h = given-leaves rules points key p deep m in
    let opened : overflows rules (parent key).depth above (octant rules (parent key).depth p) ≡ true =
    open-overflows rules (parent key).depth above (octant rules (parent key).depth p) (leaves-open rules (parent key).depth none_open above p h.1) in
    let over : overflows rules (parent key).depth above (octant_of key) ≡ true =
    subst (λ (o : ℕ). overflows rules (parent key).depth above o ≡ true) h.2 opened in
    let all : given rules points key ≡ losers rules (parent key).depth above (octant_of key) =
    given-parent rules points key deep
    ∙ (sent-none_open rules (parent key).depth above (octant_of key)
    ∙ ap (λ (b : Bool). cond b (losers rules (parent key).depth above (octant_of key)) []) over) in
    subst (λ (xs : List Point). rules.threshold < length xs) (sym all) (overflows-more rules (parent key).depth above (octant_of key) over)

-- so a node below the root is given more
pub node-more : (rules : Rules) (points : List Point) (key : VoxelKey) → is_node rules points key ≡ true → ¬ (key ≡ root) → rules.threshold < length (given rules points key)
node-more rules points key is lower =
    elim (node-cases rules points key is) [
      | inl top ↦ absurd (lower top)
      | inr some ↦
          elim (zero_or_more key.depth) [
            | inl top ↦ absurd (lower (node-top rules points key is top))
            | inr deep ↦ given-more rules points key some.0 deep some.1
          ]
    ]

-- a given point lies in the cube
given-InCube : (rules : Rules) (points : List Point) (key : VoxelKey) (p : Point) → CanBeSampled rules points → IsMember p (given rules points key) → InCube rules.cube (place p)
given-InCube rules points key p can m =
    all-member (λ q. InCube rules.cube (place q)) p points can.inside (given-IsMember rules points key p m)

-- so at one depth it is given to the key of its place
given-at : (rules : Rules) (points : List Point) (key : VoxelKey) (p : Point) → CanBeSampled rules points → IsMember p (given rules points key) → key_at rules.cube key.depth (place p) ≡ key
given-at rules points key p can m =
    given-key_at rules points key p can.cube (given-InCube rules points key p can m) m

pub given-once : (rules : Rules) (points : List Point) (j k : VoxelKey) (p : Point) → CanBeSampled rules points → IsMember p (given rules points j) → IsMember p (given rules points k) → j.depth ≡ k.depth → j ≡ k
given-once rules points j k p can m n level =
    sym (given-at rules points j p can m)
    ∙ (ap (λ (d : ℕ). key_at rules.cube d (place p)) level ∙ given-at rules points k p can n)

-- a test counts no more of the points given to a key than of all points
count_by-given_at : (rules : Rules) (points : List Point) (test : Point → Bool) (d : ℕ) (key : VoxelKey) → count_by test (given_at rules points d key) ≤ count_by test points
unfolding given_at sent
count_by-given_at rules points test zero key = top (same_key key root)
  where
    top : (b : Bool) → count_by test (cond b (in_id_order points) []) ≤ count_by test points
    top true =
        omega (arith, count_by-IsPermutation test points (in_id_order points) (IsPermutation-in_id_order points))
    top false = omega arith
count_by-given_at rules points test (suc d) key =
    omega (arith, count_by-filter-le test (λ p. leaves rules d none_open (given_at rules points d (parent key)) p && (octant rules d p == octant_of key)) (given_at rules points d (parent key)), count_by-given_at rules points test d (parent key))

-- the point lies in the box of the key, at a depth
abbrev pub lies_at : Rules → ℕ → VoxelKey → Point → Bool
lies_at rules depth key p = same_key (key_at rules.cube depth (place p)) key

given-lies : (rules : Rules) (points : List Point) (key : VoxelKey) → CanBeSampled rules points → length (given rules points key) ≤ count_by (lies_at rules key.depth key) points
given-lies rules points key can =
    omega (arith, count_by-given_at rules points (lies_at rules key.depth key) key.depth key, count_by-all (lies_at rules key.depth key) (given rules points key) (λ p m. same_key-same (key_at rules.cube key.depth (place p)) key (given-at rules points key p can m)))

-- so more points than the threshold lie in the box of a node below the root
pub node-lies : (rules : Rules) (points : List Point) (key : VoxelKey) (d : ℕ) → CanBeSampled rules points → is_node rules points key ≡ true → ¬ (key ≡ root) → key.depth ≡ d → rules.threshold < count_by (lies_at rules d key) points
node-lies rules points key d can is lower e =
    subst (λ (n : ℕ). rules.threshold < count_by (lies_at rules n key) points) e (omega (arith, node-more rules points key is lower, given-lies rules points key can))
