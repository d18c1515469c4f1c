-- The list of the sampling's nodes.
use Rattle.std.proofs.Common.{◌≡◌, ◌∙◌, ℕ, zero, suc, ◌+◌, ◌≤◌, Bool, true, false, ◌⊎◌, inl, inr, List, [], ◌∷◌, ◌++◌, map, refl, sym, ap, subst, arith, filter, count_by, cond}
use Rattle.std.specs.List.{flat_map}
use Rattle.std.specs.List.Sorted.{IsPermutation}
use Rattle.std.proofs.lemmas.List.Sorted.{All-permutation}
use Rattle.ept_point.specs.declared.point.Point.{Point}
use Rattle.ept_space.specs.declared.cube.Rules.{Rules}
use Rattle.ept_space.specs.VoxelKey.{VoxelKey}
use Rattle.ept_space.specs.Place.{Place}
use Rattle.ept_space.specs.OctreeCube.{OctreeCube, IsCube, InCube, key_at}
use Rattle.ept_sample.specs.declared.tiles.Tile.{Tile}
use Rattle.ept_sample.specs.Place.{place, AllInCube}
use Rattle.ept_sample.specs.Ids.{same_id, HasDistinctIds}
use Rattle.ept_sample.specs.Sampling.{given, sampling, is_node}
use Rattle.ept_sample.specs.Nodes.{keys_down_to, candidate_keys, node_keys, tile_at, sampled}
use Rattle.ept_sample.specs.Members.{IsMember}
use Rattle.ept_sample.proofs.Members.{IsMember-left, IsMember-right, IsMember-filter, IsMember-kept, IsMember-flat_map, member-flat_map, all-member}
use Rattle.ept_sample.proofs.Ascending.{IsRising, same_rising}
use Rattle.ept_sample.proofs.KeyOrder.{key_before, key_order, IsMember-in_key_order, in_key_order-IsMember, IsRising-in_key_order}
use Rattle.ept_sample.proofs.IdLaws.{count_by-append, count_by-cons, same_id-trans, same_id-sym, same_member, HasDistinctIds-IsRising, IsPermutation-members}
use Rattle.ept_sample.proofs.SamplingLaws.{below_or_at, given-IsMember, given-depth, given-key_at, node-cases, is_node-given, IsMember-sampling, stays-somewhere, stays-once, IsRising-sampling, is_node-IsPermutation, sampling-IsPermutation}
use Rattle.ept_sample.proofs.Choices.{either, not_both}

-- ---- the keys of the nodes

-- among the keys of a place down to a depth is the key of each lesser depth
pub IsMember-keys_down_to : (cube : OctreeCube) (at : Place) (d n : ℕ) → d ≤ n → IsMember (key_at cube d at) (keys_down_to cube n at)
IsMember-keys_down_to cube at d zero h = inl (ap (λ (k : ℕ). key_at cube k at) (let e : 0 ≡ d = omega arith in e))
IsMember-keys_down_to cube at d (suc n) h =
    elim (below_or_at d (suc n) h) [
      | inl less ↦ IsMember-left (key_at cube d at) (keys_down_to cube n at) (key_at cube (suc n) at ∷ []) (IsMember-keys_down_to cube at d n (omega arith))
      | inr same ↦ IsMember-right (key_at cube d at) (keys_down_to cube n at) (key_at cube (suc n) at ∷ []) (inl (ap (λ (k : ℕ). key_at cube k at) (sym same)))
    ]

-- each of them is a node
pub IsMember-node_keys : (rules : Rules) (points : List Point) (key : VoxelKey) → IsMember key (node_keys rules points) → is_node rules points key ≡ true
unfolding node_keys
IsMember-node_keys rules points key m =
    (IsMember-filter (is_node rules points) key (candidate_keys rules.cube points) (in_key_order-IsMember key (filter (is_node rules points) (candidate_keys rules.cube points)) m)).1

candidate : (rules : Rules) (points : List Point) (key : VoxelKey) (p : Point) → IsCube rules.cube → AllInCube rules.cube points → IsMember p (given rules points key) → IsMember key (flat_map (λ q. keys_down_to rules.cube rules.cube.depth (place q)) points)
candidate rules points key p ok inside m =
    let mine : IsMember p points = given-IsMember rules points key p m in
    let at = given-key_at rules points key p ok (all-member (λ q. InCube rules.cube (place q)) p points inside mine) m in
    IsMember-flat_map (λ q. keys_down_to rules.cube rules.cube.depth (place q)) p key points mine (subst (λ (k : VoxelKey). IsMember k (keys_down_to rules.cube rules.cube.depth (place p))) at (IsMember-keys_down_to rules.cube (place p) key.depth rules.cube.depth (given-depth rules points key p m)))

-- and each node is one of them
pub node_keys-IsMember : (rules : Rules) (points : List Point) (key : VoxelKey) → IsCube rules.cube → AllInCube rules.cube points → is_node rules points key ≡ true → IsMember key (node_keys rules points)
unfolding node_keys
node_keys-IsMember rules points key ok inside e =
    IsMember-in_key_order key (filter (is_node rules points) (candidate_keys rules.cube points)) (IsMember-kept (is_node rules points) key (candidate_keys rules.cube points) e (elim (node-cases rules points key e) [ inl top ↦ inl (sym top) | inr some ↦ inr (candidate rules points key some.0 ok inside some.1) ]))

-- in key order, each once
pub IsRising-node_keys : (rules : Rules) (points : List Point) → IsRising key_before (node_keys rules points)
unfolding node_keys
IsRising-node_keys rules points =
    IsRising-in_key_order (filter (is_node rules points) (candidate_keys rules.cube points))

-- rising keys that are those of the nodes are these
pub node_keys-is : (rules : Rules) (points : List Point) (keys : List VoxelKey) → IsCube rules.cube → AllInCube rules.cube points → IsRising key_before keys → ((k : VoxelKey) → IsMember k keys → is_node rules points k ≡ true) → ((k : VoxelKey) → is_node rules points k ≡ true → IsMember k keys) → keys ≡ node_keys rules points
node_keys-is rules points keys ok inside up there back =
    same_rising key_before key_order keys (node_keys rules points) up (IsRising-node_keys rules points) (λ k m. node_keys-IsMember rules points k ok inside (there k m)) (λ k m. back k (IsMember-node_keys rules points k m))

-- ---- the points of the nodes together

counted : (test : Point → Bool) (xs : List Point) → 1 ≤ count_by test xs → (p : Point) × IsMember p xs × (test p ≡ true)
counted test [] some = absurd (let none : 1 ≤ 0 = some in omega arith)
counted test (p ∷ xs) some =
    elim (either (test p)) [
      | inl passes ↦ (p, inl refl, passes)
      | inr fails ↦
          let rest : 1 ≤ count_by test xs = omega (arith, some, count_by-cons test p xs ∙ ap (λ (b : Bool). cond b 1 0 + count_by test xs) fails) in
          let more = counted test xs rest in (more.0, inr more.1, more.2)
    ]

none_or_more : (n : ℕ) → (n ≡ 0) ⊎ (1 ≤ n)
none_or_more zero = inl refl
none_or_more (suc n) = inr (omega arith)

distinct_append : (xs ys : List Point) → HasDistinctIds xs → HasDistinctIds ys → ((p q : Point) → IsMember p xs → IsMember q ys → same_id p q ≡ false) → HasDistinctIds (xs ++ ys)
unfolding HasDistinctIds
distinct_append xs ys once once' apart p =
    elim (none_or_more (count_by (same_id p) xs)) [
      | inl none ↦ omega (arith, none, once' p, count_by-append (same_id p) xs ys)
      | inr some ↦
          elim (none_or_more (count_by (same_id p) ys)) [
            | inl none ↦ omega (arith, none, once p, count_by-append (same_id p) xs ys)
            | inr more ↦
                let q = counted (same_id p) xs some in
                let r = counted (same_id p) ys more in
                absurd (not_both (same_id q.0 r.0) (same_id-trans q.0 p r.0 (same_id-sym p q.0 q.2) r.2) (apart q.0 r.0 q.1 r.1))
          ]
    ]

-- the points of rising keys together have distinct ids
distinct_nodes : (rules : Rules) (points : List Point) → IsCube rules.cube → AllInCube rules.cube points → HasDistinctIds points → (keys : List VoxelKey) → IsRising key_before keys → HasDistinctIds (flat_map (sampling rules points) keys)
distinct_nodes rules points ok inside once [] up = HasDistinctIds-IsRising [] tt
distinct_nodes rules points ok inside once (k ∷ keys) up =
    distinct_append (sampling rules points k) (flat_map (sampling rules points) keys) (HasDistinctIds-IsRising (sampling rules points k) (IsRising-sampling rules points k once)) (distinct_nodes rules points ok inside once keys up.1) apart
  where
    mine : (p : Point) (j : VoxelKey) → IsMember p (sampling rules points j) → IsMember p points
    mine p j m = given-IsMember rules points j p (IsMember-sampling rules points j p m).0

    apart : (p q : Point) → IsMember p (sampling rules points k) → IsMember q (flat_map (sampling rules points) keys) → same_id p q ≡ false
    apart p q m n =
        elim (either (same_id p q)) [
          | inl same ↦
              let f = member-flat_map (sampling rules points) q keys n in
              let one : p ≡ q = same_member points once p q (mine p k m) (mine q f.0 f.2) same in
              let again : IsMember p (sampling rules points f.0) = subst (λ (w : Point). IsMember w (sampling rules points f.0)) (sym one) f.2 in
              let level : k ≡ f.0 = stays-once rules points k f.0 p ok (all-member (λ r. InCube rules.cube (place r)) p points inside (mine p k m)) m again in
              absurd (not_both (key_before k k) (subst (λ (w : VoxelKey). key_before k w ≡ true) (sym level) (up.0 f.0 f.1)) (key_order.none_itself k))
          | inr fine ↦ fine
        ]

pub points-of : (rules : Rules) (points : List Point) (keys : List VoxelKey) → flat_map (λ (t : Tile). t.points) (map (tile_at rules points) keys) ≡ flat_map (sampling rules points) keys
points-of rules points [] = refl
points-of rules points (k ∷ keys) = ap (λ (xs : List Point). sampling rules points k ++ xs) (points-of rules points keys)

-- the nodes' points are together the points
pub IsPermutation-sampled : (rules : Rules) (points : List Point) → IsCube rules.cube → AllInCube rules.cube points → HasDistinctIds points → IsPermutation points (flat_map (λ (t : Tile). t.points) (sampled rules points))
unfolding sampled
IsPermutation-sampled rules points ok inside once =
    subst (λ (xs : List Point). IsPermutation points xs) (sym (points-of rules points (node_keys rules points))) (IsPermutation-members points (flat_map (sampling rules points) (node_keys rules points)) once (distinct_nodes rules points ok inside once (node_keys rules points) (IsRising-node_keys rules points)) there back)
  where
    there : (p : Point) → IsMember p points → IsMember p (flat_map (sampling rules points) (node_keys rules points))
    there p m =
        let k = stays-somewhere rules points p m in
        IsMember-flat_map (sampling rules points) k.0 p (node_keys rules points) (node_keys-IsMember rules points k.0 ok inside (is_node-given rules points k.0 p (IsMember-sampling rules points k.0 p k.1).0)) k.1

    back : (p : Point) → IsMember p (flat_map (sampling rules points) (node_keys rules points)) → IsMember p points
    back p m =
        let f = member-flat_map (sampling rules points) p (node_keys rules points) m in
        given-IsMember rules points f.0 p (IsMember-sampling rules points f.0 p f.2).0

-- ---- the order of the list makes no difference

pub node_keys-IsPermutation : (rules : Rules) (ps qs : List Point) → IsCube rules.cube → AllInCube rules.cube ps → AllInCube rules.cube qs → HasDistinctIds ps → IsPermutation ps qs → node_keys rules ps ≡ node_keys rules qs
node_keys-IsPermutation rules ps qs ok inside inside' once h =
    node_keys-is rules qs (node_keys rules ps) ok inside' (IsRising-node_keys rules ps) (λ k m. sym (is_node-IsPermutation rules ps qs k once h) ∙ IsMember-node_keys rules ps k m) (λ k e. node_keys-IsMember rules ps k ok inside (is_node-IsPermutation rules ps qs k once h ∙ e))

same_tiles : (rules : Rules) (ps qs : List Point) → HasDistinctIds ps → IsPermutation ps qs → (keys : List VoxelKey) → map (tile_at rules ps) keys ≡ map (tile_at rules qs) keys
same_tiles rules ps qs once h [] = refl
same_tiles rules ps qs once h (k ∷ keys) =
    ap (λ (xs : List Point). (let t : Tile = record { key = k; points = xs } in t) ∷ map (tile_at rules ps) keys) (sampling-IsPermutation rules ps qs k once h)
    ∙ ap (λ (ts : List Tile). tile_at rules qs k ∷ ts) (same_tiles rules ps qs once h keys)

pub sampled-IsPermutation : (rules : Rules) (ps qs : List Point) → IsCube rules.cube → AllInCube rules.cube ps → HasDistinctIds ps → IsPermutation ps qs → sampled rules ps ≡ sampled rules qs
unfolding sampled
sampled-IsPermutation rules ps qs ok inside once h =
    same_tiles rules ps qs once h (node_keys rules ps)
    ∙ ap (λ (keys : List VoxelKey). map (tile_at rules qs) keys) (node_keys-IsPermutation rules ps qs ok inside (All-permutation (λ p. InCube rules.cube (place p)) ps qs h inside) once h)
