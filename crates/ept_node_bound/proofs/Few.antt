-- The number of nodes, depth by depth.
use Rattle.std.proofs.Common.{◌≡◌, ◌∙◌, ℕ, zero, suc, ◌+◌, ◌*◌, ◌/◌, ◌<◌, ◌≤◌, cond, ◌==◌, nat_lt, List, [], ◌∷◌, refl, sym, ap, subst, arith, filter, length, count_by}
use Rattle.std.proofs.lemmas.Bool.{lt-ltb}
use Rattle.std.proofs.lemmas.Bool.Decides.{nat_tests}
use Rattle.std.proofs.lemmas.List.Sums.{length-filter}
use Rattle.std.proofs.lemmas.Nat.{le-div, div-add-mod'}
use Rattle.std.proofs.lemmas.List.{length-map}
use Rattle.std.proofs.Math.Nat.{mul-le-mul_left}
use Rattle.ept_point.specs.declared.point.Point.{Point}
use Rattle.ept_space.specs.declared.cube.Rules.{Rules}
use Rattle.ept_space.specs.VoxelKey.{VoxelKey, root}
use Rattle.ept_space.specs.OctreeCube.{key_at}
use Rattle.ept_space.proofs.Within.{same_key-true}
use Rattle.ept_sample.specs.Place.{place}
use Rattle.ept_sample.specs.Nodes.{node_keys, tile_at, sampled}
use Rattle.ept_sample.specs.SamplingLaws.{CanBeSampled}
use Rattle.ept_sample.specs.Members.{IsMember}
use Rattle.ept_sample.proofs.Members.{IsMember-filter}
use Rattle.ept_sample.proofs.Ascending.{IsRising-filter}
use Rattle.ept_sample.proofs.ArrivalLaws.{same_number}
use Rattle.ept_sample.proofs.KeyOrder.{key_before, key_order}
use Rattle.ept_sample.proofs.SamplingLaws.{node-depth}
use Rattle.ept_sample.proofs.NodeLaws.{IsMember-node_keys, IsRising-node_keys}
use Rattle.ept_node_bound.specs.Few.{nodes_at, most_nodes}
use Rattle.ept_node_bound.proofs.Counts.{count_by-cons, count_by-all, count_by-none, count_by-once, meetings-le, le-meetings}
use Rattle.ept_node_bound.proofs.Given.{lies_at, node-top, node-lies}

-- ---- at one depth

-- the keys of a depth
of_depth : ℕ → List VoxelKey → List VoxelKey
of_depth depth keys = filter (λ (key : VoxelKey). key.depth == depth) keys

-- a point lies in the box of at most one of them
lies-once : (rules : Rules) (points : List Point) (depth : ℕ) (p : Point) → count_by (λ key. lies_at rules depth key p) (of_depth depth (node_keys rules points)) ≤ 1
unfolding of_depth
lies-once rules points depth p =
    count_by-once key_before key_order (λ key. lies_at rules depth key p) (filter (λ (key : VoxelKey). key.depth == depth) (node_keys rules points)) (IsRising-filter key_before _ (node_keys rules points) (IsRising-node_keys rules points)) (λ j k m n e f. sym (same_key-true (key_at rules.cube depth (place p)) j e) ∙ same_key-true (key_at rules.cube depth (place p)) k f)

-- below the root, more points than the threshold lie in the box of each
lies-more : (rules : Rules) (points : List Point) (depth : ℕ) → CanBeSampled rules points → 0 < depth → (key : VoxelKey) → IsMember key (of_depth depth (node_keys rules points)) → rules.threshold + 1 ≤ count_by (lies_at rules depth key) points
unfolding of_depth
lies-more rules points depth can deep key m =
    let h = IsMember-filter (λ (k : VoxelKey). k.depth == depth) key (node_keys rules points) m in
    let at : key.depth ≡ depth = same_number key.depth depth h.1 in
    let lower : ¬ (key ≡ root) = λ top. (let zero_deep : key.depth ≡ 0 = ap (λ (k : VoxelKey). k.depth) top in absurd (omega arith)) in
    omega (arith, node-lies rules points key depth can (IsMember-node_keys rules points key h.0) lower at)

pub depth-few : (rules : Rules) (points : List Point) (depth : ℕ) → CanBeSampled rules points → 0 < depth → nodes_at rules points depth * (rules.threshold + 1) ≤ length points
unfolding of_depth
depth-few rules points depth can deep =
    let keys : List VoxelKey = of_depth depth (node_keys rules points) in
    let counted : length keys ≡ nodes_at rules points depth = length-filter (λ (key : VoxelKey). key.depth == depth) (node_keys rules points) in
    let many = le-meetings (lies_at rules depth) (rules.threshold + 1) keys points (lies-more rules points depth can deep) in
    let once = meetings-le (lies_at rules depth) keys points (lies-once rules points depth) in
    subst (λ (n : ℕ). n * (rules.threshold + 1) ≤ length points) counted (omega (arith, many, once))

-- and the root is the only node of its depth
top-one : (rules : Rules) (points : List Point) → nodes_at rules points 0 ≤ 1
top-one rules points =
    count_by-once key_before key_order (λ (key : VoxelKey). key.depth == 0) (node_keys rules points) (IsRising-node_keys rules points) (λ j k m n e f. node-top rules points j (IsMember-node_keys rules points j m) (same_number j.depth 0 e) ∙ sym (node-top rules points k (IsMember-node_keys rules points k n) (same_number k.depth 0 f)))

-- ---- at all depths

one_depth_more : (a n : ℕ) → cond (nat_lt a (suc n)) 1 0 ≡ cond (nat_lt a n) 1 0 + cond (a == n) 1 0
one_depth_more a n = grind (arith, nat_tests)

-- the keys above a depth, and those at it
above-suc : (keys : List VoxelKey) (n : ℕ) → count_by (λ (key : VoxelKey). nat_lt key.depth (suc n)) keys ≡ count_by (λ (key : VoxelKey). nat_lt key.depth n) keys + count_by (λ (key : VoxelKey). key.depth == n) keys
above-suc [] n = refl
above-suc (key ∷ keys) n =
    omega (arith, count_by-cons (λ (k : VoxelKey). nat_lt k.depth (suc n)) key keys, count_by-cons (λ (k : VoxelKey). nat_lt k.depth n) key keys, count_by-cons (λ (k : VoxelKey). k.depth == n) key keys, one_depth_more key.depth n, above-suc keys n)

above-le : (keys : List VoxelKey) (most : ℕ) → count_by (λ (key : VoxelKey). key.depth == 0) keys ≤ 1 → ((d : ℕ) → 0 < d → count_by (λ (key : VoxelKey). key.depth == d) keys ≤ most) → (n : ℕ) → count_by (λ (key : VoxelKey). nat_lt key.depth (suc n)) keys ≤ 1 + n * most
above-le keys most top each zero =
    omega (arith, top, above-suc keys 0, count_by-none (λ (key : VoxelKey). nat_lt key.depth 0) keys (λ key m. grind (arith, nat_tests)))
above-le keys most top each (suc n) =
    omega (arith, above-le keys most top each n, above-suc keys (suc n), each (suc n) (omega arith))

pub nodes-few : (rules : Rules) (points : List Point) → CanBeSampled rules points → length (node_keys rules points) ≤ most_nodes rules (length points)
nodes-few rules points can =
    let keys : List VoxelKey = node_keys rules points in
    let all : count_by (λ (key : VoxelKey). nat_lt key.depth (suc rules.cube.depth)) keys ≡ length keys =
    count_by-all (λ (key : VoxelKey). nat_lt key.depth (suc rules.cube.depth)) keys (λ key m. lt-ltb key.depth (suc rules.cube.depth) (omega (arith, node-depth rules points key (IsMember-node_keys rules points key m)))) in
    let each : (d : ℕ) → 0 < d → nodes_at rules points d ≤ length points / (rules.threshold + 1) = λ d deep. le-div (nodes_at rules points d) (length points) (rules.threshold + 1) (omega arith) (depth-few rules points d can deep) in
    subst (λ (n : ℕ). n ≤ 1 + rules.cube.depth * (length points / (rules.threshold + 1))) all (above-le keys (length points / (rules.threshold + 1)) (top-one rules points) each rules.cube.depth)

-- ---- from a bound of the number of points

div-le-div : (a b k : ℕ) → 0 < k → a ≤ b → a / k ≤ b / k
div-le-div a b k some le = le-div (a / k) b k some (omega (arith, le, div-add-mod' a k))

most-le : (rules : Rules) (a b : ℕ) → a ≤ b → most_nodes rules a ≤ most_nodes rules b
most-le rules a b le =
    omega (arith, mul-le-mul_left rules.cube.depth (div-le-div a b (rules.threshold + 1) (omega arith) le))

length-sampled : (rules : Rules) (points : List Point) → length (sampled rules points) ≡ length (node_keys rules points)
unfolding sampled
length-sampled rules points = length-map (node_keys rules points) (tile_at rules points)

pub tiles-few : (rules : Rules) (points : List Point) (most : ℕ) → CanBeSampled rules points → length points ≤ most → length (sampled rules points) ≤ most_nodes rules most
tiles-few rules points most can le =
    omega (arith, length-sampled rules points, nodes-few rules points can, most-le rules (length points) most le)
