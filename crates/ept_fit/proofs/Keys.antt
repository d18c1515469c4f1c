-- The keys and the points of nodes.
use Rattle.std.proofs.Common.{◌≡◌, ℕ, zero, suc, ◌+◌, ◌≤◌, Bool, true, false, cond, inl, inr, List, [], ◌∷◌, refl, sym, subst, arith, filter, count_by}
use Rattle.std.specs.List.{All}
use Rattle.ept_point.specs.declared.point.Point.{Point}
use Rattle.ept_space.specs.VoxelKey.{VoxelKey, same_key, parent, is_within}
use Rattle.ept_space.proofs.Family.{depth-parent}
use Rattle.ept_space.proofs.Within.{same_key-true, same_key-same, depth-within, is_within-level, is_below-from, is_within-above}
use Rattle.ept_sample.specs.declared.tiles.Tile.{Tile}
use Rattle.ept_sample.specs.Ids.{same_id, HasDistinctIds}
use Rattle.ept_sample.specs.Members.{IsMember}
use Rattle.ept_sample.proofs.Members.{member-any, any-member, member-map, IsMember-map, all-member, IsMember-flat_map, member-flat_map, IsMember-filter, IsMember-kept}
use Rattle.ept_sample.proofs.SamplingLaws.{below_or_at}
use Rattle.ept_sample.proofs.IdLaws.{count_by-append}
use Rattle.ept_fit.specs.Fit.{keys_in, points_in, points_within, is_among, HasParent}

-- ---- keys

pub among-member : (keys : List VoxelKey) (key : VoxelKey) → is_among keys key ≡ true → IsMember key keys
among-member keys key some =
    let r = member-any (same_key key) keys some in
    subst (λ (k : VoxelKey). IsMember k keys) (sym (same_key-true key r.0 r.2)) r.1

pub member-among : (keys : List VoxelKey) (key : VoxelKey) → IsMember key keys → is_among keys key ≡ true
member-among keys key m = any-member (same_key key) key keys m (same_key-same key key refl)

-- the node of a key
pub among-node : (nodes : List Tile) (key : VoxelKey) → is_among (keys_in nodes) key ≡ true → (node : Tile) × IsMember node nodes × (node.key ≡ key)
among-node nodes key some = member-map (λ (n : Tile). n.key) key nodes (among-member (keys_in nodes) key some)

pub node-among : (nodes : List Tile) (node : Tile) → IsMember node nodes → is_among (keys_in nodes) node.key ≡ true
node-among nodes node m = member-among (keys_in nodes) node.key (IsMember-map (λ (n : Tile). n.key) node nodes m)

-- with a key, all keys above it are among the keys
module _ (keys : List VoxelKey) (parents : All (HasParent keys) keys) where
  above_by : (n : ℕ) (key top : VoxelKey) → key.depth ≤ top.depth + n → is_among keys key ≡ true → is_within top key ≡ true → is_among keys top ≡ true
  above_by zero key top near some w =
      subst (λ (k : VoxelKey). is_among keys k ≡ true) (sym (is_within-level top key w (omega (arith, near)))) some
  above_by (suc n) key top near some w =
      elim (below_or_at top.depth key.depth (depth-within top key w)) [
        | inr level ↦ subst (λ (k : VoxelKey). is_among keys k ≡ true) (sym (is_within-level top key w (omega (arith, level)))) some
        | inl deeper ↦
            let up : is_among keys (parent key) ≡ true = all-member (HasParent keys) key keys parents (among-member keys key some) (omega (arith, deeper)) in
            let shorter = depth-parent key in
            above_by n (parent key) top (omega (arith, near, shorter)) up (is_within-above top key (is_below-from top key w deeper))
      ]

  pub above-among : (key top : VoxelKey) → is_among keys key ≡ true → is_within top key ≡ true → is_among keys top ≡ true
  above-among key top = above_by key.depth key top (omega arith)

-- ---- points

pub points-node : (nodes : List Tile) (p : Point) → IsMember p (points_in nodes) → (node : Tile) × IsMember node nodes × IsMember p node.points
points-node nodes p m = member-flat_map (λ (n : Tile). n.points) p nodes m

pub node-points_in : (nodes : List Tile) (node : Tile) (p : Point) → IsMember node nodes → IsMember p node.points → IsMember p (points_in nodes)
node-points_in nodes node p m n = IsMember-flat_map (λ (w : Tile). w.points) node p nodes m n

-- a point within a key is in a node there or below
pub within-node : (nodes : List Tile) (top : VoxelKey) (p : Point) → IsMember p (points_within nodes top) → (node : Tile) × IsMember node nodes × (is_within top node.key ≡ true) × IsMember p node.points
within-node nodes top p m =
    let r = points-node (filter (λ (n : Tile). is_within top n.key) nodes) p m in
    let f = IsMember-filter (λ (n : Tile). is_within top n.key) r.0 nodes r.1 in
    (r.0, f.0, f.1, r.2)

pub node-within : (nodes : List Tile) (top : VoxelKey) (node : Tile) (p : Point) → IsMember node nodes → is_within top node.key ≡ true → IsMember p node.points → IsMember p (points_within nodes top)
node-within nodes top node p m w n =
    node-points_in (filter (λ (t : Tile). is_within top t.key) nodes) node p (IsMember-kept (λ (t : Tile). is_within top t.key) node nodes w m) n

fewer_step : (test : Point → Bool) (keep : Tile → Bool) (node : Tile) (nodes : List Tile) (b : Bool) → count_by test (points_in (filter keep nodes)) ≤ count_by test (points_in nodes) → count_by test (points_in (cond b (node ∷ filter keep nodes) (filter keep nodes))) ≤ count_by test (points_in (node ∷ nodes))
fewer_step test keep node nodes true fewer =
    omega (arith, fewer, count_by-append test node.points (points_in (filter keep nodes)), count_by-append test node.points (points_in nodes))
fewer_step test keep node nodes false fewer = omega (arith, fewer, count_by-append test node.points (points_in nodes))

fewer : (test : Point → Bool) (keep : Tile → Bool) (nodes : List Tile) → count_by test (points_in (filter keep nodes)) ≤ count_by test (points_in nodes)
fewer test keep [] = omega arith
fewer test keep (node ∷ nodes) = fewer_step test keep node nodes (keep node) (fewer test keep nodes)

-- so their ids are distinct, if those of all points are
pub distinct-within : (nodes : List Tile) (top : VoxelKey) → HasDistinctIds (points_in nodes) → HasDistinctIds (points_within nodes top)
unfolding HasDistinctIds
distinct-within nodes top once p = omega (arith, once p, fewer (same_id p) (λ (n : Tile). is_within top n.key) nodes)
