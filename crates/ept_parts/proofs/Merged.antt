-- The nodes of all parts, with their roots joined, are the sampling of all points.
use Rattle.std.proofs.Common.{◌≡◌, ◌∙◌, ℕ, zero, suc, ◌<◌, true, ◌⊎◌, inl, inr, List, [], ◌∷◌, map, refl, sym, ap, subst, arith}
use Rattle.ept_point.specs.declared.point.Point.{Point}
use Rattle.ept_space.specs.declared.cube.Rules.{Rules}
use Rattle.ept_space.specs.VoxelKey.{VoxelKey, IsKey, root, same_key, child, is_within}
use Rattle.ept_space.proofs.Family.{root-only}
use Rattle.ept_space.proofs.Within.{same_key-true, same_key-same, is_within-root, is_below-from, is_within-some_child}
use Rattle.ept_sample.specs.declared.tiles.Tile.{Tile}
use Rattle.ept_sample.specs.Sampling.{sampling, is_node}
use Rattle.ept_sample.specs.Nodes.{node_keys, tile_at, sampled}
use Rattle.ept_sample.specs.SamplingLaws.{CanBeSampled}
use Rattle.ept_sample.specs.Members.{IsMember}
use Rattle.ept_sample.proofs.Members.{IsMember-map, member-map}
use Rattle.ept_sample.proofs.KeyOrder.{IsRising-AllPairs}
use Rattle.ept_sample.proofs.SamplingLaws.{is_node-root, node-IsKey}
use Rattle.ept_sample.proofs.NodeLaws.{IsMember-node_keys, node_keys-IsMember, node_keys-is}
use Rattle.ept_sample.proofs.Choices.{either, not_both}
use Rattle.ept_parts.specs.Parts.{Octants, part_of, AreAllOctants}
use Rattle.ept_parts.specs.MergeLaws.{keys_in, part_nodes, AreMerged}
use Rattle.ept_parts.proofs.Below.{part-can, part-nodes, part-no_other}
use Rattle.ept_parts.proofs.Joined.{part-with, roots-join}

-- ---- the tiles of a sampling

tile-sampled : (rules : Rules) (points : List Point) (node : Tile) → IsMember node (sampled rules points) → (key : VoxelKey) × IsMember key (node_keys rules points) × (tile_at rules points key ≡ node)
unfolding sampled
tile-sampled rules points node m = member-map (tile_at rules points) node (node_keys rules points) m

sampled-tile : (rules : Rules) (points : List Point) (key : VoxelKey) → IsMember key (node_keys rules points) → IsMember (tile_at rules points key) (sampled rules points)
unfolding sampled
sampled-tile rules points key m = IsMember-map (tile_at rules points) key (node_keys rules points) m

-- a tile of a sampling is at a node of it, and has its points
pub sampled-node : (rules : Rules) (points : List Point) (node : Tile) → IsMember node (sampled rules points) → (is_node rules points node.key ≡ true) × (node.points ≡ sampling rules points node.key)
sampled-node rules points node m =
    let t = tile-sampled rules points node m in (
      subst (λ (n : Tile). is_node rules points n.key ≡ true) t.2 (IsMember-node_keys rules points t.0 t.1),
      subst (λ (n : Tile). n.points ≡ sampling rules points n.key) t.2 refl,
    )

-- ---- keys in octants

-- a key below the root lies in an octant
pub in-octant : (key : VoxelKey) → IsKey key → ¬ (key ≡ root) → (o : ℕ) × (o < 8) × (is_within (child root o) key ≡ true)
in-octant key is lower =
    is_within-some_child root key (is_below-from root key (is_within-root key is) (deep key.depth refl))
  where
    deep : (d : ℕ) → key.depth ≡ d → 0 < key.depth
    deep zero e = absurd (lower (root-only key is e))
    deep (suc d) e = omega (arith, e)

is-root : (key : VoxelKey) → (key ≡ root) ⊎ ¬ (key ≡ root)
is-root key =
    elim (either (same_key key root)) [
      | inl same ↦ inl (same_key-true key root same)
      | inr apart ↦ inr (λ is. not_both (same_key key root) (same_key-same key root is) apart)
    ]

-- ---- merged nodes

module _ (rules : Rules) (parts : List Octants) (points : List Point) (nodes : List Tile) (can : CanBeSampled rules points) (all : AreAllOctants parts) (merged : AreMerged rules parts points nodes) where
  -- a node of a part, except its root, is a node of all, with the same points
  part-node : (octants : Octants) (node : Tile) → IsMember node (part_nodes rules octants points) → ¬ (node.key ≡ root) → (is_node rules points node.key ≡ true) × (node.points ≡ sampling rules points node.key)
  part-node octants node m lower =
      let part = part_of rules octants points in
      let can_too = part-can rules octants points can in
      let n = sampled-node rules part node m in
      let at = in-octant node.key (node-IsKey rules part node.key can_too.cube can_too.inside n.0) lower in
      elim (either (octants at.0)) [
        | inl its ↦ let same = part-nodes rules octants points at.0 node.key can at.1 its at.2 in (sym same.node ∙ n.0, n.1 ∙ same.points)
        | inr closed ↦ absurd (not_both (is_node rules part node.key) n.0 (part-no_other rules octants points at.0 node.key can at.1 closed at.2))
      ]

  -- so each merged node is one of the sampling
  is-sampled : (node : Tile) → IsMember node nodes → (is_node rules points node.key ≡ true) × (node.points ≡ sampling rules points node.key)
  is-sampled node m =
      elim (is-root node.key) [
        | inl top ↦ (
          ap (λ (k : VoxelKey). is_node rules points k) top ∙ is_node-root rules points,
          merged.top node m top ∙ (roots-join rules parts points can all ∙ ap (λ (k : VoxelKey). sampling rules points k) (sym top)),
        )
        | inr lower ↦ elim (merged.taken node m) [
          | inl top ↦ absurd (lower top)
          | inr of_part ↦ part-node of_part.0 node of_part.2 lower
        ]
      ]

  -- and each node of the sampling is one of them
  is-merged : (key : VoxelKey) → is_node rules points key ≡ true → IsMember key (keys_in nodes)
  is-merged key is =
      elim (is-root key) [
        | inl top ↦ subst (λ (k : VoxelKey). IsMember k (keys_in nodes)) (sym top) merged.rooted
        | inr lower ↦
            let at = in-octant key (node-IsKey rules points key can.cube can.inside is) lower in
            let part = part-with at.0 parts (all at.0 at.1) in
            let can_too = part-can rules part.0 points can in
            let same = part-nodes rules part.0 points at.0 key can at.1 part.2 at.2 in
            let there = sampled-tile rules (part_of rules part.0 points) key (node_keys-IsMember rules (part_of rules part.0 points) key can_too.cube can_too.inside (same.node ∙ is)) in
            elim (merged.every part.0 (tile_at rules (part_of rules part.0 points) key) part.1 there) [
              | inl top ↦ absurd (lower top)
              | inr m ↦ IsMember-map (λ (n : Tile). n.key) (tile_at rules (part_of rules part.0 points) key) nodes m
            ]
      ]

  keys-are : keys_in nodes ≡ node_keys rules points
  keys-are =
      node_keys-is rules points (keys_in nodes) can.cube can.inside (IsRising-AllPairs (keys_in nodes) merged.ascend) (λ key m. (
      let n = member-map (λ (n : Tile). n.key) key nodes m in
      subst (λ (k : VoxelKey). is_node rules points k ≡ true) n.2 (is-sampled n.0 n.1).0)) is-merged

tiles-at : (rules : Rules) (points : List Point) (nodes : List Tile) → ((node : Tile) → IsMember node nodes → node.points ≡ sampling rules points node.key) → nodes ≡ map (tile_at rules points) (keys_in nodes)
tiles-at rules points [] each = refl
tiles-at rules points (node ∷ nodes) each =
    ap (λ (xs : List Point). (let t : Tile = record { key = node.key; points = xs } in t) ∷ nodes) (each node (inl refl))
    ∙ ap (λ (ts : List Tile). tile_at rules points node.key ∷ ts) (tiles-at rules points nodes (λ n m. each n (inr m)))

pub merged-sampled : (rules : Rules) (parts : List Octants) (points : List Point) (nodes : List Tile) → CanBeSampled rules points → AreAllOctants parts → AreMerged rules parts points nodes → nodes ≡ sampled rules points
unfolding sampled
merged-sampled rules parts points nodes can all merged =
    tiles-at rules points nodes (λ node m. (is-sampled rules parts points nodes can all merged node m).1)
    ∙ ap (λ (keys : List VoxelKey). map (tile_at rules points) keys) (keys-are rules parts points nodes can all merged)
