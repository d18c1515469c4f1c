-- The nodes of a tree are those of a sampling.
use Rattle.std.proofs.Common.{◌≡◌, ◌∙◌, ℕ, ◌<◌, List, [], ◌++◌, refl, sym, ap}
use Rattle.ept_point.specs.declared.point.Point.{Point}
use Rattle.ept_space.specs.declared.cube.Rules.{Rules}
use Rattle.ept_space.specs.VoxelKey.{child}
use Rattle.ept_sample.specs.Members.{IsMember}
use Rattle.ept_sample.specs.Sampling.{is_node}
use Rattle.ept_sample.proofs.Members.{IsMember-map}
use Rattle.ept_grid.specs.Mask.{opened}
use Rattle.ept_core.specs.declared.node.Node as core
use Rattle.ept_core.specs.State.{State, has_open}
use Rattle.ept_core.proofs.CoreLaws.{landed-sampled, landed-opens}
use Rattle.ept_core.proofs.Held.{keys-rise}
use Rattle.ept_core.proofs.NodeMap.{node_at-member}
use Rattle.ept_table.specs.Octree.{Branch, entry_of, AreSampled}
use Rattle.ept_tree.specs.Tree.{state_of, IsTree}
use Rattle.ept_tree.proofs.Branches.{tiles-of}
use Rattle.ept_tree.proofs.Growing.{has_open_then}

module _ (rules : Rules) (points first left : List Point) (nodes : List Branch) (tree : IsTree rules points left [] nodes) (split : points ≡ first ++ left) where
  abbrev s : State
  s = state_of left [] nodes

  opens-nodes : (b : Branch) (o : ℕ) → IsMember b nodes → o < 8 → opened b.1.mask o ≡ is_node rules first (child b.0 o)
  opens-nodes b o m low =
      sym (has_open_then b.1 o low)
      ∙ (ap (λ (n : core.Node). has_open n o) (sym (node_at-member s.nodes (entry_of b) (keys-rise rules points s tree.law) (IsMember-map entry_of b nodes m)))
      ∙ landed-opens rules points first s b.0 o tree.law refl split low)

  pub grown-sampled : AreSampled rules first nodes
  grown-sampled = record {
    tiles = sym (tiles-of nodes) ∙ landed-sampled rules points first s tree.law refl split;
    opens = opens-nodes;
  }
