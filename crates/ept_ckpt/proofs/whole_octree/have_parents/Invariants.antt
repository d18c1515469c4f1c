use Rattle.std.specs.List.{AllWithin}
use Rattle.ept_space.specs.VoxelKey.{IsKey}
use Rattle.ept_ckpt.specs.Octree.{keys_of, HasParent}
use Rattle.ept_ckpt.specs.declared.node_line.NodeLine.{NodeLine}
use Rattle.ept_ckpt.proofs.whole_octree.have_parents.Given as goal

abbrev pub invariant-loop-line : goal.invariant-loop-line
invariant-loop-line l = record {
  parents : AllWithin (λ (line : NodeLine). HasParent (keys_of l.nodes) line.key) l.nodes 0 l.line-index;
  known : AllWithin (λ (line : NodeLine). IsKey line.key) l.nodes 0 l.line-index;
}
