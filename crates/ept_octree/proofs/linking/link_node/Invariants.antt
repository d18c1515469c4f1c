use Rattle.std.proofs.Common.{◌≡◌, ℕ, ◌<◌, slice_index}
use Rattle.ept_node.specs.Shown.{file_of, state_of, node_of, children_of}
use Rattle.ept_octree.specs.Linking.{child_slot}
use Rattle.ept_octree.proofs.linking.link_node.Given as goal

abbrev pub invariant-loop-octant : goal.invariant-loop-octant
invariant-loop-octant g l = record {
  children : (o : ℕ) → o < l.octant → slice_index (children_of l.node) o ≡ child_slot l.slots.entries (node_of g.F.SpillFile.held l.initial.node) o;
  state : state_of l.node ≡ state_of l.initial.node;
  node : node_of g.F.SpillFile.held l.node ≡ node_of g.F.SpillFile.held l.initial.node;
  file : file_of l.node ≡ file_of l.initial.node;
}
