use Rattle.std.proofs.Common.{◌≡◌}
use Rattle.ept_hier.specs.Hierarchy.{keys_of}
use Rattle.ept_fit.specs.Fit.{has_child}
use Rattle.ept_check.proofs.Masks.{AreOpen}
use Rattle.ept_check.proofs.octree.Octree.mask_of.Given as goal

abbrev pub invariant-loop-octant : goal.invariant-loop-octant
invariant-loop-octant l = record {
  open_are : AreOpen l.mask (has_child (keys_of l.self.nodes.items) l.key) l.octant;
  deepest : l.key.depth ≡ l.self.rules.cube.depth → l.mask ≡ 0;
}
