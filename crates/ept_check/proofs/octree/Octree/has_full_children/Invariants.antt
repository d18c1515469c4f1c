use Rattle.std.proofs.Common.{◌≡◌, ◌<◌, ℕ, true}
use Rattle.ept_space.specs.VoxelKey.{child}
use Rattle.ept_hier.specs.Hierarchy.{keys_of}
use Rattle.ept_fit.specs.Fit.{has_child}
use Rattle.ept_check.specs.Nodes.{counted_within}
use Rattle.ept_check.proofs.octree.Octree.has_full_children.Given as goal

abbrev pub invariant-loop-octant : goal.invariant-loop-octant
invariant-loop-octant l =
    (o : ℕ) → o < l.octant → has_child (keys_of l.self.nodes.items) l.key o ≡ true → l.self.rules.threshold < counted_within l.self.nodes.items (child l.key o)
