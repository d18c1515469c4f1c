use Rattle.std.proofs.Common.{◌≡◌, ◌<◌, ℕ}
use Rattle.std.specs.Prelude.{◌==◌}
use Rattle.std.specs.Int.{bit_at}
use Rattle.ept_space.specs.VoxelKey.{child}
use Rattle.ept_ckpt.specs.Octree.{keys_of, is_among}
use Rattle.ept_ckpt.proofs.whole_octree.tells_children.Given as goal

abbrev pub invariant-loop-octant : goal.invariant-loop-octant
invariant-loop-octant l =
    (o : ℕ) → o < l.octant → (bit_at l.line.mask o == 1) ≡ is_among (keys_of l.nodes) (child l.line.key o)
