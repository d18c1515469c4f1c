use Rattle.std.proofs.Common.{◌≡◌, ◌||◌, true}
use Rattle.std.specs.BTreeSet.{contains}
use Rattle.ept_space.specs.VoxelKey.{VoxelKey, key_cmp, is_within}
use Rattle.ept_octree_ckpt.proofs.Above.{is_from}
use Rattle.ept_octree_ckpt.proofs.still.note.Given as goal

abbrev pub invariant-loop-at : goal.invariant-loop-at
invariant-loop-at l = record {
  within : is_within l.at l.key ≡ true;
  noted : (top : VoxelKey) → contains key_cmp l.grown top ≡ (contains key_cmp l.fn.grown top || is_from l.at l.key top);
}

abbrev pub decreases-loop-at : goal.decreases-loop-at
decreases-loop-at l = l.at.depth
