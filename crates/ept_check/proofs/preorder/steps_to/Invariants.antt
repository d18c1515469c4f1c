use Rattle.std.proofs.Common.{◌≡◌, ◌<◌, ◌≤◌, ℕ, true, get_or, length}
use Rattle.ept_space.specs.VoxelKey.{is_within}
use Rattle.ept_fit.specs.Walk.{path}
use Rattle.ept_check.specs.Walking.{padded}
use Rattle.ept_check.proofs.preorder.steps_to.Given as goal

abbrev pub invariant-loop-at : goal.invariant-loop-at
invariant-loop-at l = record {
  within : is_within l.at l.key ≡ true;
  size : length l.steps ≡ 32;
  done : (i : ℕ) → l.at.depth ≤ i → i < 32 → get_or l.steps i 0 ≡ get_or (padded 32 (path l.key)) i 0;
}

abbrev pub decreases-loop-at : goal.decreases-loop-at
decreases-loop-at l = l.at.depth
