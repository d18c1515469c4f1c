use Rattle.std.proofs.Common.{◌≡◌, ◌+◌, min, true}
use Rattle.std.specs.Prelude.{if◌then◌else◌}
use Rattle.ept_space.specs.VoxelKey.{VoxelKey, is_within}
use Rattle.ept_check.specs.Walking.{total_at}
use Rattle.ept_check.proofs.Sums.{is_from, most}
use Rattle.ept_check.proofs.totals.add_up.Given as goal

abbrev pub invariant-loop-at : goal.invariant-loop-at
invariant-loop-at l = record {
  within : is_within l.at l.key ≡ true;
  totals : (top : VoxelKey) → total_at l.totals top ≡ min (total_at l.fn.totals top + (if is_from l.at l.key top then l.count else 0)) most;
}

abbrev pub decreases-loop-at : goal.decreases-loop-at
decreases-loop-at l = l.at.depth
