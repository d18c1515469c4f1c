use Rattle.std.proofs.Common.{◌≡◌, min, take}
use Rattle.ept_space.specs.VoxelKey.{VoxelKey}
use Rattle.ept_check.specs.Nodes.{counted_within}
use Rattle.ept_check.specs.Walking.{total_at}
use Rattle.ept_check.proofs.Sums.{most}
use Rattle.ept_check.proofs.totals.totals_of.Given as goal

abbrev pub invariant-loop-node : goal.invariant-loop-node
invariant-loop-node l = (top : VoxelKey) → total_at l.totals top ≡ min (counted_within (take l.node-index l.nodes) top) most
