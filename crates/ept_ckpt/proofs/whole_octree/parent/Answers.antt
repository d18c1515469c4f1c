use Rattle.std.proofs.Common.{ap}
use Rattle.ept_space.specs.VoxelKey.{parent}
use Rattle.ept_ckpt.proofs.whole_octree.parent.Goals as goal

pub returns : goal.returns
unfolding parent
returns c = ap parent c.key.view_is
