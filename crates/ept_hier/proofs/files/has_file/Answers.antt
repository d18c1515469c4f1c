use Rattle.std.proofs.Common.{ap}
use Rattle.ept_space.specs.VoxelKey.{VoxelKey}
use Rattle.ept_hier.proofs.Levels.{has_file-zero, has_file-mod}
use Rattle.ept_hier.proofs.files.has_file.Goals as goal

pub returns-then-step-eq0 : goal.returns-then-step-eq0
returns-then-step-eq0 c =
    has_file-zero c.args.step c.key.inside.depth c.args.key.now c.known.ensures c.if-step-eq0.true (ap (λ (k : VoxelKey). k.depth) c.key.view_is)

pub returns-else-step-eq0 : goal.returns-else-step-eq0
returns-else-step-eq0 c =
    has_file-mod c.args.step c.key.inside.depth c.args.key.now c.if-step-eq0.false (ap (λ (k : VoxelKey). k.depth) c.key.view_is)
