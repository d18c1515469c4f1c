use Rattle.std.proofs.Common.{◌≡◌, ◌∙◌, ap, sym, arith}
use Rattle.ept_space.specs.VoxelKey.{VoxelKey}
use Rattle.ept_check.proofs.Looks.{filled-there}
use Rattle.ept_check.proofs.seen.is_filled.Goals as goal

pub returns-else-key-eq0 : goal.returns-else-key-eq0
returns-else-key-eq0 c =
    filled-there c.args.key.now c.args.points.now c.is_empty.result (λ e. c.if-key-eq0.false (ap (λ (k : VoxelKey). k.depth) c.key.view_is ∙ e)) c.is_empty.ensures
