use Rattle.std.proofs.Common.{ap}
use Rattle.ept_space.specs.VoxelKey.{VoxelKey}
use Rattle.ept_hier.proofs.Levels.{above-is, IsKey-above}
use Rattle.ept_hier.proofs.files.file_above.Goals as goal

pub invariant_of-result : goal.invariant_of-result
invariant_of-result c =
    IsKey-above c.args.step c.args.key.now _ c.known.ensures (above-is c.args.step c.key.inside.depth c.key.inside.x c.key.inside.y c.key.inside.z c.file_depth-depth.result c.from-up.result c.args.key.now (ap (λ (k : VoxelKey). k.depth) c.key.view_is) (ap (λ (k : VoxelKey). k.x) c.key.view_is) (ap (λ (k : VoxelKey). k.y) c.key.view_is) (ap (λ (k : VoxelKey). k.z) c.key.view_is) c.requires c.file_depth-depth.ensures.value c.from-up.ensures)

pub returns : goal.returns
returns c =
    above-is c.args.step c.key.inside.depth c.key.inside.x c.key.inside.y c.key.inside.z c.file_depth-depth.result c.from-up.result c.args.key.now (ap (λ (k : VoxelKey). k.depth) c.key.view_is) (ap (λ (k : VoxelKey). k.x) c.key.view_is) (ap (λ (k : VoxelKey). k.y) c.key.view_is) (ap (λ (k : VoxelKey). k.z) c.key.view_is) c.requires c.file_depth-depth.ensures.value c.from-up.ensures
