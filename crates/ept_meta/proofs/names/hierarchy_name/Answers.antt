use Rattle.std.proofs.Common.{◌∙◌, ap}
use Rattle.std.proofs.lemmas.Result.{IfOk-weaker}
use Rattle.ept_space.specs.VoxelKey.{VoxelKey}
use Rattle.ept_meta.specs.Output.{hierarchy_name}
use Rattle.ept_meta.proofs.NamesDiffer.{hierarchy-name-of}
use Rattle.ept_meta.proofs.names.hierarchy_name.Goals as goal

pub returns : goal.returns
returns c =
    let key : VoxelKey = record { depth = c.key.inside.depth; x = c.key.inside.x; y = c.key.inside.y; z = c.key.inside.z } in
    IfOk-weaker c.format.result _ _ (λ name is. is ∙ (hierarchy-name-of key ∙ ap hierarchy_name c.key.view_is)) c.format.ensures.ok
