use Rattle.std.proofs.Common.{◌∙◌, ap, sym}
use Rattle.std.proofs.lemmas.Result.{IfOk-weaker}
use Rattle.ept_space.specs.VoxelKey.{VoxelKey}
use Rattle.ept_ckpt.specs.declared.letter.Letter.{Letter}
use Rattle.ept_ckpt.specs.declared.letter.Letter.TheVariants.{A, B}
use Rattle.ept_save.specs.Names.{work_tile_name}
use Rattle.ept_save.proofs.NamesDiffer.{tile-name-of}
use Rattle.ept_save.proofs.names.work_tile_name.Goals as goal

pub returns-in-A : goal.returns-in-A
returns-in-A c =
    let key : VoxelKey = record { depth = c.key.inside.depth; x = c.key.inside.x; y = c.key.inside.y; z = c.key.inside.z } in
    IfOk-weaker c.format.result _ _ (λ name is. is ∙ (tile-name-of A key ∙ (ap (work_tile_name A) c.key.view_is ∙ ap (λ (l : Letter). work_tile_name l c.args.key.now) (sym c.in-A.is)))) c.format.ensures.ok

pub returns-in-B : goal.returns-in-B
returns-in-B c =
    let key : VoxelKey = record { depth = c.key.inside.depth; x = c.key.inside.x; y = c.key.inside.y; z = c.key.inside.z } in
    IfOk-weaker c.format-in-B.result _ _ (λ name is. is ∙ (tile-name-of B key ∙ (ap (work_tile_name B) c.key.view_is ∙ ap (λ (l : Letter). work_tile_name l c.args.key.now) (sym c.in-B.is)))) c.format-in-B.ensures.ok
