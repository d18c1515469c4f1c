use Rattle.std.proofs.Common.{◌∙◌, ap}
use Rattle.std.specs.Prelude.{Err}
use Rattle.ept_octree.specs.declared.error.AddError.{AddError}
use Rattle.ept_octree.specs.Octree.{rules_of}
use Rattle.ept_octree_ckpt.proofs.LoadedNodes.{no-fault}
use Rattle.ept_octree_ckpt.proofs.loading.add_node.Goals as goal

pub unreachable-requires : goal.unreachable-requires
unreachable-requires g c =
    let line = c.args.line.now in
    let bad = c.in-Err-Damaged in
    no-fault line.key (rules_of c.args.octree.now) line.mask c.args.points.now bad.field-0-0 c.requires.are.fits (c.add.ensures.damaged bad.field-0-0 (bad.is ∙ ap (λ (e : AddError). Err e) bad.field-0-is))
