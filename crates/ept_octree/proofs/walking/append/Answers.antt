use Rattle.std.proofs.Common.{◌≡◌, ◌++◌}
use Rattle.ept_base.specs.Files.{Tells}
use Rattle.ept_node.specs.Shown.{file_of, node_of, IsTelling}
use Rattle.ept_octree.proofs.Placing.{on-ok}
use Rattle.ept_octree.proofs.Here.{telling}
use Rattle.ept_octree.proofs.walking.append.Goals as goal

pub returns-clause-told : goal.returns-clause-told
returns-clause-told g c =
    let held = g.F.SpillFile.held in
    let n = c.args.node.now in
    let grown = c.points_into.new.out.items ≡ c.args.out.now.items ++ (node_of held n).points in
    on-ok c.points_into.result (Tells (λ _. grown) (held (file_of n))) (IsTelling held → grown) c.points_into.ensures.told (λ told tells. telling (held (file_of n)) (tells (file_of n)) told)

pub returns-clause-intact : goal.returns-clause-intact
returns-clause-intact g c = λ sound tells once kept found at.
    let held = g.F.SpillFile.held in
    let n = c.args.node.now in
    telling (held (file_of n)) (tells (file_of n)) (c.points_into.ensures.intact c.requires.agrees.filed once) kept found at
