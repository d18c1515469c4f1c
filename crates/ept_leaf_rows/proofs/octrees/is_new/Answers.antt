use Rattle.std.proofs.Common.{◌∙◌}
use Rattle.ept_octree.specs.Octree.{nodes_of}
use Rattle.ept_leaf_rows.proofs.Keys.{key-new}
use Rattle.ept_leaf_rows.proofs.octrees.is_new.Goals as goal

pub returns-in-Ok : goal.returns-in-Ok
returns-in-Ok g c =
    key-new (nodes_of g.F.SpillFile.held c.args.octree.now) c.deref.result.now (c.deref.ensures.value ∙ c.in-Ok.ensures.keys) c.args.key.now c.contains.result c.contains.ensures.cases
