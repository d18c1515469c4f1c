use Rattle.std.proofs.Common.{List, sym, subst}
use Rattle.ept_forest.specs.Slots as forest
use Rattle.ept_table.specs.declared.taken.Taken.{Taken}
use Rattle.ept_table.specs.Item.{seen_reader}
use Rattle.ept_table.specs.Tells.{IsLanded}
use Rattle.ept_octree.specs.Octree.{nodes_of}
use Rattle.ept_octree.proofs.Alike.{told-index}
use Rattle.ept_octree.proofs.Rested.{row-is, rests}
use Rattle.ept_octree.proofs.resting.rest_law.Goals as goal

pub returns : goal.returns
returns g c =
    let octree = c.args.octree.now in
    let ns = forest.nodes_of octree.forest in
    let r = seen_reader g.S.Source.whole c.args.reader.now in
    subst (λ (xs : List Taken). IsLanded g.J.Scan.told (forest.used_of octree.forest) xs) (sym (row-is g.F.SpillFile.held g.S.Source.whole c.args.reader.now ns)) (c.resume_law.ensures g.J.Scan.told (forest.used_of octree.forest) _ (nodes_of g.F.SpillFile.held octree) r c.requires.told (rests g.F.SpillFile.held g.J.Scan.told octree.rules (forest.used_of octree.forest) ns octree.slots.entries r (told-index g.F.SpillFile.held octree) c.requires.rules c.requires.most c.requires.begun c.requires.whole c.requires.linked c.requires.fits c.requires.sound c.requires.number c.requires.points c.requires.sampled))
