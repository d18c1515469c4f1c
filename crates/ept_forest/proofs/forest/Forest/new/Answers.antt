use Rattle.std.proofs.Common.{refl, ap, ◌∙◌, arith, List, get_or}
use Rattle.ept_node.specs.declared.node.Node.{Node}
use Rattle.ept_node.specs.Shown.{file_of}
use Rattle.ept_forest.proofs.Planted.{planted, kept_none}
use Rattle.ept_forest.proofs.forest.Forest.new.Goals as goal

pub returns-in-Ok-clause-planted : goal.returns-in-Ok-clause-planted
returns-in-Ok-clause-planted g c =
    planted g.F.SpillFile.held g.F.SpillFile.faults g.F.SpillFile.keeps c.args.slots c.args.rules.now _ c.plant.new.nodes.items c.begin.new.self c.begin.new.self c.in-Ok.ensures.slots c.requires c.plant.ensures.blank c.plant.ensures.fresh c.plant.ensures.unused
    (record { state = c.begin.ensures.state; empty = c.begin.ensures.node; children = c.begin.ensures.children }) (λ old others are. c.begin.ensures.file ∙ ap (λ (n : Node g.row.F.Denot). file_of n) (c.index_mut.ensures.value ∙ ap (λ (l : List (Node g.row.F.Denot)). get_or l 0 c.index_mut.result.now) are)) refl refl

pub returns-in-Err-clause-unkept : goal.returns-in-Err-clause-unkept
returns-in-Err-clause-unkept g c =
    omega (arith, c.retire_nodes.ensures.counted, kept_none g.F.SpillFile.keeps c.plant.new.nodes.items c.plant.ensures.unused, c.plant.ensures.counted)
