use Rattle.std.proofs.Common.{◌-◌, arith}
use Rattle.ept_grid.proofs.Winners.{winner-in-cube, below-code, not_below-code}
use Rattle.ept_grid.proofs.walk.is_below.Goals as goal

pub level_of-requires-clause-inside : goal.level_of-requires-clause-inside
level_of-requires-clause-inside c =
    winner-in-cube c.args.rules.now.cube c.args.cells.now (c.args.link - 1) _ c.requires.inside (omega arith)

pub returns-then-link-ne0-clause-below : goal.returns-then-link-ne0-clause-below
returns-then-link-ne0-clause-below c =
    below-code c.args.rules.now c.args.depth c.args.cells.now c.args.level c.args.link c.level_of.result _ (omega arith) c.requires.there c.level_of.ensures

pub returns-then-link-ne0-clause-not_below : goal.returns-then-link-ne0-clause-not_below
returns-then-link-ne0-clause-not_below c =
    not_below-code c.args.rules.now c.args.depth c.args.cells.now c.args.level c.args.link c.level_of.result _ (omega arith) c.requires.there c.level_of.ensures
