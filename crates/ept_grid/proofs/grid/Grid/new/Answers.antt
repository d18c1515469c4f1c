use Rattle.ept_grid.proofs.Keeping.{node-none}
use Rattle.ept_grid.proofs.InOrder.{none-in_order}
use Rattle.ept_grid.proofs.grid.Grid.new.Goals as goal

pub invariant_of-result : goal.invariant_of-result
invariant_of-result c =
    node-none c.args.key c.args.rules.now c.new.result.items c.new-2.result.items _ c.new-losers.result c.requires c.new.ensures.items c.new-2.ensures.items c.new-2.ensures.capacity c.known.ensures c.new-losers.ensures

pub returns-clause-points : goal.returns-clause-points
returns-clause-points c =
    none-in_order c.new-2.result.items c.new-losers.result c.new-2.ensures.items c.new-losers.ensures
