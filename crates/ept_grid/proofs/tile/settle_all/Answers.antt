use Rattle.std.proofs.Common.{inr, vec_capacity}
use Rattle.ept_grid.proofs.Filled.{filled-none}
use Rattle.ept_grid.proofs.tile.settle_all.Goals as goal

pub loop-at-init : goal.loop-at-init
loop-at-init c =
    filled-none c.args.key.now c.args.rules.now c.emptied.new.heads.items c.emptied.new.cells.items (vec_capacity c.emptied.new.cells) c.clear.new.self (inr c.in_ok-emptied.ensures.table) (λ _. c.in_ok-emptied.ensures.some) (c.in_ok-emptied.ensures.chained c.args.key.now.depth) c.emptied.ensures.cells c.known.ensures c.clear.ensures.points
