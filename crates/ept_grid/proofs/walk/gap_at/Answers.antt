use Rattle.std.proofs.Common.{◌-◌, subst, arith}
use Rattle.ept_grid.specs.Columns.{spots_of, nexts_of, IsOnWay, NamesBelow}
use Rattle.ept_grid.proofs.Chains.{way-step}
use Rattle.ept_grid.proofs.Winners.{next-at, length-spots}
use Rattle.ept_grid.proofs.walk.gap_at.Goals as goal

pub loop-below-preserved : goal.loop-below-preserved
loop-below-preserved c =
    let spots = spots_of c.args.rules.now c.args.depth c.args.cells.now in
    let nexts = nexts_of c.args.cells.now in
    let at : NamesBelow spots c.args.spot.level c.loop-below.above = c.loop-below-test.ensures.below in
    let there = c.loop-below.invariant.leads.there in
    let on = way-step c.args.heads.now nexts spots c.args.spot.column c.args.spot.level c.loop-below.below c.loop-below.above c.requires.chained c.loop-below.invariant at.some at.below in
    subst (λ n. IsOnWay spots c.args.spot.column c.args.spot.level c.loop-below.above n) (next-at c.args.cells.now (c.loop-below.above - 1) c.index-cells-above.result (omega (arith, at.some, there, length-spots c.args.rules.now c.args.depth c.args.cells.now))) on
