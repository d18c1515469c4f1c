use Rattle.std.proofs.Common.{◌∙◌, ◌-◌, length, arith}
use Rattle.ept_grid.proofs.InOrder.{none-placed, one-more}
use Rattle.ept_grid.proofs.by_id.placed_one_by_one.Goals as goal

pub loop-done-init : goal.loop-done-init
loop-done-init c = record {
  placed = c.in_ok-placed.ensures.items ∙ none-placed c.args.points.now;
  room = omega (arith, c.in_ok-placed.ensures.exact);
  len = c.in_ok-placed.ensures.len;
}

pub loop-done-preserved : goal.loop-done-preserved
loop-done-preserved c = record {
  placed = c.put_by_id.ensures.items ∙ one-more c.args.points.now c.loop-done.placed.items c.index-points-points.result c.loop-done.done (length c.args.points.now - 1 - c.loop-done.done) (omega (arith, c.loop-done-test.true)) c.index-points-points.is c.loop-done.invariant.placed;
  room = omega (arith, c.put_by_id.ensures.room, c.loop-done.invariant.room);
  len = omega (arith, c.put_by_id.ensures.len, c.loop-done.invariant.len);
}
