use Rattle.std.proofs.Common.{◌∙◌, List, length, length-append, ap, arith, take}
use Rattle.std.proofs.lemmas.List.{take_all}
use Rattle.ept_grid.specs.Outgoing.{Leaving, all_points}
use Rattle.ept_grid.proofs.Lanes.{all-took}
use Rattle.ept_grid.proofs.outgoing.Outgoing.total.Goals as goal

pub loop-lane-preserved : goal.loop-lane-preserved
loop-lane-preserved c = record {
  total = omega (arith, c.loop-lane.invariant.total, c.count-total.ensures.count, ap (λ (l : Leaving). length l.points) c.lane-item.is, ap length (all-took c.self.inside.lanes c.loop-lane.lane-index c.lane-item.result (omega (arith, c.type_inv.lane-items, c.loop-lane-test.true)) c.lane-item.is), length-append (all_points (take c.loop-lane.lane-index c.self.inside.lanes)) c.lane-item.result.points);
  small = omega (arith, c.loop-lane.invariant.small, c.count-total.ensures.small);
}

pub overflow_add-total : goal.overflow_add-total
overflow_add-total c = omega (arith, c.loop-lane.invariant.small, c.count-total.ensures.small, c.loop-lane-test.true)

pub returns-clause-total : goal.returns-clause-total
returns-clause-total c =
    c.loop-lane.invariant.total ∙ ap (λ (w : List Leaving). length (all_points w)) (take_all c.loop-lane.lane-index c.self.inside.lanes (omega (arith, c.self.invariant, c.loop-lane-test.false, c.loop-lane.auto.lane-index-end))) ∙ ap (λ (w : List Leaving). length (all_points w)) c.self.view_is
