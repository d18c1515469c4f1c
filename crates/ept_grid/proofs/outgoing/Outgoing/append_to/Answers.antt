use Rattle.std.proofs.Common.{◌∙◌, ◌++◌, List, append_assoc, ap, sym, arith, take}
use Rattle.std.proofs.lemmas.List.{take_all}
use Rattle.ept_point.specs.declared.point.Point.{Point}
use Rattle.ept_grid.specs.Outgoing.{Leaving, all_points}
use Rattle.ept_grid.proofs.Lanes.{all-took}
use Rattle.ept_grid.proofs.outgoing.Outgoing.append_to.Goals as goal

pub loop-lane-preserved : goal.loop-lane-preserved
loop-lane-preserved c =
    c.in_ok-extend_from_slice.ensures.items ∙ ap (λ (w : List Point). c.loop-lane.out.items ++ w) (c.as_slice.ensures ∙ sym (ap (λ (l : Leaving). l.points) c.lane-item.is)) ∙ ap (λ (w : List Point). w ++ c.lane-item.result.points) c.loop-lane.invariant ∙ append_assoc c.args.out.now.items (all_points (take c.loop-lane.lane-index c.self.inside.lanes)) c.lane-item.result.points ∙ ap (λ (w : List Point). c.args.out.now.items ++ w) (sym (all-took c.self.inside.lanes c.loop-lane.lane-index c.lane-item.result (omega (arith, c.type_inv.lane-items, c.loop-lane-test.true)) c.lane-item.is))

pub returns : goal.returns
returns c =
    c.loop-lane.invariant ∙ ap (λ (w : List Leaving). c.args.out.now.items ++ all_points w) (take_all c.loop-lane.lane-index c.self.inside.lanes (omega (arith, c.self.invariant, c.loop-lane-test.false, c.loop-lane.auto.lane-index-end)) ∙ c.self.view_is)
