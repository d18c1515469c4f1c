use Rattle.std.proofs.Common.{◌≡◌, ◌∙◌, sym, ap, false}
use Rattle.ept_point.specs.declared.point.Point.{Point}
use Rattle.ept_point.specs.declared.id.PointId.{PointId}
use Rattle.ept_point.specs.Order.{id}
use Rattle.ept_check.specs.Walking.{has_id}
use Rattle.ept_check.proofs.Sets.{push-all}
use Rattle.ept_check.proofs.ids.Ids.has_none_of.Goals as goal

pub loop-point-preserved : goal.loop-point-preserved
loop-point-preserved c =
    push-all (λ (p : Point). has_id c.args.self.now (id p) ≡ false) c.args.points.now c.loop-point.point-index c.point-item.result c.loop-point-test.true c.point-item.is c.loop-point.invariant
    (ap (λ (one : PointId). has_id c.args.self.now one) (sym c.id.ensures) ∙ (sym c.has.ensures ∙ c.if-has.false))
