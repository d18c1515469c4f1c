use Rattle.std.proofs.Common.{◌≡◌, ◌||◌, ◌∙◌, List, take, sym, subst, ap, arith, refl}
use Rattle.ept_point.specs.declared.point.Point.{Point}
use Rattle.ept_point.specs.declared.id.PointId.{PointId}
use Rattle.ept_check.specs.Walking.{has_id, is_of, is_one_id}
use Rattle.ept_check.proofs.Sets.{whole, with-false, id-more}
use Rattle.ept_check.proofs.ids.Ids.insert_all.Goals as goal

pub loop-point-init : goal.loop-point-init
loop-point-init c = λ q. sym (with-false (has_id c.args.self.now q))

pub loop-point-preserved : goal.loop-point-preserved
loop-point-preserved c = λ q.
    id-more c.args.points.now c.loop-point.point-index c.point-item.result q (has_id c.loop-point.self q) (has_id c.insert.new.self q) (has_id c.args.self.now q) c.loop-point-test.true c.point-item.is (c.loop-point.invariant q)
    (c.in_ok-insert.ensures q ∙ ap (λ (one : PointId). has_id c.loop-point.self q || is_one_id one q) c.id.ensures)

pub returns : goal.returns
returns c =
    let all = whole c.args.points.now c.loop-point.point-index c.loop-point.auto.point-index-end c.loop-point-test.false in
    λ q. subst (λ (w : List Point). has_id c.loop-point.self q ≡ (has_id c.args.self.now q || is_of w q)) all (c.loop-point.invariant q)
