use Rattle.std.proofs.Common.{◌<◌, ℕ, length, subst}
use Rattle.std.proofs.lemmas.Result.{err_from_is_err_and}
use Rattle.ept_point.proofs.TileLaws.{read_on, room_after, read_all, fault_on}
use Rattle.ept_point.proofs.tile.read_points.Goals as goal

pub returns-in_err-point-clause-fault : goal.returns-in_err-point-clause-fault
returns-in_err-point-clause-fault c =
    let p = err_from_is_err_and c.from_residual-in_err-point.result c.from_residual-in_err-point.ensures.1 in
    rw (p.1, p.2) (λ not_memory. fault_on c.args.layout c.args.bytes.now c.loop-rest.rest.now c.split_at.result.0.now _ _ _ _ c.width-width.result _ c.width-width.ensures c.split_at.ensures.front c.loop-rest-test.true c.loop-rest.invariant.0 c.requires c.in_err-point.ensures.fault)

pub loop-rest-preserved : goal.loop-rest-preserved
loop-rest-preserved c = (
  read_on c.args.layout c.args.bytes.now c.loop-rest.rest.now c.split_at.result.0.now c.split_at.result.1.now _ _ _ _ _ c.width-width.result c.in_ok-point.point c.id.result c.width-width.ensures c.split_at.ensures.front c.split_at.ensures.back c.push_reserved.ensures.items c.id.ensures c.loop-rest.invariant.0 c.in_ok-point.ensures.point c.in_ok-point.ensures.after,
  room_after c.args.layout c.loop-rest.rest.now c.split_at.result.1.now c.width-width.result _ _ _ _ c.width-width.ensures c.loop-rest-test.true c.split_at.ensures.back c.push_reserved.ensures.len c.push_reserved.ensures.capacity c.loop-rest.invariant.1,
)

pub returns-clause-ok : goal.returns-clause-ok
returns-clause-ok c =
    read_all c.args.layout c.args.bytes.now c.loop-rest.rest.now _ _ _ _ c.loop-rest.invariant.0 c.requires (subst (λ (w : ℕ). length c.loop-rest.rest.now < w) c.width-width.ensures c.loop-rest-test.false)
