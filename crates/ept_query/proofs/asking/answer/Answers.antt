use Rattle.std.proofs.lemmas.Result.{err_from_is_err_and}
use Rattle.ept_query.proofs.Querying.{plan-gets, tiles-left, tiles-refused, gets-tiles, tiles-got}
use Rattle.ept_query.proofs.asking.answer.Goals as goal

pub returns-clause-refused : goal.returns-clause-refused
returns-clause-refused g c =
    tiles-refused c.args.sift.now c.args.area.now c.args.depths.0 c.args.depths.1 c.in_ok-plan.plan c.in_ok-plan.ensures.area (g.T.Store.files c.args.store.now) (g.T.Store.files c.query_plan.new.store) c.in_ok-plan.ensures.plan c.in_ok-plan.ensures.any_moment.reads
    (g.O.Sink.written c.args.out.now) (g.O.Sink.written c.write_tiles.new.out) c.write_tiles.result c.write_tiles.ensures.leaves

pub returns-clause-leaves : goal.returns-clause-leaves
returns-clause-leaves g c =
    tiles-left c.args.sift.now c.args.area.now c.args.depths.0 c.args.depths.1 c.in_ok-plan.plan c.in_ok-plan.ensures.area (g.T.Store.files c.args.store.now) (g.T.Store.files c.query_plan.new.store) c.in_ok-plan.ensures.plan c.in_ok-plan.ensures.any_moment.reads
    (g.O.Sink.written c.args.out.now) (g.O.Sink.written c.write_tiles.new.out) c.write_tiles.result c.write_tiles.ensures.leaves

pub returns-clause-gets : goal.returns-clause-gets
returns-clause-gets g c =
    gets-tiles c.args.sift.now c.args.area.now c.args.depths.0 c.args.depths.1 c.in_ok-plan.plan c.in_ok-plan.ensures.area (g.T.Store.files c.args.store.now) (g.T.Store.files c.query_plan.new.store) c.in_ok-plan.ensures.plan c.in_ok-plan.ensures.any_moment.reads
    (g.T.Store.gets c.args.store.now) (g.T.Store.gets c.query_plan.new.store) (g.T.Store.gets c.write_tiles.new.store) c.in_ok-plan.ensures.gets c.write_tiles.ensures.gets

pub returns-in_err-plan-clause-up_to : goal.returns-in_err-plan-clause-up_to
returns-in_err-plan-clause-up_to g c =
    let p = err_from_is_err_and c.from_residual.result c.from_residual.ensures.1 in
    rw (p.1, p.2) (plan-gets c.args.area.now c.args.depths.0 c.args.depths.1 (g.T.Store.files c.args.store.now) c.in_err-plan.field-0.0 (g.T.Store.gets c.args.store.now) (g.T.Store.gets c.query_plan.new.store) c.in_err-plan.ensures.refused c.in_err-plan.ensures.gets)

pub returns-clause-up_to : goal.returns-clause-up_to
returns-clause-up_to g c =
    tiles-got c.args.sift.now c.args.area.now c.args.depths.0 c.args.depths.1 c.in_ok-plan.plan c.in_ok-plan.ensures.area (g.T.Store.files c.args.store.now) (g.T.Store.files c.query_plan.new.store) c.in_ok-plan.ensures.plan c.in_ok-plan.ensures.any_moment.reads
    (g.T.Store.gets c.args.store.now) (g.T.Store.gets c.query_plan.new.store) (g.T.Store.gets c.write_tiles.new.store) (g.O.Sink.written c.args.out.now) (g.O.Sink.written c.write_tiles.new.out) c.write_tiles.result c.in_ok-plan.ensures.gets c.write_tiles.ensures.gets c.write_tiles.ensures.leaves c.write_tiles.ensures.up_to
