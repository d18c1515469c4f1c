use Rattle.ept_query.proofs.Calling.{plan-comes}
use Rattle.ept_query.proofs.Whole.{plan-whole}
use Rattle.ept_query.proofs.planning.query_plan.Goals as goal

pub returns-clause-complete : goal.returns-clause-complete
returns-clause-complete g c = λ kept points all is whole.
    plan-whole c.reading_law.ensures.files c.output_once_law.ensures.sampled kept points c.args.area.now c.args.depths.0 c.args.depths.1 all whole (g.T.Store.files c.args.store.now) is c.plan_of.result c.plan_of.ensures.plan c.plan_of.ensures.refused

pub returns-clause-comes : goal.returns-clause-comes
returns-clause-comes g c =
    plan-comes c.args.area.now c.args.depths.0 c.args.depths.1 (g.T.Store.files c.args.store.now) c.plan_of.result c.plan_of.ensures.plan c.plan_of.ensures.refused
