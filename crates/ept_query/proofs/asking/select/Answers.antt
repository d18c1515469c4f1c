use Rattle.std.proofs.Common.{Some}
use Rattle.ept_query.proofs.Calling.{query-comes}
use Rattle.ept_query.proofs.Whole.{selects-whole}
use Rattle.ept_query.proofs.asking.select.Goals as goal

pub returns-clause-complete : goal.returns-clause-complete
returns-clause-complete g c = λ kept points all is whole.
    selects-whole c.reading_law.ensures.files c.output_once_law.ensures.sampled kept points c.args.area.now c.args.depths.0 c.args.depths.1 all whole c.args.sift.now (g.T.Store.files c.args.store.now) is (g.O.Sink.written c.args.out.now) (g.O.Sink.written c.answer.new.out) c.answer.result c.answer.ensures.answer c.answer.ensures.refused c.answer.ensures.leaves

pub returns-clause-comes : goal.returns-clause-comes
returns-clause-comes g c =
    query-comes (Some c.args.sift.now) c.args.area.now c.args.depths.0 c.args.depths.1 (g.T.Store.files c.args.store.now) (g.O.Sink.written c.args.out.now) (g.O.Sink.written c.answer.new.out) c.answer.result c.answer.ensures.answer c.answer.ensures.refused
