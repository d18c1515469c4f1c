use Rattle.std.proofs.Common.{⊎_elim}
use Rattle.ept_base.specs.Causes.{Rose}
use Rattle.ept_run.proofs.Checked.{check_ends}
use Rattle.ept_run.proofs.checking.answer_check.Goals as goal

pub returns-clause-ends : goal.returns-clause-ends
returns-clause-ends g c =
    check_ends c.report.result.status c.report.result.failure (g.T.Store.files c.args.store.now) (g.O.Sink.written c.args.out.now) (g.O.Sink.written c.report.new.out)
    (Rose (g.T.Store.faults c.args.store.now) (g.T.Store.faults c.check-answer.new.store)) (Rose (g.O.Sink.faults c.args.out.now) (g.O.Sink.faults c.report.new.out))
    c.check-answer.result c.check-answer.ensures.answers c.check-answer.ensures.comes c.check-answer.ensures.complete c.check-answer.ensures.cause.failed c.report.ensures

pub returns-clause-failure : goal.returns-clause-failure
returns-clause-failure g c = ⊎_elim (λ told. told.unless_done) (λ told. told.unless_done) c.report.ensures
