use Rattle.std.proofs.Common.{inl}
use Rattle.ept_base.specs.Causes.{Rose}
use Rattle.ept_run.proofs.Checked.{fit_reported}
use Rattle.ept_run.proofs.checking.report_fit.Goals as goal

pub returns-in-Ok : goal.returns-in-Ok
returns-in-Ok g c =
    inl (fit_reported c.say.result.status c.say.result.failure (g.O.Sink.written c.args.out.now) (g.O.Sink.written c.say.new.out) (Rose (g.O.Sink.faults c.args.out.now) (g.O.Sink.faults c.say.new.out))
    c.args.points c.args.nodes c.in-Ok.line c.in-Ok.ensures c.say.ensures)
