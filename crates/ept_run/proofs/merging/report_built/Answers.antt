use Rattle.std.proofs.Common.{inl}
use Rattle.ept_base.specs.Causes.{Rose}
use Rattle.ept_run.proofs.Merged.{built_reported}
use Rattle.ept_run.proofs.merging.report_built.Goals as goal

pub returns-in-Ok : goal.returns-in-Ok
returns-in-Ok g c =
    inl (built_reported c.say.result.status c.say.result.failure (g.O.Sink.written c.args.out.now) (g.O.Sink.written c.say.new.out) (Rose (g.O.Sink.faults c.args.out.now) (g.O.Sink.faults c.say.new.out))
    c.args.summary c.in-Ok.line c.in-Ok.ensures c.say.ensures)
