use Rattle.std.proofs.Common.{inl, inr}
use Rattle.ept_base.specs.Causes.{Rose}
use Rattle.ept_run.proofs.Parted.{made_reported, memory_reported}
use Rattle.ept_run.proofs.parting.report_made.Goals as goal

pub returns-in-Ok : goal.returns-in-Ok
returns-in-Ok g c =
    inl (made_reported c.say.result.status c.say.result.failure (g.O.Sink.written c.args.out.now) (g.O.Sink.written c.say.new.out) (Rose (g.O.Sink.faults c.args.out.now) (g.O.Sink.faults c.say.new.out))
    c.args.done.now c.in-Ok.line c.in-Ok.ensures c.say.ensures)

pub returns-in-Err : goal.returns-in-Err
returns-in-Err g c =
    inr (memory_reported c.refuse_memory.result.status c.refuse_memory.result.failure (g.O.Sink.written c.args.out.now) (g.O.Sink.written c.refuse_memory.new.out) (Rose (g.O.Sink.faults c.args.out.now) (g.O.Sink.faults c.refuse_memory.new.out))
    c.refuse_memory.ensures.status c.refuse_memory.ensures.failure c.refuse_memory.ensures.says)
