use Rattle.std.proofs.Common.{ℕ, length}
use Rattle.ept_base.specs.Causes.{Rose}
use Rattle.ept_base.specs.Files.{Files, StepsBy}
use Rattle.ept_conn.specs.Answers.{Served}
use Rattle.ept_conn.specs.Conversation.{GoesOn}
use Rattle.ept_conn.specs.Got.{GetsOn}
use Rattle.ept_conn.proofs.Conversing.{HasWritten}
use Rattle.ept_conn.proofs.serve.write_out.Given as given

-- what was to be sent at first has been sent up to here, or the link failed
abbrev pub invariant-loop-session : given.invariant-loop-session
invariant-loop-session g l = record {
  converses : (served : Served) (before after : ℕ) → StepsBy (GoesOn served (Rose before after) (Rose before after) l.initial.session l.session) (g.L.Link.wire l.initial.link) (g.L.Link.wire l.link);
  gets : (files : Files) (first now : ℕ) → StepsBy (GetsOn files first now now l.initial.session l.session) (g.L.Link.wire l.initial.link) (g.L.Link.wire l.link);
  state : HasWritten l.initial.session l.session (g.L.Link.faults l.initial.link) (g.L.Link.faults l.link);
}

abbrev pub decreases-loop-session : given.decreases-loop-session
decreases-loop-session g l = length l.session.out
