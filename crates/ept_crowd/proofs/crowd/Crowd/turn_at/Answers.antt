use Rattle.std.proofs.Common.{refl, subst}
use Rattle.futures.specs.declared.task.Poll.{Poll}
use Rattle.futures.specs.declared.task.Poll.TheVariants.{Ready, Pending}
use Rattle.futures.specs.Task.{IsArmed}
use Rattle.futures.specs.Poll.{OnPending}
use Rattle.ept_conn.specs.declared.end.End.{End}
use Rattle.ept_poll.specs.Polls.{HasPolled}
use Rattle.ept_crowd.specs.Members.{with_conn}
use Rattle.ept_crowd.proofs.crowd.Crowd.turn_at.Goals as goal

pub returns-in-Pending-clause-turned : goal.returns-in-Pending-clause-turned
returns-in-Pending-clause-turned g c = λ front back member was at.
    let polled = c.poll_at.ensures.polled front back member was at in record {
      was = was;
      conn = polled.0;
      poll = Pending;
      polled = subst (λ (poll : Poll End). HasPolled g.L.PollLink g.T.Store member.conn polled.0 poll c.poll_at.new.cx) c.in-Pending.is polled.2;
      goes = (refl, polled.1, refl);
      armed = subst (λ (poll : Poll End). OnPending poll (IsArmed c.poll_at.new.cx)) c.in-Pending.is c.poll_at.ensures.armed;
      added = refl;
    }

pub returns-in-Ready-clause-turned : goal.returns-in-Ready-clause-turned
returns-in-Ready-clause-turned g c = λ front back member was at.
    let polled = c.poll_at.ensures.polled front back member was at in
    let moved = c.end_at.ensures.moved front back (with_conn member polled.0) polled.1 at in record {
      was = was;
      conn = polled.0;
      poll = Ready c.in-Ready.end;
      polled = subst (λ (poll : Poll End). HasPolled g.L.PollLink g.T.Store member.conn polled.0 poll c.poll_at.new.cx) c.in-Ready.is polled.2;
      goes = (refl, moved.0, moved.1);
      armed = tt;
      added = refl;
    }
