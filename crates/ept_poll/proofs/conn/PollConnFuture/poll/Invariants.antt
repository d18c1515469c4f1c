use Rattle.std.proofs.Common.{◌≡◌, ◌≤◌, List, length}
use Rattle.futures.specs.Task.{Keeps}
use Rattle.ept_base.specs.Files.{SameFiles}
use Rattle.ept_base.specs.Moves.{Moves}
use Rattle.ept_conn.specs.SessionCalls.{SessionCall}
use Rattle.ept_poll.specs.Units.{AreUnits}
use Rattle.ept_poll.specs.Polls.{seen}
use Rattle.ept_poll.proofs.conn.PollConnFuture.poll.Given as given

-- these units were done
abbrev pub invariant-loop : given.invariant-loop
invariant-loop g l =
    let link = g.L.PollLink in
    record {
      units : (calls : List SessionCall) × (length calls ≡ l.counter) × AreUnits (seen link g.T.Store l.fn.self) calls (seen link g.T.Store l.self);
      within : l.counter ≤ l.end;
      end_is : l.end ≡ l.fn.self.turns;
      turns : l.self.turns ≡ l.fn.self.turns;
      later_reads : link.read_waits l.fn.self.link ≤ link.read_waits l.self.link;
      later_writes : link.write_waits l.fn.self.link ≤ link.write_waits l.self.link;
      kept : Keeps l.fn.cx l.cx;
      moved : Moves g.T.Store.files g.T.Store.may_leave g.T.Store.moment g.T.Store.image_since SameFiles l.fn.self.store l.self.store;
    }
