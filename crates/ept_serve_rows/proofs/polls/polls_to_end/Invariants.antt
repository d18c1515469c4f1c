use Rattle.ept_poll.specs.Polls.{IsPollable}
use Rattle.ept_serve_rows.proofs.polls.polls_to_end.Given as given

-- it may be polled
abbrev pub invariant-loop-count : given.invariant-loop-count
invariant-loop-count l = IsPollable l.conn.turns l.conn.session
