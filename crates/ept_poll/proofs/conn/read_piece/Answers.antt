use Rattle.std.proofs.Common.{◌∙◌, ◌<◌, ℕ, length, take, refl, sym, ap, subst, arith}
use Rattle.futures.specs.declared.task.Poll.TheVariants.{Ready}
use Rattle.ept_conn.specs.SessionCalls.{Fed}
use Rattle.ept_poll.proofs.Calling.{read-on}
use Rattle.ept_poll.proofs.conn.read_piece.Goals as goal

pub returns-in-Ready-Ok-clause-unit : goal.returns-in-Ready-Ok-clause-unit
returns-in-Ready-Ok-clause-unit g c = λ files faults gets.
    let into = c.poll_read.new.into in
    let n = c.in-Ready-Ok.count in
    let some : 0 < length into = subst (λ (k : ℕ). 0 < k) (sym c.poll_read.auto.into) (omega arith) in
    let said = c.poll_read.ensures in (
      Fed (take n into),
      (
        c.requires,
        record { later = said.later; files = refl; store_faults = refl; gets = refl },
        read-on c.poll_read.result n into (g.L.PollLink.wire c.args.link.now) (g.L.PollLink.wire c.poll_read.new.self) (c.in-Ready-Ok.is ∙ ap Ready c.in-Ready-Ok.field-0-is) said.bound said.ok said.end some,
        c.feed.ensures,
      ),
    )
