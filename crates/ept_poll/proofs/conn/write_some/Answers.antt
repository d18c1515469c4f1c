use Rattle.std.proofs.Common.{◌∙◌, take, refl, ap}
use Rattle.futures.specs.declared.task.Poll.TheVariants.{Ready}
use Rattle.ept_conn.specs.SessionCalls.{Sent}
use Rattle.ept_poll.proofs.Calling.{write-on, written-some, written-split}
use Rattle.ept_poll.proofs.conn.write_some.Goals as goal

pub returns-in-Ready-Ok-clause-unit : goal.returns-in-Ready-Ok-clause-unit
returns-in-Ready-Ok-clause-unit g c = λ files faults gets.
    let from = c.out.result.now in
    let n = c.in-Ready-Ok.count in
    let is = c.in-Ready-Ok.is ∙ ap Ready c.in-Ready-Ok.field-0-is in
    let said = c.poll_write.ensures in
    let parts = written-split c.args.session.now c.sent.new.self n from c.out.ensures.bytes c.sent.ensures in (
      Sent (take n from),
      (
        c.requires,
        record { later = said.later; files = refl; store_faults = refl; gets = refl },
        write-on c.poll_write.result n from (g.L.PollLink.wire c.args.link.now) (g.L.PollLink.wire c.poll_write.new.self) is said.ok,
        written-some c.poll_write.result n from is said.bound said.some c.out.ensures.some,
        parts.0,
        parts.1,
      ),
    )
