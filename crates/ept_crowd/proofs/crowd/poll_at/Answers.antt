use Rattle.std.proofs.Common.{ap, subst, ◌∙◌, ◌∷◌, ◌++◌}
use Rattle.ept_poll.specs.Polls.{HasPolled}
use Rattle.ept_crowd.specs.declared.member.Live.{Live}
use Rattle.ept_crowd.specs.Members.{IsReady, with_conn}
use Rattle.ept_crowd.proofs.Places.{read-at, set-at, all-without}
use Rattle.ept_crowd.proofs.crowd.poll_at.Goals as goal

pub returns-clause-polled : goal.returns-clause-polled
returns-clause-polled g c = λ front back member is at.
    let items = c.args.live.now.items in
    let read = c.index_mut-member.result.now in
    let same = read-at front back items member read c.args.place is at c.index_mut-member.ensures.value in
    let now = c.poll.new.self in (
      now,
      set-at front back items member (with_conn read now) c.args.place is at ∙ ap (λ (m : Live g.row.L.Denot g.row.T.Denot). front ++ (with_conn m now ∷ back)) same,
      subst (λ (m : Live g.row.L.Denot g.row.T.Denot). HasPolled g.L.PollLink g.T.Store m.conn now c.poll.result c.poll.new.cx) same c.poll.ensures.polled,
    )

pub returns-clause-others : goal.returns-clause-others
returns-clause-others g c =
    all-without IsReady c.args.live.now.items c.args.place (with_conn c.index_mut-member.result.now c.poll.new.self) c.requires.ready
