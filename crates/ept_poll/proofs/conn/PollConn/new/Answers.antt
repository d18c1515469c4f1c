use Rattle.ept_poll.specs.Polls.{seen}
use Rattle.ept_poll.proofs.Standing.{start-stands}
use Rattle.ept_poll.proofs.conn.PollConn.new.Goals as goal

pub returns-clause-stands : goal.returns-clause-stands
returns-clause-stands g c =
    start-stands (seen g.L.PollLink g.T.Store (record { link = c.args.link; store = c.args.store; session = c.new.result; turns = c.args.turns })) c.new.ensures c.requires.unused
