use Rattle.ept_save.proofs.CommitSteps.{body-commits, both-commit, now-stands}
use Rattle.ept_save.proofs.committing.put_checkpoint.Goals as goal

pub returns-in_err-put_body-clause-commits : goal.returns-in_err-put_body-clause-commits
returns-in_err-put_body-clause-commits g c = λ view begun is newer stands.
    body-commits g.T.Store.files g.T.Store.may_leave g.T.Store.moment g.T.Store.image_since view c.args.checkpoint.now c.args.letter begun is newer c.args.store.now c.put_body.new.store stands c.put_body.ensures.one_body

pub returns-in_err-open_gate-clause-commits : goal.returns-in_err-open_gate-clause-commits
returns-in_err-open_gate-clause-commits g c = λ view begun is newer stands.
    both-commit g.T.Store.files g.T.Store.may_leave g.T.Store.moment g.T.Store.image_since view c.args.checkpoint.now c.args.letter begun is newer c.args.store.now c.put_body.new.store stands c.put_body.ensures.one_body
    c.in_ok-put_body.ensures.puts c.in_ok-put_body.ensures.settled c.open_gate.new.store c.open_gate.ensures.one_gate

pub returns-clause-commits : goal.returns-clause-commits
returns-clause-commits g c = λ view begun is newer stands.
    both-commit g.T.Store.files g.T.Store.may_leave g.T.Store.moment g.T.Store.image_since view c.args.checkpoint.now c.args.letter begun is newer c.args.store.now c.put_body.new.store stands c.put_body.ensures.one_body
    c.in_ok-put_body.ensures.puts c.in_ok-put_body.ensures.settled c.open_gate.new.store c.open_gate.ensures.one_gate

pub returns-clause-stands : goal.returns-clause-stands
returns-clause-stands g c = λ view begun is newer stands.
    now-stands g.T.Store.files g.T.Store.may_leave g.T.Store.moment g.T.Store.image_since view c.args.checkpoint.now c.args.letter begun is newer c.args.store.now c.put_body.new.store stands c.put_body.ensures.one_body
    c.in_ok-put_body.ensures.puts c.in_ok-put_body.ensures.settled c.open_gate.new.store c.open_gate.ensures.one_gate c.in_ok-open_gate.ensures.puts c.in_ok-open_gate.ensures.settled
