use Rattle.ept_save.proofs.Guarding.{close-guards, done-stands}
use Rattle.ept_save.proofs.done.close_done.Goals as goal

pub returns-in_err-close_gate-clause-guards : goal.returns-in_err-close_gate-clause-guards
returns-in_err-close_gate-clause-guards g c = λ guarded.
    close-guards g.T.Store.files g.T.Store.may_leave g.T.Store.moment g.T.Store.image_since c.args.store.now c.close_gate.new.store guarded (g.met.T.Store.reads_an_image c.args.store.now) c.close_gate.ensures.any_moment c.close_gate.ensures.stood_shut

pub returns-clause-guards : goal.returns-clause-guards
returns-clause-guards g c = λ guarded.
    close-guards g.T.Store.files g.T.Store.may_leave g.T.Store.moment g.T.Store.image_since c.args.store.now c.close_gate.new.store guarded (g.met.T.Store.reads_an_image c.args.store.now) c.close_gate.ensures.any_moment c.close_gate.ensures.stood_shut

pub returns-clause-stands : goal.returns-clause-stands
returns-clause-stands g c = λ v stands.
    done-stands g.T.Store.files g.T.Store.may_leave g.T.Store.moment g.T.Store.image_since v c.args.store.now c.close_gate.new.store c.close_gate.ensures.any_moment c.in_ok-close_gate.ensures.settled stands
