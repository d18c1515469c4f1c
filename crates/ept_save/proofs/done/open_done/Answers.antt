use Rattle.ept_save.proofs.Guarding.{same-moves, open-guards, opened-stands}
use Rattle.ept_save.proofs.done.open_done.Goals as goal

pub returns-in_err-settle-clause-guards : goal.returns-in_err-settle-clause-guards
returns-in_err-settle-clause-guards g c = λ guarded.
    same-moves g.T.Store.files g.T.Store.may_leave g.T.Store.moment g.T.Store.image_since c.args.store.now c.settle.new.store guarded c.settle.ensures.any_moment

pub returns-in_err-put_kept-clause-guards : goal.returns-in_err-put_kept-clause-guards
returns-in_err-put_kept-clause-guards g c = λ guarded.
    open-guards g.T.Store.files g.T.Store.may_leave g.T.Store.moment g.T.Store.image_since c.args.store.now c.settle.new.store c.put_kept.new.store guarded c.settle.ensures.any_moment c.in_ok-settle.ensures.settled c.put_kept.ensures.any_moment

pub returns-clause-guards : goal.returns-clause-guards
returns-clause-guards g c = λ guarded.
    open-guards g.T.Store.files g.T.Store.may_leave g.T.Store.moment g.T.Store.image_since c.args.store.now c.settle.new.store c.put_kept.new.store guarded c.settle.ensures.any_moment c.in_ok-settle.ensures.settled c.put_kept.ensures.any_moment

pub returns-clause-stands : goal.returns-clause-stands
returns-clause-stands g c = λ v stands.
    opened-stands g.T.Store.files g.T.Store.may_leave g.T.Store.moment g.T.Store.image_since v c.args.store.now c.settle.new.store c.put_kept.new.store c.settle.ensures.any_moment c.in_ok-settle.ensures.settled c.put_kept.ensures.any_moment c.in_ok-put_kept.ensures.settled stands
