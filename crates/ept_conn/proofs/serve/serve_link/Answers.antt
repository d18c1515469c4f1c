use Rattle.std.proofs.Common.{◌<◌, ℕ, refl, sym, subst, arith}
use Rattle.ept_base.specs.Causes.{Rose}
use Rattle.ept_base.specs.Links.{Wire}
use Rattle.ept_base.proofs.Moving.{steps_both, steps_weaker}
use Rattle.ept_conn.specs.declared.end.Fault.TheVariants as fault
use Rattle.ept_conn.specs.State.{State}
use Rattle.ept_conn.specs.Works.{HasPlanOf}
use Rattle.ept_conn.specs.Serving.{IsServedOver}
use Rattle.ept_conn.specs.Conversation.{Converses, GoesOn}
use Rattle.ept_conn.specs.Got.{GetsForRead, GetsSince, GetsOn}
use Rattle.ept_conn.proofs.Plans.{served-sent}
use Rattle.ept_conn.proofs.Histories.{link-end, store-end, damaged-end}
use Rattle.ept_conn.proofs.Conversing.{CauseSince, steps-same, same-files, start-converses, served-over, no-cause, cause-on, moved-none, moved-twice, fresh-undamaged, damaged-on, ends-well}
use Rattle.ept_conn.proofs.Getting.{start-gets, ends-gets}
use Rattle.ept_conn.proofs.serve.serve_link.Goals as goal

pub loop-end-init : goal.loop-end-init
loop-end-init g c =
    let links = g.L.Link.faults c.args.link.now in
    let stores = g.T.Store.faults c.args.store.now in
    let first = g.T.Store.gets c.args.store.now in
    let rose = Rose stores stores in record {
      converses = λ files told served is. steps-same (λ (start now : Wire). Converses served rose start c.new-session.result now) (g.L.Link.wire c.args.link.now) (g.L.Link.wire c.args.link.now) refl (λ wire. subst (λ (s : State). Converses served rose wire s wire) (sym c.new-session.ensures) (start-converses served rose wire));
      gets = λ files told. steps-same (λ (start now : Wire). GetsSince files first start c.new-session.result first now) (g.L.Link.wire c.args.link.now) (g.L.Link.wire c.args.link.now) refl (λ wire. subst (λ (s : State). GetsSince files first wire s first wire) (sym c.new-session.ensures) (start-gets files first wire));
      links = subst (λ (s : State). CauseSince fault.Link s links links) (sym c.new-session.ensures) (no-cause fault.Link links);
      stores = subst (λ (s : State). CauseSince fault.Store s stores stores) (sym c.new-session.ensures) (no-cause fault.Store stores);
      plans = λ files told. subst (λ (s : State). HasPlanOf files s.hand) (sym c.new-session.ensures) tt;
      damaged = λ found fixed. fresh-undamaged c.new-session.result found (g.T.Store.files c.args.store.now) c.new-session.ensures fixed;
      moved = moved-none g.T.Store.files g.T.Store.may_leave g.T.Store.moment g.T.Store.image_since c.args.store.now;
      room = omega arith;
    }

pub loop-end-preserved : goal.loop-end-preserved
loop-end-preserved g c =
    let first = g.T.Store.faults c.args.store.now in
    let now = g.T.Store.faults c.loop-end.store in
    let next = g.T.Store.faults c.step.new.store in
    let was = c.loop-end.invariant in record {
      converses = λ files told served is.
          let told_now = same-files (g.T.Store.files c.args.store.now) (g.T.Store.files c.loop-end.store) files told was.moved.reads in
          steps_both (λ (start wire : Wire). Converses served (Rose first now) start c.loop-end.session wire) (GoesOn served (Rose first now) (Rose first next) c.loop-end.session c.step.new.session) (λ (start wire : Wire). Converses served (Rose first next) start c.step.new.session wire) (λ start a b so_far on. on start so_far) (g.L.Link.wire c.args.link.now) (g.L.Link.wire c.loop-end.link) (g.L.Link.wire c.step.new.link) (was.converses files told served is) (c.step.ensures.converses files told_now served is first was.stores.later);
      gets = λ files told.
          let told_now = same-files (g.T.Store.files c.args.store.now) (g.T.Store.files c.loop-end.store) files told was.moved.reads in
          let first_gets = g.T.Store.gets c.args.store.now in
          let now_gets = g.T.Store.gets c.loop-end.store in
          let next_gets = g.T.Store.gets c.step.new.store in
          steps_both (λ (start wire : Wire). GetsSince files first_gets start c.loop-end.session now_gets wire) (GetsOn files first_gets now_gets next_gets c.loop-end.session c.step.new.session) (λ (start wire : Wire). GetsSince files first_gets start c.step.new.session next_gets wire) (λ start a b so_far on. on start so_far) (g.L.Link.wire c.args.link.now) (g.L.Link.wire c.loop-end.link) (g.L.Link.wire c.step.new.link) (was.gets files told) (c.step.ensures.gets files told_now first_gets);
      links = cause-on fault.Link c.loop-end.session c.step.new.session (g.L.Link.faults c.args.link.now) (g.L.Link.faults c.loop-end.link) (g.L.Link.faults c.step.new.link) was.links c.step.ensures.links;
      stores = cause-on fault.Store c.loop-end.session c.step.new.session first now next was.stores c.step.ensures.stores;
      plans = λ files told.
          let told_now = same-files (g.T.Store.files c.args.store.now) (g.T.Store.files c.loop-end.store) files told was.moved.reads in
          c.step.ensures.plans files told_now (was.plans files told);
      damaged = λ found fixed.
          damaged-on c.loop-end.session found (g.T.Store.files c.args.store.now) (g.T.Store.files c.loop-end.store) was.moved.reads was.plans (was.damaged found) (c.step.ensures.damaged found fixed);
      moved = moved-twice g.T.Store.files g.T.Store.may_leave g.T.Store.moment g.T.Store.image_since c.args.store.now c.loop-end.store c.step.new.store was.moved c.step.ensures.any_moment;
      room = subst (λ (n : ℕ). 0 < n) (sym c.step.ensures.room) was.room;
    }

pub returns-in-Some-clause-served : goal.returns-in-Some-clause-served
returns-in-Some-clause-served g c = λ files told served is.
    let first = g.T.Store.faults c.args.store.now in
    let now = g.T.Store.faults c.loop-end.store in
    let next = g.T.Store.faults c.step.new.store in
    let was = c.loop-end.invariant in
    let told_now = same-files (g.T.Store.files c.args.store.now) (g.T.Store.files c.loop-end.store) files told was.moved.reads in
    let all = steps_both (λ (start wire : Wire). Converses served (Rose first now) start c.loop-end.session wire) (GoesOn served (Rose first now) (Rose first next) c.loop-end.session c.step.new.session) (λ (start wire : Wire). Converses served (Rose first next) start c.step.new.session wire) (λ start a b so_far on. on start so_far) (g.L.Link.wire c.args.link.now) (g.L.Link.wire c.loop-end.link) (g.L.Link.wire c.step.new.link) (was.converses files told served is) (c.step.ensures.converses files told_now served is first was.stores.later) in
    steps_weaker (λ (start wire : Wire). Converses served (Rose first next) start c.step.new.session wire) (IsServedOver served (Rose first next) c.in-Some.end) (λ start wire so_far. served-over served (Rose first next) start wire c.step.new.session c.in-Some.end so_far c.in-Some.ensures.end) (g.L.Link.wire c.args.link.now) (g.L.Link.wire c.step.new.link) all

pub returns-in-Some-clause-links : goal.returns-in-Some-clause-links
returns-in-Some-clause-links g c = λ same.
    let since = cause-on fault.Link c.loop-end.session c.step.new.session (g.L.Link.faults c.args.link.now) (g.L.Link.faults c.loop-end.link) (g.L.Link.faults c.step.new.link) c.loop-end.invariant.links c.step.ensures.links in
    since.rose (link-end c.step.new.session c.in-Some.end same c.in-Some.ensures.end)

pub returns-in-Some-clause-stores : goal.returns-in-Some-clause-stores
returns-in-Some-clause-stores g c = λ same.
    let since = cause-on fault.Store c.loop-end.session c.step.new.session (g.T.Store.faults c.args.store.now) (g.T.Store.faults c.loop-end.store) (g.T.Store.faults c.step.new.store) c.loop-end.invariant.stores c.step.ensures.stores in
    since.rose (store-end c.step.new.session c.in-Some.end same c.in-Some.ensures.end)

pub returns-in-Some-clause-well : goal.returns-in-Some-clause-well
returns-in-Some-clause-well g c = λ files served told is wired.
    ends-well files served (Rose (g.T.Store.faults c.args.store.now) (g.T.Store.faults c.step.new.store)) (Rose (g.L.Link.faults c.args.link.now) (g.L.Link.faults c.step.new.link)) (Rose (g.T.Store.faults c.args.store.now) (g.T.Store.faults c.step.new.store)) (g.L.Link.wire c.args.link.now) (g.L.Link.wire c.step.new.link) c.in-Some.end is wired
    (returns-in-Some-clause-served g c files told served (served-sent files served is)) (returns-in-Some-clause-links g c) (returns-in-Some-clause-stores g c)

pub returns-in-Some-clause-damaged : goal.returns-in-Some-clause-damaged
returns-in-Some-clause-damaged g c = λ found same.
    let was = c.loop-end.invariant in
    let fixed = damaged-end c.step.new.session found c.in-Some.end same c.in-Some.ensures.end in
    damaged-on c.loop-end.session found (g.T.Store.files c.args.store.now) (g.T.Store.files c.loop-end.store) was.moved.reads was.plans (was.damaged found) (c.step.ensures.damaged found fixed)

pub returns-in-Some-clause-gets : goal.returns-in-Some-clause-gets
returns-in-Some-clause-gets g c = λ files told.
    let was = c.loop-end.invariant in
    let told_now = same-files (g.T.Store.files c.args.store.now) (g.T.Store.files c.loop-end.store) files told was.moved.reads in
    let first = g.T.Store.gets c.args.store.now in
    let now = g.T.Store.gets c.loop-end.store in
    let next = g.T.Store.gets c.step.new.store in
    steps_both (λ (start wire : Wire). GetsSince files first start c.loop-end.session now wire) (GetsOn files first now next c.loop-end.session c.step.new.session) (GetsForRead files first next) (λ start a b so_far on. ends-gets files first next start b c.step.new.session (on start so_far)) (g.L.Link.wire c.args.link.now) (g.L.Link.wire c.loop-end.link) (g.L.Link.wire c.step.new.link) (was.gets files told) (c.step.ensures.gets files told_now first)
