use Rattle.std.proofs.Common.{◌∙◌, inl, refl, sym, subst, Option}
use Rattle.ept_base.specs.Causes.{Rose}
use Rattle.ept_conn.specs.Works.{IsDamagedIn}
use Rattle.ept_conn.specs.Conversation.{GoesOn}
use Rattle.ept_conn.proofs.Falling.{work-falls}
use Rattle.ept_conn.proofs.Conversing.{steps-same, tells-of, rose-earlier, rose-later, work-converses, written-cause, written-rank, hand-plan, written-hand, written-undamaged}
use Rattle.ept_base.specs.Files.{Files}
use Rattle.ept_conn.specs.Got.{GetsOn}
use Rattle.ept_conn.specs.Works.{GetsIn}
use Rattle.ept_conn.proofs.Getting.{work-gets}
use Rattle.ept_conn.proofs.serve.step.Goals as goal

pub returns-in-Work-clause-converses : goal.returns-in-Work-clause-converses
returns-in-Work-clause-converses g c = λ files told served is before up.
    let now = g.T.Store.faults c.args.store.now in
    let after = g.T.Store.faults c.work.new.store in
    steps-same (GoesOn served (Rose before now) (Rose before after) c.args.session.now c.work.new.self) (g.L.Link.wire c.args.link.now) (g.L.Link.wire c.args.link.now) refl (λ wire start so_far.
    work-converses files served (Rose before now) (Rose before after) start wire c.args.session.now c.work.new.self is (λ rose. rose-later before now after rose c.work.ensures.later) so_far (sym c.want.ensures ∙ c.in-Work.is) c.work.ensures.closed
    (record {
      works = λ going planned. c.work.ensures.works going files told served is planned;
      plans = c.work.ensures.plans files told;
      found = λ going. c.work.ensures.found going files told;
      stops = c.work.ensures.stops;
      damaged = λ found fixed. tells-of (IsDamagedIn c.args.session.now.hand found) (g.T.Store.files c.args.store.now) files told (c.work.ensures.damaged found fixed);
      stores = λ fixed. rose-earlier before now after up (c.work.ensures.stores fixed);
    }))

pub returns-in-Work-clause-falls : goal.returns-in-Work-clause-falls
returns-in-Work-clause-falls g c =
    work-falls c.args.session.now c.work.new.self (sym c.want.ensures ∙ c.in-Work.is) c.work.ensures.closed c.work.ensures.one_step

pub returns-in-Write-clause-falls : goal.returns-in-Write-clause-falls
returns-in-Write-clause-falls g c =
    written-rank c.args.session.now c.write_out.new.session _ _ (sym c.want.ensures ∙ c.in-Write.is) c.write_out.ensures.state

pub returns-in-Write-clause-links : goal.returns-in-Write-clause-links
returns-in-Write-clause-links g c =
    written-cause c.args.session.now c.write_out.new.session (g.L.Link.faults c.args.link.now) (g.L.Link.faults c.write_out.new.link) c.write_out.ensures.later c.write_out.ensures.state

pub returns-in-Read-clause-plans : goal.returns-in-Read-clause-plans
returns-in-Read-clause-plans g c = λ files told has. hand-plan files c.args.session.now.hand c.read_piece.new.session.hand c.read_piece.ensures.hand has

pub returns-in-Write-clause-plans : goal.returns-in-Write-clause-plans
returns-in-Write-clause-plans g c = λ files told has.
    hand-plan files c.args.session.now.hand c.write_out.new.session.hand (written-hand c.args.session.now c.write_out.new.session _ _ c.write_out.ensures.state) has

pub returns-in-Write-clause-damaged : goal.returns-in-Write-clause-damaged
returns-in-Write-clause-damaged g c = λ found fixed.
    inl (written-undamaged c.args.session.now c.write_out.new.session _ _ found c.write_out.ensures.state fixed)

pub returns-in-Work-clause-gets : goal.returns-in-Work-clause-gets
returns-in-Work-clause-gets g c = λ files told first.
    let now = g.T.Store.gets c.args.store.now in
    let next = g.T.Store.gets c.work.new.store in
    steps-same (GetsOn files first now next c.args.session.now c.work.new.self) (g.L.Link.wire c.args.link.now) (g.L.Link.wire c.args.link.now) refl (λ wire.
    work-gets files first now next c.args.session.now c.work.new.self wire (sym c.want.ensures ∙ c.in-Work.is) c.work.ensures.one_step (subst (λ (o : Option Files). GetsIn c.args.session.now.hand now next o) told c.work.ensures.gets) (c.work.ensures.plans files told))

pub returns-in-Read-clause-gets : goal.returns-in-Read-clause-gets
returns-in-Read-clause-gets g c = λ files told first. c.read_piece.ensures.gets files first (g.T.Store.gets c.args.store.now)

pub returns-in-Write-clause-gets : goal.returns-in-Write-clause-gets
returns-in-Write-clause-gets g c = λ files told first. c.write_out.ensures.gets files first (g.T.Store.gets c.args.store.now)

pub returns-in-End-clause-gets : goal.returns-in-End-clause-gets
returns-in-End-clause-gets g c = λ files told first.
    let now = g.T.Store.gets c.args.store.now in
    steps-same (GetsOn files first now now c.args.session.now c.args.session.now) (g.L.Link.wire c.args.link.now) (g.L.Link.wire c.args.link.now) refl (λ wire start since. since)
