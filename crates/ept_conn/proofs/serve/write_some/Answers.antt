use Rattle.std.proofs.Common.{ℕ, List, take, drop, refl, subst}
use Rattle.ept_base.specs.Causes.{Rose}
use Rattle.ept_base.specs.Links.{Writes}
use Rattle.ept_base.proofs.Moving.{steps_weaker}
use Rattle.ept_conn.specs.Conversation.{GoesOn}
use Rattle.ept_conn.proofs.Conversing.{steps-same, write-converses, unwritten-converses}
use Rattle.ept_conn.specs.Got.{GetsOn}
use Rattle.ept_conn.proofs.Getting.{write-gets, unwritten-gets}
use Rattle.ept_conn.proofs.serve.write_some.Goals as goal

pub returns-in-Ok-clause-converses : goal.returns-in-Ok-clause-converses
returns-in-Ok-clause-converses g c = λ served before after.
    let n = c.in-Ok.count in
    steps_weaker (Writes (take n c.out.result.now)) (GoesOn served (Rose before after) (Rose before after) c.args.session.now c.sent.new.self) (λ now next writes start so_far.
    write-converses served (Rose before after) start now next c.args.session.now c.sent.new.self n so_far c.requires
    (subst (λ (w : List ℕ). Writes (take n w) now next) c.out.ensures.bytes writes) c.sent.ensures) (g.L.Link.wire c.args.link.now) (g.L.Link.wire c.write.new.self) c.in-Ok.ensures.ok

pub returns-in-Err-clause-converses : goal.returns-in-Err-clause-converses
returns-in-Err-clause-converses g c = λ served before after.
    steps-same (GoesOn served (Rose before after) (Rose before after) c.args.session.now c.fault.new.self) (g.L.Link.wire c.args.link.now) (g.L.Link.wire c.write.new.self) c.in-Err.ensures.unchanged (λ now start so_far.
    unwritten-converses served (Rose before after) start now now c.args.session.now c.fault.new.self so_far refl c.fault.ensures)

pub returns-in-Ok-clause-gets : goal.returns-in-Ok-clause-gets
returns-in-Ok-clause-gets g c = λ files first now.
    let passed = take c.in-Ok.count c.out.result.now in
    steps_weaker (Writes passed) (GetsOn files first now now c.args.session.now c.sent.new.self) (λ wire next writes. write-gets files first now c.args.session.now c.sent.new.self wire next passed (drop c.in-Ok.count c.args.session.now.out) writes c.sent.ensures) (g.L.Link.wire c.args.link.now) (g.L.Link.wire c.write.new.self) c.in-Ok.ensures.ok

pub returns-in-Err-clause-gets : goal.returns-in-Err-clause-gets
returns-in-Err-clause-gets g c = λ files first now.
    steps-same (GetsOn files first now now c.args.session.now c.fault.new.self) (g.L.Link.wire c.args.link.now) (g.L.Link.wire c.write.new.self) c.in-Err.ensures.unchanged (λ wire. unwritten-gets files first now c.args.session.now c.fault.new.self wire c.fault.ensures)
