use Rattle.std.proofs.Common.{◌≡◌, ◌<◌, ℕ, [], length, take, inl, sym, subst}
use Rattle.ept_base.specs.Causes.{Rose}
use Rattle.ept_base.specs.Links.{Wire, Reads, FailsToRead}
use Rattle.ept_base.proofs.Moving.{steps_weaker}
use Rattle.ept_conn.specs.Conversation.{GoesOn}
use Rattle.ept_conn.proofs.Falling.{fed-falls, failed-falls}
use Rattle.ept_conn.proofs.Conversing.{steps-with, tells-when, taken-none, read-converses, unread-converses, read-no-store, read-undamaged, read-hand}
use Rattle.ept_conn.specs.Got.{GetsOn}
use Rattle.ept_conn.proofs.Getting.{read-gets, unread-gets}
use Rattle.ept_conn.proofs.serve.read_piece.Goals as goal

pub returns-in-Ok-clause-converses : goal.returns-in-Ok-clause-converses
returns-in-Ok-clause-converses g c = λ served before after.
    let into = c.read.new.into in
    let n = c.in-Ok.count in
    let some : 0 < length into = subst (λ (k : ℕ). 0 < k) (sym c.read.auto.into) c.requires.room in
    let over = tells-when (take n into ≡ []) (λ (w : Wire). w.left ≡ []) (g.L.Link.wire c.read.new.self) (λ none. c.in-Ok.ensures.end (taken-none n into c.in-Ok.ensures.bound.0 none) some) in
    steps-with (Reads (take n into)) (GoesOn served (Rose before after) (Rose before after) c.args.session.now c.feed.new.self) (λ (w : Wire). take n into ≡ [] → w.left ≡ []) (g.L.Link.wire c.args.link.now) (g.L.Link.wire c.read.new.self) c.in-Ok.ensures.ok over (λ now next reads none start so_far.
    read-converses served (Rose before after) start now next c.args.session.now c.feed.new.self (take n into) so_far c.requires.wanted reads none c.feed.ensures)

pub returns-in-Ok-clause-falls : goal.returns-in-Ok-clause-falls
returns-in-Ok-clause-falls g c = fed-falls c.args.session.now c.feed.new.self _ c.requires.wanted c.feed.ensures

pub returns-in-Ok-clause-no_store : goal.returns-in-Ok-clause-no_store
returns-in-Ok-clause-no_store g c = read-no-store c.args.session.now c.feed.new.self _ c.requires.wanted c.feed.ensures

pub returns-in-Err-clause-converses : goal.returns-in-Err-clause-converses
returns-in-Err-clause-converses g c = λ served before after.
    steps_weaker FailsToRead (GoesOn served (Rose before after) (Rose before after) c.args.session.now c.fault.new.self) (λ now next fails start so_far.
    unread-converses served (Rose before after) start now next c.args.session.now c.fault.new.self so_far c.requires.wanted fails c.fault.ensures) (g.L.Link.wire c.args.link.now) (g.L.Link.wire c.read.new.self) c.in-Err.ensures.failed

pub returns-in-Err-clause-falls : goal.returns-in-Err-clause-falls
returns-in-Err-clause-falls g c = failed-falls c.args.session.now c.fault.new.self (inl c.requires.wanted) c.fault.ensures

pub returns-in-Ok-clause-undamaged : goal.returns-in-Ok-clause-undamaged
returns-in-Ok-clause-undamaged g c = λ found. read-undamaged c.args.session.now c.feed.new.self _ found c.requires.wanted c.feed.ensures

pub returns-in-Ok-clause-hand : goal.returns-in-Ok-clause-hand
returns-in-Ok-clause-hand g c = read-hand c.args.session.now c.feed.new.self _ c.feed.ensures

pub returns-in-Ok-clause-gets : goal.returns-in-Ok-clause-gets
returns-in-Ok-clause-gets g c = λ files first now.
    let piece = take c.in-Ok.count c.read.new.into in
    steps_weaker (Reads piece) (GetsOn files first now now c.args.session.now c.feed.new.self) (λ wire next reads. read-gets files first now c.args.session.now c.feed.new.self wire next piece c.requires.wanted c.feed.ensures reads) (g.L.Link.wire c.args.link.now) (g.L.Link.wire c.read.new.self) c.in-Ok.ensures.ok

pub returns-in-Err-clause-gets : goal.returns-in-Err-clause-gets
returns-in-Err-clause-gets g c = λ files first now.
    steps_weaker FailsToRead (GetsOn files first now now c.args.session.now c.fault.new.self) (λ wire next fails. unread-gets files first now c.args.session.now c.fault.new.self wire next fails c.fault.ensures) (g.L.Link.wire c.args.link.now) (g.L.Link.wire c.read.new.self) c.in-Err.ensures.failed
