use Rattle.std.proofs.Common.{◌∙◌, refl, sym}
use Rattle.ept_base.specs.Causes.{Rose}
use Rattle.ept_base.proofs.Moving.{steps_both}
use Rattle.ept_conn.specs.Conversation.{GoesOn}
use Rattle.ept_conn.specs.Got.{GetsOn}
use Rattle.ept_conn.proofs.Conversing.{steps-same, written-none, written-more, written-less, written-all}
use Rattle.ept_conn.proofs.serve.write_out.Goals as goal

pub loop-session-init : goal.loop-session-init
loop-session-init g c = record {
  converses = λ served before after. steps-same (GoesOn served (Rose before after) (Rose before after) c.args.session.now c.args.session.now) (g.L.Link.wire c.args.link.now) (g.L.Link.wire c.args.link.now) refl (λ now start so_far. so_far);
  gets = λ files first now. steps-same (GetsOn files first now now c.args.session.now c.args.session.now) (g.L.Link.wire c.args.link.now) (g.L.Link.wire c.args.link.now) refl (λ wire start since. since);
  state = written-none c.args.session.now (g.L.Link.faults c.args.link.now);
}

pub loop-session-smaller : goal.loop-session-smaller
loop-session-smaller g c =
    written-less c.loop-session.session c.write_some.new.session (g.L.Link.faults c.loop-session.link) (g.L.Link.faults c.write_some.new.link) (sym c.want.ensures ∙ c.in-Write.is) c.write_some.ensures.state

pub loop-session-preserved : goal.loop-session-preserved
loop-session-preserved g c = record {
  converses = λ served before after.
      let S = GoesOn served (Rose before after) (Rose before after) in
      steps_both (S c.args.session.now c.loop-session.session) (S c.loop-session.session c.write_some.new.session) (S c.args.session.now c.write_some.new.session) (λ a b d f h start so_far. h start (f start so_far)) (g.L.Link.wire c.args.link.now) (g.L.Link.wire c.loop-session.link) (g.L.Link.wire c.write_some.new.link) (c.loop-session.invariant.converses served before after) (c.write_some.ensures.converses served before after);
  gets = λ files first now.
      let S = GetsOn files first now now in
      steps_both (S c.args.session.now c.loop-session.session) (S c.loop-session.session c.write_some.new.session) (S c.args.session.now c.write_some.new.session) (λ a b d f h start since. h start (f start since)) (g.L.Link.wire c.args.link.now) (g.L.Link.wire c.loop-session.link) (g.L.Link.wire c.write_some.new.link) (c.loop-session.invariant.gets files first now) (c.write_some.ensures.gets files first now);
  state = written-more c.args.session.now c.loop-session.session c.write_some.new.session (g.L.Link.faults c.args.link.now) (g.L.Link.faults c.loop-session.link) (g.L.Link.faults c.write_some.new.link) c.loop-session.invariant.state c.write_some.ensures.later (sym c.want.ensures ∙ c.in-Write.is) c.write_some.ensures.state;
}

pub returns : goal.returns
returns g c = record {
  converses = c.loop-session.invariant.converses;
  gets = c.loop-session.invariant.gets;
  state = written-all c.args.session.now c.loop-session.session (g.L.Link.faults c.args.link.now) (g.L.Link.faults c.loop-session.link) c.loop-session.invariant.state (λ is. c.in_default.not-Write (c.want.ensures ∙ is));
  later = c.loop-session.invariant.state.later;
}
