use Rattle.std.proofs.Common.{◌∙◌, sym}
use Rattle.ept_core.proofs.EffectLaws.{flights_below-none, flights_below-more}
use Rattle.ept_core.proofs.arrival.sending.Goals as goal

pub loop-which-init : goal.loop-which-init
loop-which-init c =
    c.new-flights.ensures.items ∙ sym (flights_below-none c.args.actor c.args.rules.now c.args.key.now c.args.losers.now c.args.opened.now)

pub loop-which-preserved : goal.loop-which-preserved
loop-which-preserved c =
    c.in_ok-append.ensures.items
    ∙ (flights_below-more c.args.actor c.args.rules.now c.args.key.now c.args.losers.now c.args.opened.now c.loop-which.which c.loop-which.flights.items c.in_ok-more.more.items c.loop-which.invariant c.in_ok-more.ensures.sent)
