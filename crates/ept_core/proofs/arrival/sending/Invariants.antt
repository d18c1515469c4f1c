use Rattle.std.proofs.Common.{◌≡◌}
use Rattle.ept_core.specs.Effects.{flights_below}
use Rattle.ept_core.proofs.arrival.sending.Given as goal

abbrev pub invariant-loop-which : goal.invariant-loop-which
invariant-loop-which l = l.flights.items ≡ flights_below l.actor l.rules l.key l.losers l.opened l.which
