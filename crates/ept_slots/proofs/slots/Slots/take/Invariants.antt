use Rattle.std.proofs.Common.{◌≡◌}
use Rattle.ept_slots.specs.Seating.{IsSeatOf}
use Rattle.ept_slots.proofs.slots.Slots.take.Given as goal

abbrev pub invariant-loop : goal.invariant-loop
invariant-loop g l = (l.seat.id ≡ l.initial.seat.id) × (l.seat.me.0 ≡ l.initial.seat.me.0) × IsSeatOf g.R.SlotRule.most l.self l.seat
