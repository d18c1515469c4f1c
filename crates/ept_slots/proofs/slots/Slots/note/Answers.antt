use Rattle.std.proofs.Common.{rules, refl, ap, ◌∙◌}
use Rattle.ept_slots.proofs.Notings.{notes_seat}
use Rattle.ept_slots.proofs.Hands.{seat-is}
use Rattle.ept_slots.proofs.slots.Slots.note.Goals as goal

pub compare_exchange_with-requires : goal.compare_exchange_with-requires
compare_exchange_with-requires g c = (search rules, search rules, notes_seat _ _ _ _ g.M.Note.tells _ _ c.args.slot c.args.seat.now.me _ c.args.said c.requires.held.1 c.requires.rule)

pub returns-clause-seat : goal.returns-clause-seat
returns-clause-seat g c = let did = c.compare_exchange_with.ensures in let was = c.requires.seat in let told = did.2 c.args.said refl in
    let now = seat-is _ _ _ _ (ap (λ m. m.0) told.1) (ap (λ m. m.1) told.1) was.1 was.3 in ((did.0 ∙ was.0, now.0, was.2, now.1), did.1)

pub returns-clause-step : goal.returns-clause-step
returns-clause-step g c = let told = c.compare_exchange_with.ensures.2 c.args.said refl in (told.0, ap (λ m. m.0) told.1, told.2)
