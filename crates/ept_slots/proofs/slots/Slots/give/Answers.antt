use Rattle.std.proofs.Common.{rules, refl, ap, subst, ◌∙◌, ◌∷◌}
use Rattle.ept_slots.specs.declared.slot.Slot.TheVariants.{Here}
use Rattle.ept_slots.specs.Views.{permits_after, given}
use Rattle.ept_slots.proofs.Givings.{gives_seat}
use Rattle.ept_slots.proofs.Hands.{seat-is, hand-held, behind}
use Rattle.ept_slots.proofs.slots.Slots.give.Goals as goal

pub compare_exchange_with-requires : goal.compare_exchange_with-requires
compare_exchange_with-requires g c = let out = c.exchange.ensures in let hand = c.requires.seat.3 ∙ hand-held c.args.seat.now.me.0 c.args.slot c.requires.held.0 c.requires.held.1 in (
  search rules,
  search rules,
  gives_seat _ _ _ _ g.M.Give.tells _ c.args.seat.now.id _ c.args.slot c.free_word-free.result c.exchange.new.seat.me c.args.seat.now.me.0 _ c.args.item c.args.said out.1 (out.3 ∙ ap (λ t. (c.args.seat.now.me.0, (c.args.slot, Here c.args.item) ∷ t)) (behind _ _ _ _ hand)) c.free_word-free.ensures c.requires.held.1 c.requires.permits c.requires.rule,
)

pub returns-clause-seat : goal.returns-clause-seat
returns-clause-seat g c = let out = c.exchange.ensures in let did = c.compare_exchange_with.ensures in let was = c.requires.seat in let hand = was.3 ∙ hand-held c.args.seat.now.me.0 c.args.slot c.requires.held.0 c.requires.held.1 in
    let told = did.2 c.args.slot c.args.item c.args.said (ap (λ m. m.1) out.3 ∙ ap (λ t. (c.args.slot, Here c.args.item) ∷ t) (behind _ _ _ _ hand)) refl in
    let now = seat-is _ _ _ _ (ap (λ m. m.0) told.1) (ap (λ m. m.1) told.1) (ap (λ m. m.0.most) out.3 ∙ was.1) refl in ((did.0 ∙ (out.0 ∙ was.0), now.0, was.2, now.1), did.1 ∙ out.1)

pub returns-clause-step : goal.returns-clause-step
returns-clause-step g c = let out = c.exchange.ensures in let did = c.compare_exchange_with.ensures in let hand = c.requires.seat.3 ∙ hand-held c.args.seat.now.me.0 c.args.slot c.requires.held.0 c.requires.held.1 in
    let told = did.2 c.args.slot c.args.item c.args.said (ap (λ m. m.1) out.3 ∙ ap (λ t. (c.args.slot, Here c.args.item) ∷ t) (behind _ _ _ _ hand)) refl in let v = ap (λ m. m.0) out.3 in
    (told.0, ap (λ m. m.0) told.1 ∙ ap (λ v. given v (permits_after g.R.SlotRule.weight v c.args.item) told.0) v, subst (λ v. g.M.Give.tells v c.args.item c.args.said told.0) v told.2)
