use Rattle.std.proofs.Common.{rules, arith, refl, ap, ◌∙◌, ◌+◌, ◌<◌, ◌≡◌, subst, ◌∷◌}
use Rattle.ept_slots.proofs.Takings.{takes_slot}
use Rattle.ept_slots.proofs.Hands.{seat-is, hand-none, led, behind, in-hand, same-item}
use Rattle.ept_slots.specs.declared.slot.Slot.TheVariants.{Out}
use Rattle.ept_slots.specs.Views.{taken}
use Rattle.ept_slots.proofs.slots.Slots.try_take.Goals as goal

pub compare_exchange-found-requires : goal.compare_exchange-found-requires
compare_exchange-found-requires g c = let near : c.args.slot < c.args.self.now.count = c.requires.slot in let size : c.args.self.now.table.shared.table_id.slots ≡ c.args.self.now.count + 1 = c.args.self.now.sized.1 in
    (search rules, search rules, takes_slot _ _ _ _ g.M.Take.tells _ _ _ _ _ c.if-seen-eq-HELD.false (omega arith) c.requires.idle.0 c.requires.idle.1 c.requires.rule)

pub returns-then-found-seen-clause-seat : goal.returns-then-found-seen-clause-seat
returns-then-found-seen-clause-seat g c = let did = c.compare_exchange-found.ensures in let same = (did.2 c.args.slot refl).1 c.if-found-seen.true in let was = c.requires.seat in
    let now = seat-is _ _ _ _ (ap (λ m. m.0) same) (ap (λ m. m.1) same) was.1 was.3 in ((did.0 ∙ was.0, now.0, was.2, now.1), did.1)

pub returns-then-found-seen-clause-step : goal.returns-then-found-seen-clause-step
returns-then-found-seen-clause-step g c = ap (λ m. m.0) ((c.compare_exchange-found.ensures.2 c.args.slot refl).1 c.if-found-seen.true)

pub exchange-requires : goal.exchange-requires
exchange-requires g c = let did = c.compare_exchange-found.ensures in let hit = (did.2 c.args.slot refl).0 c.if-found-seen.false in (did.0 ∙ c.requires.seat.0, led _ _ _ _ (ap (λ m. m.1) hit.2))

pub into_item-requires : goal.into_item-requires
into_item-requires g c = let hit = (c.compare_exchange-found.ensures.2 c.args.slot refl).0 c.if-found-seen.false in (hit.0, in-hand _ _ _ _ _ _ c.exchange.ensures.2 (ap (λ m. m.1) hit.2))

pub returns-clause-seat : goal.returns-clause-seat
returns-clause-seat g c = let did = c.compare_exchange-found.ensures in let hit = (did.2 c.args.slot refl).0 c.if-found-seen.false in let out = c.exchange.ensures in let was = c.requires.seat in
    let now = seat-is _ _ _ _ (ap (λ m. m.0) out.3 ∙ ap (λ m. m.0) hit.2) (ap (λ m. m.1) out.3 ∙ ap (λ t. (c.args.slot, Out) ∷ t) (behind _ _ _ _ (ap (λ m. m.1) hit.2) ∙ (was.3 ∙ hand-none c.args.seat.now.me.0 c.requires.idle.0))) was.1 refl in
    ((out.0 ∙ (did.0 ∙ was.0), now.0, was.2, now.1), out.1 ∙ did.1)

pub returns-clause-step : goal.returns-clause-step
returns-clause-step g c = let hit = (c.compare_exchange-found.ensures.2 c.args.slot refl).0 c.if-found-seen.false in let out = c.exchange.ensures in
    let is = same-item c.exchange.result _ _ (in-hand _ _ _ _ _ _ out.2 (ap (λ m. m.1) hit.2)) c.into_item.ensures in
    (hit.1, ap (λ m. m.0) out.3 ∙ (ap (λ m. m.0) hit.2 ∙ ap (λ x. taken c.args.seat.now.me.0 c.args.slot x hit.1) is), subst (λ x. g.M.Take.tells c.args.seat.now.me.0 c.args.slot x hit.1) is hit.3)
