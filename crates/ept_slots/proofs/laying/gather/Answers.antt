use Rattle.std.proofs.Common.{◌≡◌, ℕ, ◌+◌, ◌<◌, ◌≤◌, [], ◌∷◌, ◌++◌, length, vec_capacity, get_or, false, sym, subst, ◌∙◌, ap, arith, length-append, ⊎_elim}
use Rattle.std.proofs.lemmas.Bool.{cases_lt}
use Rattle.std.proofs.lemmas.List.{append_assoc, append-nil}
use Rattle.std.specs.Slots.{slots_items, slots_filled, slots_len, slots_counts}
use mathlib.Core.Option.{some}
use lib.ListN.{get_elem?}
use Rattle.ept_slots.specs.Laid.{IsLaid}
use Rattle.ept_slots.proofs.Hands.{same-spare, same-item}
use Rattle.ept_slots.proofs.Layings.{last-is, next-is, one-more, no-items, place-emptied, place-kept}
use Rattle.ept_slots.proofs.laying.gather.Goals as goal

pub into_spare-items-requires : goal.into_spare-items-requires
into_spare-items-requires g c = let l = c.requires.laid.1 in (l.list, last-is c.requires.laid.0 (slots_items c.args.closed.slots) l c.args.count c.take.result c.requires.laid.2 c.take.ensures.value)

pub loop-i-init : goal.loop-i-init
loop-i-init g c = let all = c.requires.laid.0 in let l = c.requires.laid.1 in let row = c.args.closed.slots in let did = c.take.ensures.others in let n : length all ≡ c.args.count = c.requires.laid.2 in
    let is = same-spare c.take.result l.list c.into_spare-items.result (last-is all (slots_items row) l c.args.count c.take.result n c.take.ensures.value) c.into_spare-items.ensures in
    let none : c.into_spare-items.result.items ≡ [] = ap (λ v. v.items) (sym is) ∙ l.empty in let cap : length all ≤ vec_capacity c.into_spare-items.result = subst (λ v. length all ≤ vec_capacity v) is l.room in
    let wide : slots_len row ≡ length (slots_items row) = (slots_counts row).0 in let long : length (slots_items row) ≡ length all + 1 = l.long in let flags = (slots_counts row).1 in (
      all,
      subst (λ items. IsLaid (items ++ all) (slots_items row)) (sym none) l,
      ap length none,
      omega arith,
      omega arith,
      did.0,
      did.2 ∙ omega arith,
      (λ k _ less. place-kept _ _ c.args.count k did.1 (λ e. omega arith) ∙ c.requires.full k (omega arith) (omega arith)),
      (λ k less. absurd (omega arith)),
      place-emptied _ _ c.args.count did.1 (omega arith),
    )

pub into_item-requires : goal.into_item-requires
into_item-requires g c = let i = c.loop-i.invariant in let at = subst (λ slots. get_elem? slots c.loop-i.i ≡ some c.take-in-loop-i.result) i.5 c.take-in-loop-i.ensures.value in
    let next = next-is c.loop-i.items.items i.0 (slots_items c.args.closed.slots) i.1 c.loop-i.i c.args.count c.take-in-loop-i.result i.2 i.3 c.loop-i-test.true at in (next.0, next.3)

pub loop-i-preserved : goal.loop-i-preserved
loop-i-preserved g c = let i = c.loop-i.invariant in let at = subst (λ slots. get_elem? slots c.loop-i.i ≡ some c.take-in-loop-i.result) i.5 c.take-in-loop-i.ensures.value in let did = c.take-in-loop-i.ensures.others in
    let next = next-is c.loop-i.items.items i.0 (slots_items c.args.closed.slots) i.1 c.loop-i.i c.args.count c.take-in-loop-i.result i.2 i.3 c.loop-i-test.true at in let before = c.loop-i.items.items in let ys = next.1 in
    let is = same-item c.take-in-loop-i.result next.0 c.into_item.result next.3 c.into_item.ensures in let k0 : ℕ = c.loop-i.i in let less : k0 < c.args.count = c.loop-i-test.true in
    let order : before ++ i.0 ≡ c.put.new.list.items ++ ys = ap (λ z. before ++ z) next.2 ∙ (ap (λ y. before ++ y ∷ ys) is ∙ (sym (append_assoc before (c.into_item.result ∷ []) ys) ∙ ap (λ z. z ++ ys) (sym c.put.ensures.items))) in
    let more = one-more i.0 next.0 ys next.2 in let n : length before ≡ k0 = i.2 in let sum : k0 + length i.0 ≡ c.args.count = i.3 in let cap : c.args.count ≤ vec_capacity c.loop-i.items = i.4 in let room : vec_capacity c.loop-i.items ≤ vec_capacity c.put.new.list = c.put.ensures.room in
    let long : length c.put.new.list.items ≡ length before + 1 = ap length c.put.ensures.items ∙ length-append before (c.into_item.result ∷ []) in let wide : slots_len c.loop-i.closed.slots ≡ c.args.count + 1 = i.6 in let flags = (slots_counts c.loop-i.closed.slots).1 in (
      ys,
      subst (λ z. IsLaid z (slots_items c.args.closed.slots)) order i.1,
      omega arith,
      omega arith,
      omega arith,
      did.0 ∙ i.5,
      did.2 ∙ i.6,
      (λ k le lt. place-kept _ _ k0 k did.1 (λ e. omega arith) ∙ i.7 k (omega arith) lt),
      (λ k lt. ⊎_elim (λ low. place-kept _ _ k0 k did.1 (λ e. omega arith) ∙ i.8 k low) (λ high. let e : k ≡ k0 = omega arith in subst (λ (z : ℕ). get_or (slots_filled c.take-in-loop-i.new.self.slots) z false ≡ false) (sym e) (place-emptied _ _ k0 did.1 (omega arith))) (cases_lt k k0)),
      place-kept _ _ k0 c.args.count did.1 (λ e. omega arith) ∙ i.9,
    )

pub returns : goal.returns
returns g c = let i = c.loop-i.invariant in let over : c.args.count ≤ c.loop-i.i = c.loop-i-test.false in let sum : c.loop-i.i + length i.0 ≡ c.args.count = i.3 in let far : c.loop-i.i ≤ c.args.count = c.loop-i.auto.i-end in
    subst (λ z. IsLaid z (slots_items c.args.closed.slots)) (ap (λ z. c.loop-i.items.items ++ z) (no-items i.0 (omega arith)) ∙ append-nil c.loop-i.items.items) i.1
