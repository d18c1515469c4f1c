use Rattle.std.proofs.Common.{◌≡◌, ◌+◌, ◌≤◌, [], ◌∷◌, ◌++◌, map, length, reverse, vec_len, vec_capacity, sym, subst, ◌∙◌, ap, arith, length-append}
use Rattle.std.proofs.lemmas.List.{reverse-reverse, append_assoc, append-nil}
use Rattle.ept_slots.specs.Laid.{IsLaid}
use Rattle.ept_slots.proofs.Hands.{same-spare, same-item}
use Rattle.ept_slots.proofs.Layings.{here, unlaid, back-step, back-end, no-items, one-more}
use Rattle.ept_slots.proofs.laying.take_back.Goals as goal

pub into_spare-items-requires : goal.into_spare-items-requires
into_spare-items-requires g c = let l = subst (IsLaid c.requires.0) c.in-Some.ensures.items c.requires.1 in (l.list, (unlaid c.requires.0 c.pop-last.new.self.items c.in-Some.spare l).0)

pub loop-slot-init : goal.loop-slot-init
loop-slot-init g c = let all = c.requires.0 in let l = subst (IsLaid all) c.in-Some.ensures.items c.requires.1 in let un = unlaid all c.pop-last.new.self.items c.in-Some.spare l in
    let is = same-spare c.in-Some.spare l.list c.into_spare-items.result un.0 c.into_spare-items.ensures in let none : c.into_spare-items.result.items ≡ [] = ap (λ v. v.items) (sym is) ∙ l.empty in
    let cap : length all ≤ vec_capacity c.into_spare-items.result = subst (λ v. length all ≤ vec_capacity v) is l.room in (
      all,
      ap reverse c.reverse.ensures.items ∙ (reverse-reverse c.pop-last.new.self.items ∙ un.1),
      subst (λ items. IsLaid (items ++ all) c.args.slots.items) (sym none) c.requires.1,
      (let z : length c.into_spare-items.result.items ≡ 0 = ap length none in omega arith),
    )

pub into_item-requires : goal.into_item-requires
into_item-requires g c = let i = c.loop-slot.invariant in let step = back-step c.pop.new.self.items c.in-Some-pop.slot i.0 (subst (λ slots. reverse slots ≡ map here i.0) c.in-Some-pop.ensures.items i.1) in (step.0, step.3)

pub put-requires : goal.put-requires
put-requires g c = let i = c.loop-slot.invariant in let step = back-step c.pop.new.self.items c.in-Some-pop.slot i.0 (subst (λ slots. reverse slots ≡ map here i.0) c.in-Some-pop.ensures.items i.1) in
    let more = one-more i.0 step.0 step.1 step.2 in let l : vec_len c.loop-slot.items ≡ length c.loop-slot.items.items = c.loop-slot.items.ok.0 in let cap : length c.loop-slot.items.items + length i.0 ≤ vec_capacity c.loop-slot.items = i.3 in omega arith

pub loop-slot-preserved : goal.loop-slot-preserved
loop-slot-preserved g c = let i = c.loop-slot.invariant in let step = back-step c.pop.new.self.items c.in-Some-pop.slot i.0 (subst (λ slots. reverse slots ≡ map here i.0) c.in-Some-pop.ensures.items i.1) in
    let is = same-item c.in-Some-pop.slot step.0 c.into_item.result step.3 c.into_item.ensures in let before = c.loop-slot.items.items in let ys = step.1 in
    let order : before ++ i.0 ≡ c.put.new.list.items ++ ys = ap (λ z. before ++ z) step.2 ∙ (ap (λ y. before ++ y ∷ ys) is ∙ (sym (append_assoc before (c.into_item.result ∷ []) ys) ∙ ap (λ z. z ++ ys) (sym c.put.ensures.items))) in
    let more = one-more i.0 step.0 step.1 step.2 in let cap : length before + length i.0 ≤ vec_capacity c.loop-slot.items = i.3 in let room : vec_capacity c.loop-slot.items ≤ vec_capacity c.put.new.list = c.put.ensures.room in
    let long : length c.put.new.list.items ≡ length before + 1 = ap length c.put.ensures.items ∙ length-append before (c.into_item.result ∷ []) in (ys, step.4, subst (λ z. IsLaid z c.args.slots.items) order i.2, omega arith)

pub returns : goal.returns
returns g c = let i = c.loop-slot.invariant in let m : vec_len c.loop-slot.slots ≡ length c.loop-slot.slots.items = c.loop-slot.slots.ok.0 in let none : vec_len c.loop-slot.slots ≡ 0 = c.in_default-pop.ensures.cases.0 in
    let gone = no-items c.loop-slot.slots.items (omega arith) in let over = back-end i.0 (subst (λ slots. reverse slots ≡ map here i.0) gone i.1) in
    subst (λ z. IsLaid z c.args.slots.items) (ap (λ z. c.loop-slot.items.items ++ z) over ∙ append-nil c.loop-slot.items.items) i.2
