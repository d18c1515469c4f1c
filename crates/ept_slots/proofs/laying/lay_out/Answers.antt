use Rattle.std.proofs.Common.{◌≡◌, ◌+◌, ◌≤◌, length, reverse, vec_len, vec_capacity, sym, subst, arith}
use Rattle.ept_slots.specs.Laid.{IsLaid}
use Rattle.ept_slots.proofs.Layings.{IsHalf, half-start, half-step, half-length, half-end, laid, no-items}
use Rattle.ept_slots.proofs.laying.lay_out.Goals as goal

pub loop-item-init : goal.loop-item-init
loop-item-init g c = let made = c.in-Ok.ensures in let rev = c.reverse.ensures in let all = c.args.items in let few : vec_len all ≤ vec_capacity all = all.ok.1 in let l : vec_len all ≡ length all.items = all.ok.0 in
    let cap : c.len.result + 1 ≤ vec_capacity c.in-Ok.slots = made.capacity in let n : c.len.result ≡ vec_len all = c.len.ensures in let same : vec_capacity c.reverse.new.self ≡ vec_capacity all = rev.capacity in (
      subst (λ items. IsHalf all.items items c.in-Ok.slots.items) (sym rev.items) (subst (IsHalf all.items (reverse all.items)) (sym made.items) (half-start all.items)),
      omega arith,
      omega arith,
    )

pub put-requires : goal.put-requires
put-requires g c = let i = c.loop-item.invariant in let was = half-length c.args.items.items c.loop-item.items.items c.loop-item.slots.items i.0 in let l : vec_len c.loop-item.slots ≡ length c.loop-item.slots.items = c.loop-item.slots.ok.0 in let m : vec_len c.loop-item.items ≡ length c.loop-item.items.items = c.loop-item.items.ok.0 in
    let cap : length c.args.items.items + 1 ≤ vec_capacity c.loop-item.slots = i.1 in omega arith

pub loop-item-preserved : goal.loop-item-preserved
loop-item-preserved g c = let i = c.loop-item.invariant in let popped = c.in-Some.ensures in let did = c.put.ensures in (
  subst (IsHalf c.args.items.items c.pop.new.self.items) (sym did.items) (half-step c.args.items.items c.pop.new.self.items c.in-Some.item c.loop-item.slots.items (subst (λ items. IsHalf c.args.items.items items c.loop-item.slots.items) popped.items i.0)),
  (let cap : length c.args.items.items + 1 ≤ vec_capacity c.loop-item.slots = i.1 in let more : vec_capacity c.loop-item.slots ≤ vec_capacity c.put.new.list = did.room in omega arith),
  (let cap : length c.args.items.items ≤ vec_capacity c.loop-item.items = i.2 in let same : vec_capacity c.pop.new.self ≡ vec_capacity c.loop-item.items = popped.capacity in omega arith),
)

pub put-requires-2 : goal.put-requires-2
put-requires-2 g c = let i = c.loop-item.invariant in let was = half-length c.args.items.items c.loop-item.items.items c.loop-item.slots.items i.0 in let l : vec_len c.loop-item.slots ≡ length c.loop-item.slots.items = c.loop-item.slots.ok.0 in let cap : length c.args.items.items + 1 ≤ vec_capacity c.loop-item.slots = i.1 in omega arith

pub returns-clause-laid : goal.returns-clause-laid
returns-clause-laid g c = let i = c.loop-item.invariant in let none = c.in_default-pop.ensures in let all = c.args.items.items in
    let m : vec_len c.loop-item.items ≡ length c.loop-item.items.items = c.loop-item.items.ok.0 in let n : vec_len c.pop.new.self ≡ length c.pop.new.self.items = c.pop.new.self.ok.0 in
    let before : vec_len c.loop-item.items ≡ 0 = none.cases.0 in let after : vec_len c.pop.new.self ≡ 0 = none.cases.1 in
    let over = no-items c.loop-item.items.items (omega arith) in let empty = no-items c.pop.new.self.items (omega arith) in
    let cap : length all ≤ vec_capacity c.loop-item.items = i.2 in let same : vec_capacity c.pop.new.self ≡ vec_capacity c.loop-item.items = none.capacity in
    subst (IsLaid all) (sym c.put-2.ensures.items) (laid all c.loop-item.slots.items c.pop.new.self (half-end all c.loop-item.slots.items (subst (λ items. IsHalf all items c.loop-item.slots.items) over i.0)) empty (omega arith))
