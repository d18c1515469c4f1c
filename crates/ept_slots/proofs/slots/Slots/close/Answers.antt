use Rattle.std.proofs.Common.{◌≡◌, ℕ, ◌+◌, List, length, subst, arith}
use Rattle.std.specs.List.{sum_by}
use Rattle.std.specs.Slots.{slots_items, slots_len, slots_counts}
use Rattle.ept_slots.specs.Seating.{key_of, Ended}
use Rattle.ept_slots.proofs.Ends.{closes, at-get}
use Rattle.ept_slots.proofs.Layings.{laid-same}
use Rattle.ept_slots.proofs.slots.Slots.close.Goals as goal

pub gather-requires-clause-laid : goal.gather-requires-clause-laid
gather-requires-clause-laid g c = let end = closes _ _ _ _ c.args.seat.id c.args.seat.me.0 _ _ c.requires.idle.0 c.requires.idle.1 c.close_with-closed.ensures.values.2 in let row = c.close_with-closed.result.slots in
    let long : length (slots_items row) ≡ length end.items + 1 = end.laid.long in let counts : slots_len row ≡ length (slots_items row) = (slots_counts row).0 in
    let all : slots_len row ≡ c.args.self.table.shared.table_id.slots = c.close_with-closed.ensures.counts.1 in let size : c.args.self.table.shared.table_id.slots ≡ c.args.self.count + 1 = c.args.self.sized.1 in
    (end.items, end.laid, omega arith)

pub returns-clause-ended : goal.returns-clause-ended
returns-clause-ended g c = let end = closes _ _ _ _ c.args.seat.id c.args.seat.me.0 _ _ c.requires.idle.0 c.requires.idle.1 c.close_with-closed.ensures.values.2 in
    let same = laid-same end.items c.gather.result.items (slots_items c.close_with-closed.result.slots) end.laid c.gather.ensures in let drawn = at-get (slots_items c.close_with-closed.result.words) 0 c.word-drawn.result 0 c.word-drawn.ensures in
    subst (λ (p : ℕ × List g.row.T.Denot). Ended (g.R.SlotRule.holds (key_of c.args.self)) (g.R.SlotRule.most (key_of c.args.self)) c.args.seat.id c.args.seat.me.0 p.0 p.1) (λ i. (drawn i, same i)) end.ended

pub returns-clause-permits : goal.returns-clause-permits
returns-clause-permits g c = let end = closes _ _ _ _ c.args.seat.id c.args.seat.me.0 _ _ c.requires.idle.0 c.requires.idle.1 c.close_with-closed.ensures.values.2 in
    let same = laid-same end.items c.gather.result.items (slots_items c.close_with-closed.result.slots) end.laid c.gather.ensures in let free = at-get (slots_items c.close_with-closed.result.words) 1 c.word-free.result 0 c.word-free.ensures in
    subst (λ (p : ℕ × List g.row.T.Denot). p.0 + c.args.seat.me.0.permits + sum_by g.R.SlotRule.weight p.1 ≡ g.R.SlotRule.permits (key_of c.args.self)) (λ i. (free i, same i)) end.permits
