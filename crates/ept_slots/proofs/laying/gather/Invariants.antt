use Rattle.std.proofs.Common.{◌≡◌, ℕ, ◌+◌, ◌<◌, ◌≤◌, false, List, ◌++◌, length, vec_capacity, get_or}
use Rattle.std.specs.Slots.{slots_items, slots_filled, slots_len}
use Rattle.std.specs.Slots.Ownership.{Filled}
use Rattle.ept_slots.specs.Laid.{IsLaid}
use Rattle.ept_slots.proofs.laying.gather.Given as goal

abbrev pub invariant-loop-i : goal.invariant-loop-i
invariant-loop-i g l = (rest : List g.row.T.Denot) × IsLaid (l.items.items ++ rest) (slots_items l.fn.closed.slots) × (length l.items.items ≡ l.i) × (l.i + length rest ≡ l.fn.count) × (l.fn.count ≤ vec_capacity l.items)
    × (slots_items l.closed.slots ≡ slots_items l.fn.closed.slots) × (slots_len l.closed.slots ≡ l.fn.count + 1) × Filled (slots_filled l.closed.slots) l.i l.fn.count × ((k : ℕ) → k < l.i → get_or (slots_filled l.closed.slots) k false ≡ false) × (get_or (slots_filled l.closed.slots) l.fn.count false ≡ false)
