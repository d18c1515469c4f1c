use Rattle.std.proofs.Common.{◌+◌, ◌≤◌, length, vec_len, vec_capacity}
use Rattle.ept_slots.proofs.Layings.{IsHalf}
use Rattle.ept_slots.proofs.laying.lay_out.Given as goal

abbrev pub invariant-loop-item : goal.invariant-loop-item
invariant-loop-item g l = IsHalf l.fn.items.items l.items.items l.slots.items × (length l.fn.items.items + 1 ≤ vec_capacity l.slots) × (length l.fn.items.items ≤ vec_capacity l.items)

abbrev pub decreases-loop-item : goal.decreases-loop-item
decreases-loop-item g l = vec_len l.items
