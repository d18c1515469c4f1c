use Rattle.std.proofs.Common.{◌≡◌, ◌+◌, ◌≤◌, List, ◌++◌, map, reverse, length, vec_len, vec_capacity}
use Rattle.ept_slots.specs.Laid.{IsLaid}
use Rattle.ept_slots.proofs.Layings.{here}
use Rattle.ept_slots.proofs.laying.take_back.Given as goal

abbrev pub invariant-loop-slot : goal.invariant-loop-slot
invariant-loop-slot g l = (rest : List g.row.T.Denot) × (reverse l.slots.items ≡ map here rest) × IsLaid (l.items.items ++ rest) l.fn.slots.items × (length l.items.items + length rest ≤ vec_capacity l.items)

abbrev pub decreases-loop-slot : goal.decreases-loop-slot
decreases-loop-slot g l = vec_len l.slots
