use Rattle.std.proofs.Common.{◌≡◌, ◌≤◌, ℕ, vec_len, vec_capacity}
use Rattle.std.specs.List.{flat_map}
use Rattle.ept_sample.proofs.Parts.{numbers_below}
use Rattle.ept_grid.specs.Outgoing.{points_at}
use Rattle.ept_table.specs.Item.{cell_of}
use Rattle.ept_work.specs.Sending.{sent_to}
use Rattle.ept_work.proofs.sending.send_on.Given as goal

abbrev pub invariant-loop-octant : goal.invariant-loop-octant
invariant-loop-octant g l = record {
  same : (o : ℕ) → l.octant ≤ o → points_at l.out o ≡ points_at l.initial.out o;
  sent : l.fresh.items ≡ flat_map (sent_to l.actor (cell_of g.F.SpillFile.held l.node) l.initial.out) (numbers_below l.octant);
  room : 8 ≤ vec_capacity l.fresh;
  few : vec_len l.fresh ≤ l.octant;
}
