use Rattle.std.proofs.Common.{◌≡◌, ◌-◌, ◌≤◌, length, drop, vec_len, vec_capacity}
use Rattle.ept_sample.specs.Ids.{in_id_order}
use Rattle.ept_grid.proofs.by_id.placed_one_by_one.Given as goal

abbrev pub invariant-loop-done : goal.invariant-loop-done
invariant-loop-done l = record {
  placed : l.placed.items ≡ in_id_order (drop (length l.points - l.done) l.points);
  room : length l.points ≤ vec_capacity l.placed;
  len : vec_len l.placed ≡ l.done;
}
