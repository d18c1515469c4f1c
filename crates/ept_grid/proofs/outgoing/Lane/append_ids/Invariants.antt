use Rattle.std.proofs.Common.{◌≡◌, ◌+◌, ◌≤◌, ◌++◌, length, take, vec_len, vec_capacity}
use Rattle.std.specs.Prelude.{map}
use Rattle.ept_grid.proofs.outgoing.Lane.append_ids.Given as goal

abbrev pub invariant-loop-point : goal.invariant-loop-point
invariant-loop-point l = record {
  points : map (λ e. e.1.now) l.out.items ≡ map (λ e. e.1.now) l.fn.out.items ++ take l.point-index l.points;
  room : vec_len l.out + length l.points ≤ vec_capacity l.out + l.point-index;
}
