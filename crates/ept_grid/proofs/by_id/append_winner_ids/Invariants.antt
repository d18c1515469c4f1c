use Rattle.std.proofs.Common.{◌≡◌, ◌+◌, ◌≤◌, ◌++◌, length, take, vec_len, vec_capacity}
use Rattle.std.specs.Prelude.{map}
use Rattle.ept_grid.specs.Settling.{winners}
use Rattle.ept_grid.proofs.by_id.append_winner_ids.Given as goal

abbrev pub invariant-loop-cell : goal.invariant-loop-cell
invariant-loop-cell l = record {
  points : map (λ e. e.1.now) l.out.items ≡ map (λ e. e.1.now) l.fn.out.items ++ winners (take l.cell-index l.cells);
  room : vec_len l.out + length l.cells ≤ vec_capacity l.out + l.cell-index;
}
