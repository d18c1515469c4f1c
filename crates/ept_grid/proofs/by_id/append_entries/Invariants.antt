use Rattle.std.proofs.Common.{◌≡◌, ◌+◌, ◌≤◌, ◌++◌, length, take, vec_len, vec_capacity}
use Rattle.std.specs.Prelude.{map}
use Rattle.ept_grid.proofs.by_id.append_entries.Given as goal

abbrev pub invariant-loop-entry : goal.invariant-loop-entry
invariant-loop-entry l = record {
  points : l.out.items ≡ l.fn.out.items ++ map (λ e. e.1.now) (take l.entry-index l.entries);
  room : vec_len l.out + length l.entries ≤ vec_capacity l.out + l.entry-index;
}
