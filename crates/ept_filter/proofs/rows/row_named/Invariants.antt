use Rattle.std.proofs.Common.{◌≢◌, ℕ, ◌<◌}
use Rattle.ept_filter.specs.Dims.{name_of}
use Rattle.ept_filter.proofs.rows.row_named.Given as goal

abbrev pub invariant-loop-dim : goal.invariant-loop-dim
invariant-loop-dim l = (k : ℕ) → k < l.dim → name_of k ≢ l.name
