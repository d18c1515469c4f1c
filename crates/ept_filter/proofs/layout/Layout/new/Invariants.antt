use Rattle.std.proofs.Common.{◌≡◌, ℕ, ◌+◌, ◌≤◌, length, get_or}
use Rattle.ept_filter.specs.Dims.{count_of_dims}
use Rattle.ept_filter.specs.Layout.{start_of}
use Rattle.ept_filter.proofs.layout.Layout.new.Given as goal

abbrev pub invariant-loop-dim : goal.invariant-loop-dim
invariant-loop-dim l = (length l.starts ≡ count_of_dims + 1) × ((k : ℕ) → k ≤ l.dim → get_or l.starts k 0 ≡ start_of k)
