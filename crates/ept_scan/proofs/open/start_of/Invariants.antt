use Rattle.std.proofs.Common.{◌≡◌, ◌+◌, take}
use Rattle.ept_config.specs.Counts.{total}
use Rattle.ept_scan.proofs.open.start_of.Given as goal

abbrev pub invariant-loop-index : goal.invariant-loop-index
invariant-loop-index l = total (take l.index l.counts) + l.passed ≡ l.drawn
