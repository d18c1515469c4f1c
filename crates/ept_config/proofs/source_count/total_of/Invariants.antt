use Rattle.std.proofs.Common.{◌≡◌, ◌*◌, ◌≤◌, take}
use Rattle.ept_config.specs.Counts.{total}
use Rattle.ept_config.proofs.source_count.total_of.Given as goal

abbrev pub invariant-loop-count : goal.invariant-loop-count
invariant-loop-count l = record {
  sum : l.sum ≡ total (take l.count-index l.counts);
  bound : l.sum ≤ 1099511627775 * l.count-index;
}
