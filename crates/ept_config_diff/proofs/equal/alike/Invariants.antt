use Rattle.std.proofs.Common.{length, ◌-◌, ◌≡◌, ◌≤◌, take}
use Rattle.ept_config_diff.proofs.equal.alike.Given as goal

abbrev pub invariant-loop-at : goal.invariant-loop-at
invariant-loop-at l = record {
  in_kept : l.at ≤ length l.kept;
  in_given : l.at ≤ length l.given;
  same : take l.at l.given ≡ take l.at l.kept;
}

abbrev pub decreases-loop-at : goal.decreases-loop-at
decreases-loop-at l = length l.kept - l.at
