use Rattle.std.proofs.Common.{◌≡◌}
use Rattle.ept_trial.specs.Trials.{state}
use Rattle.ept_trial.proofs.scans.stepped.Given as goal

abbrev pub invariant-loop : goal.invariant-loop
invariant-loop l = l.at ≡ state l.fn.from l.counter
