use Rattle.std.proofs.Common.{◌≡◌, ◌+◌, ◌*◌, ◌++◌}
use Rattle.ept_trial.specs.Trials.{state}
use Rattle.ept_trial.specs.Scans.{header_bytes, first_records, records_of}
use Rattle.ept_trial.proofs.scans.scan_of.Given as goal

abbrev pub invariant-loop-number : goal.invariant-loop-number
invariant-loop-number l =
    (l.at ≡ state l.fn.count (3 * (4 * l.number + l.fn.input)))
    × (l.bytes.items ≡ header_bytes (records_of l.fn.count l.fn.input) ++ first_records l.fn.count l.fn.input l.number)
