use Rattle.std.proofs.Common.{◌≡◌, ◌+◌, ◌%◌, ◌^◌, take}
use Rattle.std.specs.Prelude.{sum_by}
use Rattle.ept_trial.proofs.tallying.with_bytes.Given as goal

abbrev pub invariant-loop-byte : goal.invariant-loop-byte
invariant-loop-byte l = l.total ≡ (l.fn.sum + sum_by (λ byte. byte) (take l.byte-index l.bytes)) % 2 ^ 64
