use Rattle.std.proofs.Common.{◌≡◌, ◌++◌, take}
use Rattle.ept_ckpt.specs.Body.{i64_bytes}
use Rattle.ept_ckpt.proofs.append.append_i64s.Given as goal

abbrev pub invariant-loop-number : goal.invariant-loop-number
invariant-loop-number l = l.out.items ≡ l.initial.out.items ++ i64_bytes (take l.number-index l.numbers)
