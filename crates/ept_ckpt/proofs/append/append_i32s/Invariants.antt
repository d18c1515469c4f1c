use Rattle.std.proofs.Common.{◌≡◌, ◌++◌, take}
use Rattle.ept_ckpt.specs.Body.{i32_bytes}
use Rattle.ept_ckpt.proofs.append.append_i32s.Given as goal

abbrev pub invariant-loop-number : goal.invariant-loop-number
invariant-loop-number l = l.out.items ≡ l.initial.out.items ++ i32_bytes (take l.number-index l.numbers)
