use Rattle.std.proofs.Common.{◌≡◌, take}
use Rattle.ept_config.proofs.copies.copy_of_inputs.Given as goal

abbrev pub invariant-loop-input : goal.invariant-loop-input
invariant-loop-input l = l.copy.items ≡ take l.input-index l.items
