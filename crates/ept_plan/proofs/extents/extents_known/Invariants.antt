use Rattle.std.proofs.Common.{take}
use Rattle.std.specs.List.{All}
use Rattle.ept_ckpt.specs.Valid.{ExtentInRange}
use Rattle.ept_plan.proofs.extents.extents_known.Given as goal

abbrev pub invariant-loop-count : goal.invariant-loop-count
invariant-loop-count l = All ExtentInRange (take l.count-index l.counts)
