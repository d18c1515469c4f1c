use Rattle.std.proofs.Common.{take}
use Rattle.ept_check.specs.Walking.{HaveNewIds}
use Rattle.ept_check.proofs.ids.Ids.has_none_of.Given as goal

abbrev pub invariant-loop-point : goal.invariant-loop-point
invariant-loop-point l = HaveNewIds l.self (take l.point-index l.points)
