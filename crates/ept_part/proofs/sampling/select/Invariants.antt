use Rattle.std.proofs.Common.{◌≡◌, ◌++◌, take}
use Rattle.ept_grid.specs.Mask.{opened}
use Rattle.ept_parts.specs.Parts.{part_of}
use Rattle.ept_part.proofs.sampling.select.Given as goal

abbrev pub invariant-loop-point : goal.invariant-loop-point
invariant-loop-point l = l.out.items ≡ l.initial.out.items ++ part_of l.rules (opened l.octants) (take l.point-index l.points)
