use Rattle.std.proofs.Common.{◌≡◌, ◌<◌, ℕ, map}
use Rattle.ept_grid.specs.Mask.{opened}
use Rattle.ept_parts.specs.Parts.{parts_with}
use Rattle.ept_merge.proofs.dividing.are_all_parts.Given as goal

abbrev pub invariant-loop-octant : goal.invariant-loop-octant
invariant-loop-octant l = (o : ℕ) → o < l.octant → parts_with o (map opened l.parts) ≡ 1
