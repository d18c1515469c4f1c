use Rattle.std.proofs.Common.{◌≡◌, true, take}
use Rattle.ept_point.specs.declared.point.Point.{Point}
use Rattle.ept_sample.specs.Arrivals.{octant}
use Rattle.ept_sample.specs.Members.{IsMember}
use Rattle.ept_grid.specs.Mask.{opened}
use Rattle.ept_merge.proofs.tiles.are_of_part.Given as goal

abbrev pub invariant-loop-point : goal.invariant-loop-point
invariant-loop-point l = (q : Point) → IsMember q (take l.point-index l.points) → opened l.octants (octant l.rules 0 q) ≡ true
