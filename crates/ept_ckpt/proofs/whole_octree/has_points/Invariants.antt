use Rattle.std.proofs.Common.{◌≡◌, ◌+◌, take}
use Rattle.ept_ckpt.specs.Octree.{points_in}
use Rattle.ept_ckpt.proofs.whole_octree.has_points.Given as goal

abbrev pub invariant-loop-line : goal.invariant-loop-line
invariant-loop-line l = points_in (take l.line-index l.nodes) + l.left ≡ l.points
