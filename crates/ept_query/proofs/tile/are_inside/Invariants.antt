use Rattle.std.proofs.Common.{◌≡◌, take}
use Rattle.ept_query.specs.Parts.{points_in}
use Rattle.ept_query.proofs.tile.are_inside.Given as goal

abbrev pub invariant-loop-point : goal.invariant-loop-point
invariant-loop-point l = points_in l.area (take l.point-index l.points) ≡ take l.point-index l.points
