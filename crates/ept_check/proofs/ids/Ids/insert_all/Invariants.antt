use Rattle.std.proofs.Common.{◌≡◌, ◌||◌, take}
use Rattle.ept_point.specs.declared.id.PointId.{PointId}
use Rattle.ept_check.specs.Walking.{has_id, is_of}
use Rattle.ept_check.proofs.ids.Ids.insert_all.Given as goal

abbrev pub invariant-loop-point : goal.invariant-loop-point
invariant-loop-point l = (q : PointId) → has_id l.self q ≡ (has_id l.fn.self q || is_of (take l.point-index l.points) q)
