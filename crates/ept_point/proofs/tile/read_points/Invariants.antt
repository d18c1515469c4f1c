use Rattle.std.proofs.Common.{◌+◌, ◌/◌, ◌≤◌, length, vec_len, vec_capacity}
use Rattle.ept_point.specs.Layout.{width_of}
use Rattle.ept_point.proofs.TileLaws.{IsReadTo}
use Rattle.ept_point.proofs.tile.read_points.Given as goal

abbrev pub invariant-loop-rest : goal.invariant-loop-rest
invariant-loop-rest l =
    IsReadTo l.layout l.bytes l.rest l.fn.out.items l.out.items l.last l.at
    × (vec_len l.out + length l.rest / width_of l.layout ≤ vec_capacity l.out)

abbrev pub decreases-loop-rest : goal.decreases-loop-rest
decreases-loop-rest l = length l.rest
