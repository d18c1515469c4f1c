use Rattle.std.proofs.Common.{◌≡◌, ◌++◌, take, vec_len}
use Rattle.ept_point.specs.Packed.{tile}
use Rattle.ept_point.proofs.tile.tile_bytes.Given as goal

abbrev pub invariant-loop-point : goal.invariant-loop-point
invariant-loop-point l =
    (l.kept ≡ vec_len l.fn.out) × (l.out.items ≡ l.fn.out.items ++ tile (take l.point-index l.points))
