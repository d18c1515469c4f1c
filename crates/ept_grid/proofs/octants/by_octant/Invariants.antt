use Rattle.std.proofs.Common.{◌≡◌, ℕ, ◌<◌, length, take}
use Rattle.std.specs.Prelude.{slice_index}
use Rattle.ept_grid.specs.Node.{count_in}
use Rattle.ept_grid.proofs.octants.by_octant.Given as goal

abbrev pub invariant-loop-point : goal.invariant-loop-point
invariant-loop-point l = record {
  eight : length l.counts ≡ 8;
  counted : (o : ℕ) → o < 8 → slice_index l.counts o ≡ count_in l.rules l.depth o (take l.point-index l.points);
}
