use Rattle.std.proofs.Common.{◌≡◌, ℕ, ◌<◌, length}
use Rattle.std.specs.Prelude.{slice_index}
use Rattle.ept_grid.specs.Outgoing.{points_at}
use Rattle.ept_grid.specs.Contents.{HasLaneRoom}
use Rattle.ept_grid.proofs.reserving.make_lanes.Given as goal

abbrev pub invariant-loop-octant : goal.invariant-loop-octant
invariant-loop-octant l = record {
  lanes : (o : ℕ) → o < l.octant → HasLaneRoom l.mask o (slice_index l.counts o) l.losers l.out;
  losers : (o : ℕ) → points_at l.losers o ≡ points_at l.initial.losers o;
  points : (o : ℕ) → points_at l.out o ≡ points_at l.initial.out o;
  eight : length l.losers ≡ length l.initial.losers;
  out_eight : length l.out ≡ length l.initial.out;
}
