use Rattle.std.proofs.Common.{◌≡◌, ℕ, ◌+◌, ◌<◌, ◌++◌, take, drop, Bool, count_by}
use Rattle.ept_point.specs.declared.point.Point.{Point}
use Rattle.ept_sample.specs.Ids.{HasDistinctIds}
use Rattle.ept_grid.specs.Outgoing.{points_at, all_points}
use Rattle.ept_grid.specs.Node.{HasRoomFor, SendsOn}
use Rattle.ept_node.specs.Shown.{bare}
use Rattle.ept_node.specs.Batch.{HasTaken}
use Rattle.ept_node.proofs.batch.arrive_all.Given as goal

abbrev pub invariant-loop-point : goal.invariant-loop-point
invariant-loop-point l = record {
  key : l.grid.key ≡ l.initial.grid.key;
  rules : l.grid.rules ≡ l.initial.grid.rules;
  room : HasRoomFor l.grid l.out (drop l.point-index l.points);
  together : (test : Point → Bool) → count_by test l.grid.points + count_by test (all_points l.out) ≡ count_by test (take l.point-index l.points) + count_by test l.initial.grid.points + count_by test (all_points l.initial.out);
  sends_on : (o : ℕ) → o < 8 → SendsOn (bare l.initial.grid) (bare l.grid) o (points_at l.initial.out o) (points_at l.out o);
  taken : HasDistinctIds (l.points ++ l.initial.grid.points) → HasTaken (bare l.initial.grid) (bare l.grid) (take l.point-index l.points) l.initial.out l.out;
}
