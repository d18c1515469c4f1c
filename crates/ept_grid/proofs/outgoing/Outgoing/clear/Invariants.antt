use Rattle.std.proofs.Common.{◌≡◌, ℕ, ◌<◌, ◌≤◌, length, []}
use Rattle.ept_grid.specs.Outgoing.{points_at, leaving_at}
use Rattle.ept_grid.proofs.outgoing.Outgoing.clear.Given as goal

abbrev pub invariant-loop-lane : goal.invariant-loop-lane
invariant-loop-lane l = record {
  len : length l.lane-items ≡ length l.initial.lane-items;
  cleared : (o : ℕ) → o < l.lane-index → points_at l.lane-items o ≡ [];
  room : (o : ℕ) → (leaving_at l.initial.lane-items o).room ≤ (leaving_at l.lane-items o).room;
}
