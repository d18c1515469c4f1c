use Rattle.std.proofs.Common.{◌≡◌, ◌+◌, ◌≤◌, vec_len}
use Rattle.std.specs.Prelude.{vec_capacity}
use Rattle.ept_scan.proofs.Batches.{HasDrawn}
use Rattle.ept_scan.proofs.queue.Queue.next_points.Given as goal

abbrev pub invariant-loop : goal.invariant-loop
invariant-loop g l = record {
  drawn : HasDrawn g.S.Source.whole g.S.Source.left g.S.Source.given g.S.Source.faults l.initial.self l.initial.out.items l.self l.out.items l.counter;
  part : l.counter ≤ l.count;
  size : vec_len l.out ≡ l.kept + l.counter;
  room : l.kept + l.count ≤ vec_capacity l.out;
}
