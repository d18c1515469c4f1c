use Rattle.std.proofs.Common.{◌≤◌, length}
use Rattle.ept_base.proofs.Runs.{WrittenSoFar}
use Rattle.ept_base.proofs.loops.write_full.Given as goal

abbrev pub invariant-loop-rest : goal.invariant-loop-rest
invariant-loop-rest g l = record {
  written : WrittenSoFar (g.O.Sink.written l.initial.out) (g.O.Sink.written l.out) l.from l.rest;
  later : g.O.Sink.faults l.initial.out ≤ g.O.Sink.faults l.out;
}

abbrev pub decreases-loop-rest : goal.decreases-loop-rest
decreases-loop-rest g l = length l.rest
