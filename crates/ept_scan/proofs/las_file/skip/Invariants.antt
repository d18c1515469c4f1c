use Rattle.std.proofs.Common.{◌≡◌, ◌≤◌, ◌+◌, ◌-◌, max, length}
use Rattle.std.specs.Io.KnownBytes.{prepend_known}
use Rattle.ept_scan.specs.Reach.{Skips}
use Rattle.ept_scan.proofs.las_file.skip.Given as goal

abbrev pub invariant-loop-rest : goal.invariant-loop-rest
invariant-loop-rest g l = record {
  part : l.rest ≤ l.fn.count;
  skips : Skips (prepend_known l.initial.window (g.S.Source.left l.initial.source)) (prepend_known l.window (g.S.Source.left l.source)) (l.fn.count - l.rest);
  upper : length l.window ≤ max (length l.initial.window - (l.fn.count - l.rest)) l.rest;
  lower : length l.initial.window ≤ length l.window + (l.fn.count - l.rest);
  gained : g.S.Source.given l.source + length l.initial.window ≤ g.S.Source.given l.initial.source + length l.window + (l.fn.count - l.rest);
  same : g.S.Source.whole l.source ≡ g.S.Source.whole l.initial.source;
  later : g.S.Source.faults l.initial.source ≤ g.S.Source.faults l.source;
}

abbrev pub decreases-loop-rest : goal.decreases-loop-rest
decreases-loop-rest g l = l.rest
