use Rattle.std.proofs.Common.{◌≡◌, ◌≤◌, ◌+◌, ◌*◌, max, length}
use Rattle.std.specs.Io.KnownBytes.{prepend_known}
use Rattle.ept_scan.proofs.SoFar.{IsAtRecord, HasRead}
use Rattle.ept_scan.proofs.las_file.scan_records.Given as goal

abbrev pub invariant-loop-number : goal.invariant-loop-number
invariant-loop-number g l = record {
  place : IsAtRecord l.header (prepend_known l.initial.window (g.S.Source.left l.initial.source)) (prepend_known l.window (g.S.Source.left l.source)) l.number;
  read : HasRead l.reading l.header (prepend_known l.initial.window (g.S.Source.left l.initial.source)) l.number l.extent;
  reach : length l.window + l.header.length * l.number ≤ max (length l.initial.window) (l.header.length * l.header.points);
  gained : g.S.Source.given l.source + length l.initial.window ≤ g.S.Source.given l.initial.source + length l.window + l.header.length * l.number;
  same : g.S.Source.whole l.source ≡ g.S.Source.whole l.initial.source;
  later : g.S.Source.faults l.initial.source ≤ g.S.Source.faults l.source;
}
