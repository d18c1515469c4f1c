use Rattle.std.proofs.Common.{◌≡◌, ◌+◌, ◌-◌, ◌≤◌, length, take}
use Rattle.std.specs.Io.KnownBytes.{Consumes}
use Rattle.ept_base.proofs.loops.read_full.Given as goal

abbrev pub invariant-loop-filled : goal.invariant-loop-filled
invariant-loop-filled g l = record {
  fits : l.filled ≤ length l.into;
  consumed : Consumes (g.S.Source.left l.initial.source) (g.S.Source.left l.source) (take l.filled l.into);
  given : g.S.Source.given l.source ≤ g.S.Source.given l.initial.source + l.filled;
  same : g.S.Source.whole l.source ≡ g.S.Source.whole l.initial.source;
  later : g.S.Source.faults l.initial.source ≤ g.S.Source.faults l.source;
}

abbrev pub decreases-loop-filled : goal.decreases-loop-filled
decreases-loop-filled g l = length l.into - l.filled
