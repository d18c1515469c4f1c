use Rattle.std.proofs.Common.{◌≡◌, ◌-◌, ◌≤◌, length, take}
use Rattle.std.specs.Io.KnownBytes.{Consumes}
use Rattle.ept_real.proofs.reading.fill.Given as goal

abbrev pub invariant-loop-filled : goal.invariant-loop-filled
invariant-loop-filled g l = record {
  fits : l.filled ≤ length l.into;
  room : length l.into ≡ length l.initial.into;
  consumed : Consumes (g.F.Read.remaining l.initial.reader) (g.F.Read.remaining l.reader) (take l.filled l.into);
}

abbrev pub decreases-loop-filled : goal.decreases-loop-filled
decreases-loop-filled g l = length l.into - l.filled
