use Rattle.std.proofs.Common.{◌≡◌, ◌+◌, ◌-◌, ◌≤◌, length}
use Rattle.std.specs.Io.KnownBytes.{Consumes}
use Rattle.ept_command.proofs.files.read_up_to.Given as goal

abbrev pub invariant-loop-piece : goal.invariant-loop-piece
invariant-loop-piece g l = record {
  fits : length l.front.items ≤ l.most;
  consumed : Consumes (g.S.Source.left l.initial.source) (g.S.Source.left l.source) l.front.items;
  same : g.S.Source.whole l.source ≡ g.S.Source.whole l.initial.source;
  given : g.S.Source.given l.source ≤ g.S.Source.given l.initial.source + length l.front.items;
  later : g.S.Source.faults l.initial.source ≤ g.S.Source.faults l.source;
}

abbrev pub decreases-loop-piece : goal.decreases-loop-piece
decreases-loop-piece g l = l.most - length l.front.items
