use Rattle.std.proofs.Common.{◌≡◌, map, take}
use Rattle.ept_save.specs.Stored.{line_of}
use Rattle.ept_save.proofs.saved.fill.Given as goal

abbrev pub invariant-loop-line : goal.invariant-loop-line
invariant-loop-line l = map line_of l.lines.entries ≡ take l.line-index l.line-items
