use Rattle.std.proofs.Common.{◌≡◌, ◌++◌}
use Rattle.ept_run.proofs.OctantList.{octants_below, text_below, separator_of}
use Rattle.ept_run.proofs.lines.append_octants.Given as goal

abbrev pub invariant-loop-octant : goal.invariant-loop-octant
invariant-loop-octant l = record {
  line : l.line.items ≡ l.initial.line.items ++ text_below l.octants l.octant;
  separator : l.separator ≡ separator_of (octants_below l.octants l.octant);
}
