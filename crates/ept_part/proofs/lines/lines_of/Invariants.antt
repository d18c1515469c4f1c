use Rattle.std.proofs.Common.{◌≡◌, map}
use Rattle.std.specs.Map.Iter.{deref_pair}
use Rattle.ept_octree_ckpt.specs.Saving.{AreKnown}
use Rattle.ept_part.specs.Filling.{line_for}
use Rattle.ept_part.proofs.lines.lines_of.Given as goal

abbrev pub invariant-loop-key : goal.invariant-loop-key
invariant-loop-key l = record {
  lines : l.lines.items ≡ map line_for (map deref_pair l.yielded);
  known : AreKnown (map deref_pair l.yielded);
}
