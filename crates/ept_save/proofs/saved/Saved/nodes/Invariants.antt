use Rattle.std.proofs.Common.{◌≡◌, map}
use Rattle.std.specs.Map.Iter.{deref_pair}
use Rattle.ept_save.specs.Stored.{line_of}
use Rattle.ept_save.proofs.saved.Saved.nodes.Given as goal

abbrev pub invariant-loop-key : goal.invariant-loop-key
invariant-loop-key l = l.nodes.items ≡ map line_of (map deref_pair l.yielded)
