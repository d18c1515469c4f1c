use Rattle.std.proofs.Common.{map}
use Rattle.std.specs.Map.Iter.{deref_pair}
use Rattle.ept_hier.specs.Objects.{member_at, AreTaken}
use Rattle.ept_hier.proofs.reader.entries_of.Given as goal

abbrev pub invariant-loop-name : goal.invariant-loop-name
invariant-loop-name l = AreTaken (map member_at (map deref_pair l.yielded)) l.counted l.entries.items
