use Rattle.std.proofs.Common.{◌≡◌, map}
use Rattle.std.specs.Map.Iter.{deref_pair}
use Rattle.ept_octree.specs.Index.{Site}
use Rattle.ept_octree.proofs.octree.Octree.keys.Given as goal

abbrev pub invariant-loop-key : goal.invariant-loop-key
invariant-loop-key g l = l.keys.items ≡ map (λ (s : Site). s.0) (map deref_pair l.yielded)
