use Rattle.std.proofs.Common.{◌≡◌, map}
use Rattle.std.specs.Map.Iter.{deref_pair}
use Rattle.ept_core.specs.State.{tile_of}
use Rattle.ept_core.proofs.engine.Core.tiles.Given as goal

abbrev pub invariant-loop-key : goal.invariant-loop-key
invariant-loop-key l = l.tiles.items ≡ map tile_of (map deref_pair l.yielded)
