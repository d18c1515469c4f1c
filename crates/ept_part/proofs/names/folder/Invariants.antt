use Rattle.std.proofs.Common.{◌≡◌}
use Rattle.std.specs.Prelude.{string_bytes}
use Rattle.ept_part.proofs.Digits.{name_below}
use Rattle.ept_part.proofs.names.folder.Given as goal

abbrev pub invariant-loop-octant : goal.invariant-loop-octant
invariant-loop-octant l = string_bytes l.name ≡ name_below l.octants l.octant
