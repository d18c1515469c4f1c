use Rattle.ept_point.proofs.PackedLaws.{packed_within_bounds}
use Rattle.ept_point.proofs.laws.packed_bounds_law.Goals as goal

pub returns : goal.returns
returns c = record { within = packed_within_bounds }
