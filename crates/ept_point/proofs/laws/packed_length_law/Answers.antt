use Rattle.ept_point.proofs.PackedLaws.{length-packed}
use Rattle.ept_point.proofs.laws.packed_length_law.Goals as goal

pub returns : goal.returns
returns c = record { length = length-packed }
