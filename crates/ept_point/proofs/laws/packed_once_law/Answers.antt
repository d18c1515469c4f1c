use Rattle.ept_point.proofs.PackedLaws.{packed_one}
use Rattle.ept_point.proofs.laws.packed_once_law.Goals as goal

pub returns : goal.returns
returns c = record { once = packed_one }
