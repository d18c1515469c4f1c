use Rattle.ept_las.proofs.RecordLaws.{identity_in_units}
use Rattle.ept_las.proofs.laws.identity_shift_law.Goals as goal

pub returns : goal.returns
returns c = record { fits = identity_in_units }
