use Rattle.ept_las.proofs.RecordLaws.{record_once}
use Rattle.ept_las.proofs.laws.record_once_law.Goals as goal

pub returns : goal.returns
returns c = record { once = record_once }
