use Rattle.ept_las.proofs.HeaderLaws.{header_once}
use Rattle.ept_las.proofs.laws.header_once_law.Goals as goal

pub returns : goal.returns
returns c = record { once = header_once }
