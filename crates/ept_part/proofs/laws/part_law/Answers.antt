use Rattle.ept_part.proofs.PartFiles.{own-names}
use Rattle.ept_part.proofs.PartNames.{leaves-build, parts-apart}
use Rattle.ept_part.proofs.laws.part_law.Goals as goal

pub returns-clause-build : goal.returns-clause-build
returns-clause-build c = leaves-build

pub returns-clause-apart : goal.returns-clause-apart
returns-clause-apart c = parts-apart

pub returns-clause-own : goal.returns-clause-own
returns-clause-own c = own-names
