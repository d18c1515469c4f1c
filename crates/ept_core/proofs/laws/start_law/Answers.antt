use Rattle.ept_core.proofs.CoreLaws.{begun-keeps}
use Rattle.ept_core.proofs.Resumed.{resumed-keeps}
use Rattle.ept_core.proofs.laws.start_law.Goals as goal

pub returns-clause-beginning : goal.returns-clause-beginning
returns-clause-beginning c = begun-keeps

pub returns-clause-resumed : goal.returns-clause-resumed
returns-clause-resumed c = resumed-keeps
