use Rattle.ept_core.proofs.CoreLaws.{landed-sampled, landed-opens}
use Rattle.ept_core.proofs.laws.landed_law.Goals as goal

pub returns-clause-sampled : goal.returns-clause-sampled
returns-clause-sampled c = landed-sampled

pub returns-clause-opened : goal.returns-clause-opened
returns-clause-opened c = landed-opens
