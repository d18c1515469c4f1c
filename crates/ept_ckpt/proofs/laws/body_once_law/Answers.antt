use Rattle.ept_ckpt.proofs.BothWays.{body_once}
use Rattle.ept_ckpt.proofs.FactsTell.{checkpoint_same}
use Rattle.ept_ckpt.proofs.laws.body_once_law.Goals as goal

pub returns-clause-once : goal.returns-clause-once
returns-clause-once c = body_once

pub returns-clause-facts : goal.returns-clause-facts
returns-clause-facts c = checkpoint_same
