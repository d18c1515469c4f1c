use Rattle.ept_table.proofs.Beginning.{beginning-landed}
use Rattle.ept_table.proofs.Ending.{first-seat-holds, last-seat-tells, landed-sampling}
use Rattle.ept_table.proofs.laws.end_law.Goals as goal

pub returns-clause-first : goal.returns-clause-first
returns-clause-first c = first-seat-holds

pub returns-clause-beginning : goal.returns-clause-beginning
returns-clause-beginning c = beginning-landed

pub returns-clause-last : goal.returns-clause-last
returns-clause-last c = last-seat-tells

pub returns-clause-sampling : goal.returns-clause-sampling
returns-clause-sampling c = landed-sampling
