use Rattle.ept_table.proofs.ResumedNodes.{resumed-landed}
use Rattle.ept_table.proofs.laws.resume_law.Goals as goal

pub returns : goal.returns
returns c = λ told used items nodes r is_told p. resumed-landed told used items nodes r is_told p
