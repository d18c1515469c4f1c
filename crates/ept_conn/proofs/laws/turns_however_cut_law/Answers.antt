use Rattle.ept_conn.proofs.TurnLemmas.{however-cut, all-given-due}
use Rattle.ept_conn.proofs.laws.turns_however_cut_law.Goals as goal

pub returns : goal.returns
returns c = record { cut = however-cut; all = all-given-due }
