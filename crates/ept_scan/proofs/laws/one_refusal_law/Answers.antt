use Rattle.ept_scan.proofs.OneRefusal.{one_refusal}
use Rattle.ept_scan.proofs.laws.one_refusal_law.Goals as goal

pub returns : goal.returns
returns c = one_refusal
