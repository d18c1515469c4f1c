use Rattle.ept_scan.proofs.OneScan.{one_cause}
use Rattle.ept_scan.proofs.laws.one_cause_law.Goals as goal

pub returns : goal.returns
returns c = one_cause
