use Rattle.ept_scan.proofs.OneScan.{scan_or_refusal}
use Rattle.ept_scan.proofs.laws.scan_or_refusal_law.Goals as goal

pub returns : goal.returns
returns c = scan_or_refusal
