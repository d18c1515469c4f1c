use Rattle.ept_scan.proofs.OneScan.{scan_once}
use Rattle.ept_scan.proofs.laws.scan_once_law.Goals as goal

pub returns : goal.returns
returns c = scan_once
