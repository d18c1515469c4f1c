use Rattle.ept_scan.proofs.Ascending.{scan_origins}
use Rattle.ept_scan.proofs.laws.origin_law.Goals as goal

pub returns : goal.returns
returns c = scan_origins
