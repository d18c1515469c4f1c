use Rattle.ept_scan.proofs.Ascending.{scan_numbered}
use Rattle.ept_scan.proofs.laws.numbered_law.Goals as goal

pub returns : goal.returns
returns c = scan_numbered
