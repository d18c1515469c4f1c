use Rattle.ept_scan.proofs.OneScan.{file_once}
use Rattle.ept_scan.proofs.laws.file_once_law.Goals as goal

pub returns : goal.returns
returns c = file_once
