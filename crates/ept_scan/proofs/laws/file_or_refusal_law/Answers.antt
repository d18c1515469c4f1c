use Rattle.ept_scan.proofs.OneScan.{file_or_refusal}
use Rattle.ept_scan.proofs.laws.file_or_refusal_law.Goals as goal

pub returns : goal.returns
returns c = file_or_refusal
