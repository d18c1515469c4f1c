use Rattle.ept_scan.proofs.ChangedInput.{changed_input}
use Rattle.ept_scan.proofs.laws.changed_law.Goals as goal

pub returns : goal.returns
returns c = changed_input
