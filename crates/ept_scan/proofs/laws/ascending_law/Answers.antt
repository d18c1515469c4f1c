use Rattle.ept_scan.proofs.Ascending.{scan_ascends, scan_distinct}
use Rattle.ept_scan.proofs.laws.ascending_law.Goals as goal

pub returns-clause-ascending : goal.returns-clause-ascending
returns-clause-ascending c = scan_ascends

pub returns-clause-distinct : goal.returns-clause-distinct
returns-clause-distinct c = scan_distinct
