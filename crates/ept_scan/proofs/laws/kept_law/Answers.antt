use Rattle.ept_scan.proofs.Scanned.{scan_kept}
use Rattle.ept_scan.proofs.laws.kept_law.Goals as goal

pub returns : goal.returns
returns c = λ all scale limits inputs. scan_kept all scale inputs limits
