use Rattle.ept_scan.proofs.Scanned.{scan_placed}
use Rattle.ept_scan.proofs.laws.placed_law.Goals as goal

pub returns : goal.returns
returns c = λ all scale limits inputs. scan_placed all scale inputs limits
