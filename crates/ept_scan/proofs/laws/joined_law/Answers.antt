use Rattle.ept_scan.proofs.Joined.{scans_join, scan_front, scan_back}
use Rattle.ept_scan.proofs.laws.joined_law.Goals as goal

pub returns-clause-joined : goal.returns-clause-joined
returns-clause-joined c = scans_join

pub returns-clause-front : goal.returns-clause-front
returns-clause-front c = scan_front

pub returns-clause-back : goal.returns-clause-back
returns-clause-back c = scan_back
