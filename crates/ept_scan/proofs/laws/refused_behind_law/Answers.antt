use Rattle.ept_scan.proofs.Joined.{refused_behind}
use Rattle.ept_scan.proofs.laws.refused_behind_law.Goals as goal

pub returns : goal.returns
returns c = refused_behind
