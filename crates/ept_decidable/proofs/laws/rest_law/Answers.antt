use Rattle.ept_decidable.proofs.Rest.{rest_known}
use Rattle.ept_decidable.proofs.laws.rest_law.Goals as goal

pub returns : goal.returns
returns g c = rest_known g.S.Source.whole
