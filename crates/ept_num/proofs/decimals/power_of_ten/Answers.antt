use Rattle.ept_num.proofs.DecimalLemmas.{power_some}
use Rattle.ept_num.proofs.decimals.power_of_ten.Goals as goal

pub returns-clause-some : goal.returns-clause-some
returns-clause-some c = rw (c.pow.ensures, c.from.ensures) (power_some c.args.places c.requires)
