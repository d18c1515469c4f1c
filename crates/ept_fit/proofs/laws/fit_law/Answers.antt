use Rattle.ept_fit.proofs.Fit.{fit-sampled}
use Rattle.ept_fit.proofs.Sampled.{sampled-are_fit}
use Rattle.ept_fit.proofs.laws.fit_law.Goals as goal

pub returns-clause-sampled : goal.returns-clause-sampled
returns-clause-sampled c = fit-sampled

pub returns-clause-fit : goal.returns-clause-fit
returns-clause-fit c = sampled-are_fit
