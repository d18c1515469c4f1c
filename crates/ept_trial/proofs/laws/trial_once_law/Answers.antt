use Rattle.ept_trial.proofs.Once.{trial-one}
use Rattle.ept_trial.proofs.laws.trial_once_law.Goals as goal

pub returns : goal.returns
returns c = trial-one c.packed_once_law.ensures.once
