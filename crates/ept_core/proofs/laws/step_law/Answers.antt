use Rattle.ept_core.proofs.CoreLaws.{step-keeps, run-keeps}
use Rattle.ept_core.proofs.laws.step_law.Goals as goal

pub returns-clause-step : goal.returns-clause-step
returns-clause-step c = step-keeps

pub returns-clause-run : goal.returns-clause-run
returns-clause-run c = run-keeps
