use Rattle.ept_config.proofs.FactsTell.{input_same, srs_same, config_same}
use Rattle.ept_config.proofs.laws.facts_law.Goals as goal

pub returns-clause-input : goal.returns-clause-input
returns-clause-input c = input_same

pub returns-clause-reference : goal.returns-clause-reference
returns-clause-reference c = srs_same

pub returns-clause-config : goal.returns-clause-config
returns-clause-config c = config_same
