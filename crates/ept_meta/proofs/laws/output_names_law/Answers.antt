use Rattle.ept_meta.proofs.NamesDiffer.{name-outside}
use Rattle.ept_meta.proofs.OutputNames.{have-names, stand-once, names-grow}
use Rattle.ept_meta.proofs.laws.output_names_law.Goals as goal

pub returns-clause-outside : goal.returns-clause-outside
returns-clause-outside c = name-outside

pub returns-clause-names : goal.returns-clause-names
returns-clause-names c = have-names

pub returns-clause-once : goal.returns-clause-once
returns-clause-once c = stand-once

pub returns-clause-grow : goal.returns-clause-grow
returns-clause-grow c = names-grow
