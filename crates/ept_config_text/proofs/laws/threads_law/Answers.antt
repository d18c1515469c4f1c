use Rattle.ept_config_text.proofs.RefusalLaws.{threads_where_fewer_nodes, accepted_has_enough_nodes}
use Rattle.ept_config_text.proofs.laws.threads_law.Goals as goal

pub returns-clause-refused : goal.returns-clause-refused
returns-clause-refused c = threads_where_fewer_nodes

pub returns-clause-accepted : goal.returns-clause-accepted
returns-clause-accepted c = accepted_has_enough_nodes
