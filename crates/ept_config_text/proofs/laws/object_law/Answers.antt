use Rattle.ept_config_text.proofs.RefusalLaws.{top_where_no_object, unknown_where_another_key}
use Rattle.ept_config_text.proofs.laws.object_law.Goals as goal

pub returns-clause-top : goal.returns-clause-top
returns-clause-top c = top_where_no_object

pub returns-clause-unknown : goal.returns-clause-unknown
returns-clause-unknown c = unknown_where_another_key
