use Rattle.ept_config_text.proofs.RefusalLaws.{long_where_longer, json_where_no_value}
use Rattle.ept_config_text.proofs.laws.text_law.Goals as goal

pub returns-clause-long : goal.returns-clause-long
returns-clause-long c = long_where_longer

pub returns-clause-json : goal.returns-clause-json
returns-clause-json c = json_where_no_value
