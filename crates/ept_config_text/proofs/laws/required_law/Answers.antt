use Rattle.ept_config_text.proofs.RefusalLaws.{misses_input_where_absent, misses_scale_where_absent}
use Rattle.ept_config_text.proofs.laws.required_law.Goals as goal

pub returns-clause-input : goal.returns-clause-input
returns-clause-input c = misses_input_where_absent

pub returns-clause-scale : goal.returns-clause-scale
returns-clause-scale c = misses_scale_where_absent
