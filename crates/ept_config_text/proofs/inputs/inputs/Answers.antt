use Rattle.std.proofs.Common.{sym, ◌∙◌}
use Rattle.ept_config_text.proofs.Objects.{is_input-text}
use Rattle.ept_config_text.proofs.inputs.inputs.Goals as goal

pub one_input-requires-clause-kind : goal.one_input-requires-clause-kind
one_input-requires-clause-kind c = is_input-text _ (sym c.is_string.ensures ∙ c.if-is_string.true)
