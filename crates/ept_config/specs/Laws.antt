-- The facts leave nothing out.
use Rattle.std.specs.Prelude.{◌≡◌}
use Rattle.ept_config.specs.declared.input.Input.{Input}
use Rattle.ept_config.specs.declared.srs.Srs.{Srs}
use Rattle.ept_config.specs.declared.config.Config.{Config}
use Rattle.ept_config.specs.Facts.{input_facts, srs_facts, facts}

abbrev pub InputByFacts : Type 0
InputByFacts = (a b : Input) → input_facts a ≡ input_facts b → a ≡ b

abbrev pub ReferenceByFacts : Type 0
ReferenceByFacts = (a b : Srs) → srs_facts a ≡ srs_facts b → a ≡ b

abbrev pub ConfigByFacts : Type 0
ConfigByFacts = (a b : Config) → facts a ≡ facts b → a ≡ b
