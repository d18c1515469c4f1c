-- What a build file is read as.
use Rattle.std.specs.Prelude.{ℕ, ℤ, Bool, List, map, Option, option_map, option_and_then}
use Rattle.std.specs.Result.{result_ok}
use Rattle.ept_class.specs.ClassSet.{has_class}
use Rattle.ept_space.specs.declared.bounds.Bounds.{Bounds}
use Rattle.ept_json.specs.Document.{document}
use Rattle.ept_json.specs.declared.json_error.JsonError.{JsonError}
use Rattle.ept_json.specs.declared.json_error.JsonError.TheVariants as json
use Rattle.ept_config.specs.declared.kept.Kept.{Kept}
use Rattle.ept_config_text.specs.declared.config_error.ConfigError.{ConfigError}
use Rattle.ept_config_text.specs.declared.config_error.ConfigError.TheVariants as config
use Rattle.ept_config.specs.Facts.{Facts, InputFacts, SrsFacts, input_facts, srs_facts}
use Rattle.ept_config_text.specs.Configuration.{value_reading}
use Rattle.ept_meta.specs.declared.meta_error.MetaError.{MetaError}
use Rattle.ept_meta.specs.declared.meta_error.MetaError.TheVariants.{Form, Memory}

-- what an output depends on, as numbers and lists
pub record BuildFacts : Type 0 where
  pub scale : ℕ
  pub offset : List ℤ
  pub bounds : Bounds
  pub s : ℕ
  pub threshold : ℕ
  pub max_depth : ℕ
  pub step : ℕ
  pub srs : SrsFacts
  pub first : ℕ → Bool
  pub withheld_last : Bool
  pub inputs : List InputFacts

abbrev pub build_facts : Kept → BuildFacts
build_facts kept = record {
  scale = kept.scale;
  offset = kept.offset;
  bounds = kept.bounds;
  s = kept.s;
  threshold = kept.threshold;
  max_depth = kept.max_depth;
  step = kept.step;
  srs = srs_facts kept.srs;
  first = has_class kept.first;
  withheld_last = kept.withheld_last;
  inputs = map input_facts kept.inputs;
}

-- a configuration with these bounds, except how much of the machine it uses
abbrev pub within : Facts → Bounds → BuildFacts
within facts bounds = record {
  scale = facts.scale;
  offset = facts.offset;
  bounds = bounds;
  s = facts.s;
  threshold = facts.threshold;
  max_depth = facts.max_depth;
  step = facts.step;
  srs = facts.srs;
  first = facts.first;
  withheld_last = facts.withheld_last;
  inputs = facts.inputs;
}

-- a configuration with its bounds, if it has any
abbrev pub with_bounds : Facts → Option BuildFacts
with_bounds facts = option_map (within facts) facts.bounds

-- what bytes are read as: the text of a configuration with bounds
unfoldable pub told : List ℕ → Option BuildFacts
told bytes = option_and_then (λ d. option_and_then with_bounds (result_ok (value_reading d))) (document bytes)

-- ---- the errors for the refusals of the readers

abbrev pub of_json : JsonError → MetaError
of_json json.NoText = Form
of_json json.Memory = Memory

abbrev pub of_config : ConfigError → MetaError
of_config config.Json = Form
of_config config.Unknown = Form
of_config (config.Missing key) = Form
of_config (config.Kind key) = Form
of_config (config.Range key) = Form
of_config config.Threads = Form
of_config config.Long = Form
of_config config.Memory = Memory
