-- What the refusals of reading a configuration are passed on as.
use Rattle.ept_base.specs.declared.errors.GetError.{GetError}
use Rattle.ept_base.specs.declared.errors.GetError.TheVariants as get
use Rattle.ept_config_text.specs.declared.config_error.ConfigError.{ConfigError}
use Rattle.ept_config_text.specs.declared.config_error.ConfigError.TheVariants as config
use Rattle.ept_command.specs.declared.refusal.Refusal.{Refusal}
use Rattle.ept_command.specs.declared.refusal.Refusal.TheVariants.{BadConfiguration, SourceFault, Memory}

-- the refusals of a file that is opened and read
abbrev pub of_get : GetError → Refusal
of_get get.Failed = SourceFault
of_get get.Memory = Memory

-- the refusals of a configuration
abbrev pub of_config : ConfigError → Refusal
of_config config.Json = BadConfiguration config.Json
of_config config.Unknown = BadConfiguration config.Unknown
of_config (config.Missing key) = BadConfiguration (config.Missing key)
of_config (config.Kind key) = BadConfiguration (config.Kind key)
of_config (config.Range key) = BadConfiguration (config.Range key)
of_config config.Threads = BadConfiguration config.Threads
of_config config.Long = BadConfiguration config.Long
of_config config.Memory = Memory
