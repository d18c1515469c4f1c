-- What a refusal says.
use Rattle.std.specs.Prelude.{ℕ, List, Option, Some, None, codes}
use Rattle.ept_config_text.specs.declared.config_key.ConfigKey.{ConfigKey}
use Rattle.ept_config_text.specs.declared.config_error.ConfigError.{ConfigError}
use Rattle.ept_config_text.specs.declared.config_error.ConfigError.TheVariants.{Json, Unknown, Missing, Kind, Range, Threads, Long, Memory}
use Rattle.ept_json.specs.declared.json_error.JsonError.{JsonError}
use Rattle.ept_json.specs.declared.json_error.JsonError.TheVariants as json
use Rattle.ept_config_text.specs.Keys.{name_of}

-- what is returned if a text has no value
abbrev pub of_json : JsonError → ConfigError
of_json json.NoText = Json
of_json json.Memory = Memory

-- the number of the cause
abbrev pub code_of : ConfigError → ℕ
code_of Json = 1
code_of Unknown = 2
code_of (Missing key) = 3
code_of (Kind key) = 4
code_of (Range key) = 5
code_of Threads = 6
code_of Long = 7
code_of Memory = 8

-- the key that the refusal names
abbrev pub key_of : ConfigError → Option ConfigKey
key_of Json = None
key_of Unknown = None
key_of (Missing key) = Some key
key_of (Kind key) = Some key
key_of (Range key) = Some key
key_of Threads = None
key_of Long = None
key_of Memory = None

-- the name of this key, or a dash
abbrev pub key_text_of : ConfigError → List ℕ
key_text_of Json = codes "-"
key_text_of Unknown = codes "-"
key_text_of (Missing key) = name_of key
key_text_of (Kind key) = name_of key
key_text_of (Range key) = name_of key
key_text_of Threads = codes "-"
key_text_of Long = codes "-"
key_text_of Memory = codes "-"
