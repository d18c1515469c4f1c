-- Checks one after another. Each returns a value, or the refusal that ends the reading.
use Rattle.std.specs.Prelude.{Bool, ⊤, Option, Result, Ok, Err, if◌then◌else◌}
use Rattle.std.specs.Option.{ok_or}
use Rattle.ept_config_text.specs.declared.config_key.ConfigKey.{ConfigKey}
use Rattle.ept_config_text.specs.declared.config_error.ConfigError.{ConfigError}
use Rattle.ept_config_text.specs.declared.config_error.ConfigError.TheVariants as error

-- the next check, if this one found a value
infixl 10 ◌>>=◌
abbrev pub ◌>>=◌ : {A B : Type 0} → Result A ConfigError → (A → Result B ConfigError) → Result B ConfigError
Ok x >>= next = next x
Err e >>= next = Err e

-- the value of a key, or the refusal for a wrong type
abbrev pub of_kind : {A : Type 0} → ConfigKey → Option A → Result A ConfigError
of_kind key o = ok_or o (error.Kind key)

-- the value of a key if it is in its range, otherwise the refusal
abbrev pub in_range : {A : Type 0} → ConfigKey → Option A → Result A ConfigError
in_range key o = ok_or o (error.Range key)

-- the value of a required key, or the refusal if it is missing
abbrev pub required : {A : Type 0} → ConfigKey → Option A → Result A ConfigError
required key o = ok_or o (error.Missing key)

-- nothing, if the test passes
abbrev pub unless_refused : ConfigError → Bool → Result ⊤ ConfigError
unless_refused e test = if test then Ok tt else Err e
