-- When each refusal is returned, without the chain of checks. Each law is a clause of a function of `laws`.
use Rattle.std.specs.Prelude.{ℕ, ◌≡◌, ◌≤◌, ◌<◌, ◌^◌, ◌↔◌, List, length, true, false, Some, None, IsSome, Ok, Err, codes}
use Rattle.serde_json.specs.Data.{Data}
use Rattle.serde_json.specs.Find.{get, as_object}
use Rattle.ept_config_text.specs.declared.config_key.ConfigKey.TheVariants as key
use Rattle.ept_config_text.specs.declared.config_error.ConfigError.TheVariants as error
use Rattle.ept_json.specs.Document.{document}
use Rattle.ept_config_text.specs.Json.{has_only}
use Rattle.ept_config.specs.Facts.{Facts}
use Rattle.ept_config_text.specs.Configuration.{top_keys, settings, reading}

-- a text that is not too long is this JSON value
pub record IsTextOf (bytes : List ℕ) (d : Data) : Type 0 where
  pub short : length bytes ≤ 2 ^ 24
  pub is_document : document bytes ≡ Some d

-- and the value is an object, each key of which is one of a configuration's
pub record HoldsKeys (bytes : List ℕ) (d : Data) : Type 0 where
  pub is_text : IsTextOf bytes d
  pub is_object : IsSome (as_object d)
  pub known : has_only top_keys d ≡ true

abbrev pub LongWhereLonger : Type 0
LongWhereLonger = (bytes : List ℕ) → (reading bytes ≡ Err error.Long) ↔ (2 ^ 24 < length bytes)

abbrev pub JsonWhereNoValue : Type 0
JsonWhereNoValue = (bytes : List ℕ) → (reading bytes ≡ Err error.Json) ↔ ((length bytes ≤ 2 ^ 24) × (document bytes ≡ None))

abbrev pub TopWhereNoObject : Type 0
TopWhereNoObject = (bytes : List ℕ) → (reading bytes ≡ Err (error.Kind key.Top)) ↔ ((d : Data) × IsTextOf bytes d × (as_object d ≡ None))

abbrev pub UnknownWhereAnotherKey : Type 0
UnknownWhereAnotherKey =
    (bytes : List ℕ) → (reading bytes ≡ Err error.Unknown) ↔ ((d : Data) × IsTextOf bytes d × IsSome (as_object d) × (has_only top_keys d ≡ false))

abbrev pub MissesInputWhereAbsent : Type 0
MissesInputWhereAbsent = (bytes : List ℕ) → (reading bytes ≡ Err (error.Missing key.Input)) ↔ ((d : Data) × HoldsKeys bytes d × (get (codes "input") d ≡ None))

abbrev pub MissesScaleWhereAbsent : Type 0
MissesScaleWhereAbsent =
    (bytes : List ℕ)
    → (reading bytes ≡ Err (error.Missing key.Scale)) ↔ ((d : Data) × HoldsKeys bytes d × IsSome (get (codes "input") d) × (get (codes "scale") d ≡ None))

-- all else is accepted, and fewer nodes are kept in memory than there are threads
abbrev pub ThreadsWhereFewerNodes : Type 0
ThreadsWhereFewerNodes =
    (bytes : List ℕ)
    → (reading bytes ≡ Err error.Threads) ↔ ((d : Data) × (read : Facts) × HoldsKeys bytes d × (settings d ≡ Ok read) × (read.cache < read.threads))

-- if a text is accepted, the number of nodes in memory is at least the number of threads
abbrev pub AcceptedHasEnoughNodes : Type 0
AcceptedHasEnoughNodes = (bytes : List ℕ) (read : Facts) → reading bytes ≡ Ok read → read.threads ≤ read.cache
