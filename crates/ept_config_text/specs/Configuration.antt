-- What a text is read as: a configuration, or the refusal of the first check that fails.
use Rattle.std.specs.Prelude.{ℕ, ◌^◌, List, [], ◌∷◌, length, nat_le, is_some, Result, Ok}
use Rattle.std.specs.Option.{ok_or}
use Rattle.serde_json.specs.Data.{Data}
use Rattle.serde_json.specs.Find.{get, as_object}
use Rattle.ept_config_text.specs.declared.config_key.ConfigKey.TheVariants as key
use Rattle.ept_config_text.specs.declared.config_error.ConfigError.{ConfigError}
use Rattle.ept_config_text.specs.declared.config_error.ConfigError.TheVariants as error
use Rattle.ept_config_text.specs.Keys.{name_of}
use Rattle.ept_json.specs.Document.{document}
use Rattle.ept_config_text.specs.Json.{has_only}
use Rattle.ept_config_text.specs.Values.{natural, natural_at, span_at, offset_at, bounds_at, inputs, srs_at, first_classes_at, withheld_last_at}
use Rattle.ept_config.specs.Facts.{Facts}
use Rattle.ept_config_text.specs.Steps.{◌>>=◌, required, unless_refused}

-- the keys of a configuration
abbrev pub top_keys : List (List ℕ)
top_keys =
    name_of key.Input
    ∷ name_of key.Scale
    ∷ name_of key.Offset
    ∷ name_of key.Bounds
    ∷ name_of key.Span
    ∷ name_of key.MinNodeSize
    ∷ name_of key.MaxDepth
    ∷ name_of key.HierarchyStep
    ∷ name_of key.Srs
    ∷ name_of key.FirstClasses
    ∷ name_of key.WithheldLast
    ∷ name_of key.Threads
    ∷ name_of key.CacheSize
    ∷ name_of key.MaxNodes
    ∷ name_of key.Checkpoint
    ∷ []

-- how much of the machine may be used
pub record WorkFacts : Type 0 where
  pub threads : ℕ
  pub cache : ℕ
  pub max_nodes : ℕ
  pub checkpoint : ℕ

unfoldable pub work_at : Data → Result WorkFacts ConfigError
work_at d = do
  threads ← natural_at key.Threads 1 64 4 d
  cache ← natural_at key.CacheSize 1 (2 ^ 20) 64 d
  max_nodes ← natural_at key.MaxNodes 1 (2 ^ 20) 65536 d
  checkpoint ← natural_at key.Checkpoint 1 (2 ^ 40) 10000000 d
  Ok (record { threads = threads; cache = cache; max_nodes = max_nodes; checkpoint = checkpoint })

-- what the keys say, in the order of the keys: each value has its type and is in its range
unfoldable pub values : Data → Data → Data → Result Facts ConfigError
values input scale_value d = do
  scale ← natural key.Scale 0 9 scale_value
  list ← inputs scale input
  offset ← offset_at d
  bounds ← bounds_at d
  s ← span_at d
  threshold ← natural_at key.MinNodeSize 0 (2 ^ 31) 4096 d
  max_depth ← natural_at key.MaxDepth 0 32 32 d
  step ← natural_at key.HierarchyStep 0 32 0 d
  srs ← srs_at d
  first ← first_classes_at d
  withheld_last ← withheld_last_at d
  work ← work_at d
  Ok (record {
    scale = scale;
    offset = offset;
    bounds = bounds;
    s = s;
    threshold = threshold;
    max_depth = max_depth;
    step = step;
    srs = srs;
    first = first;
    withheld_last = withheld_last;
    inputs = list;
    threads = work.threads;
    cache = work.cache;
    max_nodes = work.max_nodes;
    checkpoint = work.checkpoint;
  })

-- the required keys are there
unfoldable pub settings : Data → Result Facts ConfigError
settings d = do
  input ← required key.Input (get (name_of key.Input) d)
  scale_value ← required key.Scale (get (name_of key.Scale) d)
  values input scale_value d

-- the number of nodes that are kept in memory is at least the number of threads
unfoldable pub object_reading : Data → Result Facts ConfigError
object_reading d = do
  config ← settings d
  _ ← unless_refused error.Threads (nat_le config.threads config.cache)
  Ok config

-- an object with known keys
unfoldable pub value_reading : Data → Result Facts ConfigError
value_reading d = do
  _ ← unless_refused (error.Kind key.Top) (is_some (as_object d))
  _ ← unless_refused error.Unknown (has_only top_keys d)
  object_reading d

-- the reading of a text of at most 16,777,216 bytes
unfoldable pub reading : List ℕ → Result Facts ConfigError
reading bytes = do
  _ ← unless_refused error.Long (nat_le (length bytes) (2 ^ 24))
  d ← ok_or (document bytes) error.Json
  value_reading d
