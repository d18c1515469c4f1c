-- The value of a JSON text. `read` of `serde_json` is the value of UTF-8: if a name occurs twice in an object, it keeps
-- the last value.
use Rattle.std.specs.Prelude.{ℕ, List, if◌then◌else◌, Option, None}
use Rattle.std.specs.Str.{is_utf8}
use Rattle.serde_json.specs.Data.{Data}
use Rattle.serde_json.specs.Read.{read}

-- the value whose text the bytes are
unfoldable pub document : List ℕ → Option Data
document bytes = if is_utf8 bytes then read bytes else None
