-- Bytes under names, as a list of pairs.
use Rattle.std.specs.Prelude.{ℕ, List, [], ◌∷◌, Some, None, Vec, String, string_bytes, bytes_eq, if◌then◌else◌}
use Rattle.std.specs.declared.alloc.Global.{Global}
use Rattle.ept_base.specs.Files.{Files}

-- the bytes of the first pair with this name
abbrev pub content_of : List (String Global × Vec ℕ Global) → Files
content_of [] name = None
content_of (file ∷ others) name = if bytes_eq (string_bytes file.0) name then Some file.1.items else content_of others name
