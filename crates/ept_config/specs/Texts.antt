-- Which texts a configuration may have.
use Rattle.std.specs.Prelude.{ℕ, Bool, List, length, nat_le, ◌&&◌, ◌==◌, not}
use Rattle.std.specs.List.{list_all}
use Rattle.std.specs.Str.{is_utf8}

-- the byte is no control byte: it is neither below 32 nor 127
abbrev pub is_shown : ℕ → Bool
is_shown byte = nat_le 32 byte && not (byte == 127)

-- UTF-8 without control bytes
unfoldable pub is_plain : List ℕ → Bool
is_plain text = is_utf8 text && list_all is_shown text

-- the path of an input: such text, 1 to 4,096 bytes long
unfoldable pub is_path : List ℕ → Bool
is_path text = is_plain text && (nat_le 1 (length text) && nat_le (length text) 4096)

-- a text of the spatial reference: such text, at most 65,536 bytes long
unfoldable pub is_srs_text : List ℕ → Bool
is_srs_text text = is_plain text && nat_le (length text) 65536
