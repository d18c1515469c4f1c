-- The end of the head of a request (RFC 9112, section 2.1): after its first empty line.
use Rattle.std.specs.Prelude.{ℕ, ◌+◌, List, [], ◌∷◌, Bool, true, false, if◌then◌else◌, nat_eq, nat_le, length, take, Option, Some, None, codes}
use Rattle.std.specs.List.{starts_with}
use Rattle.std.specs.Option.{option_map}

-- a line end and an empty line
abbrev pub is_mark : List ℕ → Bool
is_mark bytes = starts_with nat_eq bytes (codes "\r\n\r\n")

-- the number of bytes up to the end of the first mark, if there is one
abbrev pub head_end : List ℕ → Option ℕ
head_end [] = None
head_end (b ∷ bytes) = if is_mark (b ∷ bytes) then Some 4 else option_map (λ n. n + 1) (head_end bytes)

-- what bytes begin with: a whole head of `len` bytes, 8,192 bytes in which no head ends, or fewer bytes
pub data Front : Type 0 where
  Whole : (len : ℕ) → Front
  Long : Front
  Short : Front

abbrev pub front_or : Option ℕ → Bool → Front
front_or (Some len) full = Whole len
front_or None true = Long
front_or None false = Short

unfoldable pub front : List ℕ → Front
front bytes = front_or (head_end (take 8192 bytes)) (nat_le 8192 (length bytes))
