-- Bytes that are the head of a request (RFC 9112, sections 2 and 3) and nothing else.
use Rattle.std.specs.Prelude.{ℕ, ◌≤◌, List, [], length, map}
use Rattle.httparse.specs.Grammar.{RequestHead, ReadsRequest}
use Rattle.httparse.specs.Spans.{name_and_value}

-- the bytes are this head, with no byte after it, and it has at most 64 fields
pub record IsHead (bytes : List ℕ) (head : RequestHead) : Type 0 where
  pub reads : ReadsRequest bytes head []
  pub fits : length head.fields ≤ 64

-- the name of each field and its value, without the white space around it
abbrev pub lines_of : RequestHead → List (List ℕ × List ℕ)
lines_of head = map name_and_value head.fields
