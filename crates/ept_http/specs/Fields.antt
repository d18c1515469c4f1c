-- The fields of a head, each a name and a value (RFC 9110, section 5).
use Rattle.std.specs.Prelude.{ℕ, List, [], ◌∷◌, Bool, ◌||◌, ◌&&◌, not, ◌==◌, if◌then◌else◌, length, map, codes, nat_lt}
use Rattle.std.specs.List.{list_any, slice_split}
use Rattle.std.specs.Str.{bytes_eq}
use Rattle.std.specs.Char.{to_ascii_lowercase}
use Rattle.httparse.specs.Grammar.{trim_ows}

-- two names are the same, whatever the case of their ASCII letters
abbrev pub same_name : List ℕ → List ℕ → Bool
same_name a b = bytes_eq (map to_ascii_lowercase a) (map to_ascii_lowercase b)

-- the values of the fields with a name, in their order
abbrev pub values_of : List ℕ → List (List ℕ × List ℕ) → List (List ℕ)
values_of name [] = []
values_of name (line ∷ lines) =
    if same_name line.0 name then line.1 ∷ values_of name lines else values_of name lines

-- the members of a list value: the texts between its commas (RFC 9110, section 5.6.1)
abbrev pub members : List ℕ → List (List ℕ)
members value = slice_split (λ b. b == 44) value

-- a member, without spaces and tabs around it, is `close` (RFC 9112, section 9.6)
abbrev pub is_close : List ℕ → Bool
is_close member = same_name (trim_ows member) (codes "close")

-- some `Connection` field has the member `close`
unfoldable pub has_close : List (List ℕ × List ℕ) → Bool
has_close lines = list_any (λ value. list_any is_close (members value)) (values_of (codes "Connection") lines)

-- A head is faulty if it announces a body, or does not name its host exactly once. It has a `Transfer-Encoding` or a
-- `Content-Length` other than `0`, or the version is 1.1 and there is not exactly one `Host`.
unfoldable pub is_faulty : ℕ → List (List ℕ × List ℕ) → Bool
is_faulty minor lines =
    nat_lt 0 (length (values_of (codes "Transfer-Encoding") lines))
    || list_any (λ value. not (bytes_eq value (codes "0"))) (values_of (codes "Content-Length") lines)
    || (minor == 1 && not (length (values_of (codes "Host") lines) == 1))
