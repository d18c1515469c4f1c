-- What a connection sends: the responses to its turns, one after the other (RFC 9112, sections 4, 6 and 7.1).
use Rattle.std.specs.Prelude.{◌≡◌, ℕ, List, [], ◌∷◌, ◌++◌, Bool, false, length, nat_eq, Option, Some, None, codes}
use Rattle.std.specs.List.{flat_map, ends_with}
use Rattle.std.specs.Fmt.{digits}
use Rattle.ept_base.specs.Files.{Files}
use Rattle.ept_space.specs.declared.box3.Box3.{Box3}
use Rattle.ept_hier.specs.Hierarchy.{Node}
use Rattle.ept_http.specs.declared.asked.Asked.{Asked}
use Rattle.ept_http.specs.declared.asked.Asked.TheVariants as asked
use Rattle.ept_http.specs.declared.answer.HeadKind.TheVariants as head
use Rattle.ept_http.specs.AnswerHead.{head_text}
use Rattle.ept_conn.specs.declared.turn.Turn.{Turn}
use Rattle.ept_conn.specs.Held.{fresh, fed}
use Rattle.ept_conn.specs.Turns.{AreDue}
use Rattle.ept_conn.specs.Wanted.{kept_of}

-- what is sent of a folder. `file` is the content of a file, if there is one. `plan` is the tiles of the plan of a
-- query, if there are queries. `part` is the packed points of a tile in an area.
pub record Served : Type 0 where
  pub files : Files
  pub file : List ℕ → Option (List ℕ)
  pub plan : Box3 → ℕ → ℕ → Option (List Node)
  pub part : Box3 → Node → List ℕ

-- a response without a body
abbrev pub refusal : ℕ → Bool → List ℕ
refusal status last = head_text (head.Refusal status last)

-- whether this is the name of a JSON text
abbrev pub is_json : List ℕ → Bool
is_json name = ends_with nat_eq name (codes ".json")

-- the response with a file: its head and its content, or status 404 if there is no file
abbrev pub file_answer : Bool → Bool → Option (List ℕ) → List ℕ
file_answer json last None = refusal 404 last
file_answer json last (Some content) = head_text (head.File json (length content) last) ++ content

-- bytes as a chunk: their number in lower-case hexadecimal, and the bytes. No bytes are no chunk.
abbrev pub chunk : List ℕ → List ℕ
chunk [] = []
chunk (b ∷ bytes) = digits 16 false (length (b ∷ bytes)) ++ (codes "\r\n" ++ ((b ∷ bytes) ++ codes "\r\n"))

-- the chunk that ends a body
abbrev pub last_chunk : List ℕ
last_chunk = codes "0\r\n\r\n"

-- one chunk for each tile, with what the request keeps of the tile's points in the area
abbrev pub chunks : Served → Asked → Box3 → List Node → List ℕ
chunks served request area nodes = flat_map (λ (node : Node). chunk (kept_of request (served.part area node))) nodes

-- the response to a query or a selection. It is a head and the chunks of the tiles of the plan, or status 404 if there
-- are no queries.
abbrev pub query_answer : Served → Asked → Box3 → Bool → Option (List Node) → List ℕ
query_answer served request area last None = refusal 404 last
query_answer served request area last (Some nodes) =
    head_text (head.Query last) ++ (chunks served request area nodes ++ last_chunk)

-- the response to what is asked for
abbrev pub answer_to : Served → Asked → Bool → List ℕ
answer_to served (asked.File name) last = file_answer (is_json name) last (served.file name)
answer_to served (asked.Query area first second) last =
    query_answer served (asked.Query area first second) area last (served.plan area first second)
answer_to served (asked.Select area first second sift) last =
    query_answer served (asked.Select area first second sift) area last (served.plan area first second)
answer_to served (asked.Refuse status) last = refusal status last

abbrev pub answer : Served → Turn → List ℕ
answer served turn = answer_to served turn.asked turn.last

unfoldable pub answers : Served → List Turn → List ℕ
answers served turns = flat_map (answer served) turns

-- a text consists of the responses to all the turns of bytes
pub record AreAnswers (served : Served) (bytes text : List ℕ) : Type 0 where
  pub turns : List Turn
  pub due : AreDue (fed fresh bytes) turns
  pub text_is : text ≡ answers served turns
