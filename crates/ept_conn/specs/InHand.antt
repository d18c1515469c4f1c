-- The turn that a session has in hand, and how far its response has come.
use Rattle.std.specs.Prelude.{ℕ, List, [], ◌∷◌, ◌++◌, take, drop}
use Rattle.ept_http.specs.declared.answer.HeadKind.TheVariants as head
use Rattle.ept_http.specs.AnswerHead.{head_text}
use Rattle.ept_conn.specs.declared.turn.Turn.{Turn}
use Rattle.ept_conn.specs.declared.hand.Hand.{Hand}
use Rattle.ept_conn.specs.declared.hand.Hand.TheVariants.{Empty, Decided, Tiles}
use Rattle.ept_conn.specs.Answers.{Served, chunks, last_chunk, answer}

-- the turn in hand
abbrev pub turns_in : Hand → List Turn
turns_in Empty = []
turns_in (Decided turn) = turn ∷ []
turns_in (Tiles turn plan done) = turn ∷ []

-- the part of its response that was output
abbrev pub begun_of : Served → Hand → List ℕ
begun_of served Empty = []
begun_of served (Decided turn) = []
begun_of served (Tiles turn plan done) = head_text (head.Query turn.last) ++ chunks served turn.asked plan.area (take done plan.tiles)

-- the rest of its response
abbrev pub rest_of : Served → Hand → List ℕ
rest_of served Empty = []
rest_of served (Decided turn) = answer served turn
rest_of served (Tiles turn plan done) = chunks served turn.asked plan.area (drop done plan.tiles) ++ last_chunk
