-- A session wants to work only if some turn has no whole response.
use Rattle.std.proofs.Common.{◌≡◌, ◌∙◌, ◌-◌, ◌<◌, ℕ, zero, suc, List, [], ◌∷◌, ◌++◌, length, Bool, true, false, ◌&&◌, not, Option, Some, None, if◌then◌else◌, refl, sym, ap, subst, arith, append_assoc, append-nil, length-append}
use Rattle.ept_hier.specs.Hierarchy.{Node}
use Rattle.ept_http.specs.declared.asked.Asked.{Asked}
use Rattle.ept_http.specs.declared.asked.Asked.TheVariants as asked
use Rattle.ept_http.specs.declared.answer.HeadKind.{HeadKind}
use Rattle.ept_http.specs.declared.answer.HeadKind.TheVariants as head
use Rattle.ept_http.specs.AnswerHead.{line, status_of, status_line, allow_line, type_line, connection_line, ends, length_line, head_text}
use Rattle.ept_conn.specs.declared.hand.Hand.{Hand}
use Rattle.ept_conn.specs.declared.hand.Hand.TheVariants.{Empty, Decided, Tiles}
use Rattle.ept_conn.specs.declared.turn.Turn.{Turn}
use Rattle.ept_conn.specs.declared.end.Want.TheVariants as want
use Rattle.ept_conn.specs.HeadEnd.{Front, Whole, Long, Short, front}
use Rattle.ept_conn.specs.Held.{Held, fresh, fed, begins, turns_left, has_turn}
use Rattle.ept_conn.specs.Turns.{too_long, AreFrom, AreTurns, AreDue}
use Rattle.ept_conn.specs.Answers.{Served, file_answer, query_answer, chunks, last_chunk, answer_to, answer, answers}
use Rattle.ept_conn.specs.State.{State, want_of}
use Rattle.ept_conn.specs.InHand.{turns_in, begun_of, rest_of}
use Rattle.ept_conn.specs.History.{Goes, HasFor, Has, IsUnanswered}
use Rattle.ept_conn.proofs.TurnLemmas.{some-due}
use Rattle.ept_conn.proofs.Wanting.{IsAtWork, work-parts}
use Rattle.ept_conn.proofs.Sending.{answers-append, answers-one, sent-before}
use Rattle.ept_conn.proofs.Ending.{hand-answers}

-- ---- a response has bytes

longer : (a b : List ℕ) → 0 < length a → 0 < length (a ++ b)
longer a b some = omega (arith, length-append a b)

ends-some : (a b : List ℕ) → 0 < length b → 0 < length (a ++ b)
ends-some a b some = omega (arith, length-append a b)

head-some : (kind : HeadKind) → 0 < length (head_text kind)
unfolding head_text
head-some kind = ends-some (status_line (status_of kind) ++ allow_line (status_of kind) ++ type_line kind ++ connection_line (ends kind) ++ length_line kind) (line []) (omega arith)

file-some : (json last : Bool) (content : Option (List ℕ)) → 0 < length (file_answer json last content)
file-some json last None = head-some (head.Refusal 404 last)
file-some json last (Some content) = longer (head_text (head.File json (length content) last)) content (head-some (head.File json (length content) last))

query-some : (served : Served) (a : Asked) (area : _) (last : Bool) (plan : Option (List Node)) → 0 < length (query_answer served a area last plan)
query-some served a area last None = head-some (head.Refusal 404 last)
query-some served a area last (Some nodes) = longer (head_text (head.Query last)) (chunks served a area nodes ++ last_chunk) (head-some (head.Query last))

answer-some : (served : Served) (a : Asked) (last : Bool) → 0 < length (answer_to served a last)
answer-some served (asked.File name) last = file-some _ last (served.file name)
answer-some served (asked.Query area first second) last = query-some served (asked.Query area first second) area last (served.plan area first second)
answer-some served (asked.Select area first second sift) last = query-some served (asked.Select area first second sift) area last (served.plan area first second)
answer-some served (asked.Refuse status) last = head-some (head.Refusal status last)

-- ---- a turn is due

-- there is a first turn
abbrev HasFirst : List Turn → Type 0
HasFirst turns = (turn : Turn) × (others : List Turn) × (turns ≡ turn ∷ others)

from-first : (behind : ℕ) (others : List ℕ → List Turn → Type 0) (bytes : List ℕ) (f : Front) (turns : List Turn) → begins f ≡ true → AreFrom behind others bytes f turns → HasFirst turns
from-first behind others bytes Short turns some from = absurd cc
from-first behind others bytes Long turns some from = (too_long, [], from)
from-first behind others bytes (Whole len) [] some from = absurd from
from-first behind others bytes (Whole len) (turn ∷ turns) some from = (turn, turns, refl)

turns-first : (left : ℕ) (bytes : List ℕ) (turns : List Turn) → 0 < left → begins (front bytes) ≡ true → AreTurns left bytes turns → HasFirst turns
turns-first zero bytes turns room some are = absurd (omega arith)
turns-first (suc behind) bytes turns room some are = from-first behind (AreTurns behind) bytes (front bytes) turns some are

going-on : (held : Held) → has_turn held ≡ true → (held.ended ≡ false) × (begins (front held.bytes) ≡ true)
unfolding has_turn
going-on held due = both held.ended (begins (front held.bytes)) due
  where
    both : (ended some : Bool) → not ended && some ≡ true → (ended ≡ false) × (some ≡ true)
    both true some is = absurd cc
    both false some is = (refl, is)

due-first : (held : Held) (turns : List Turn) → has_turn held ≡ true → (held.ended ≡ false → held.given < 65536) → AreDue held turns → HasFirst turns
unfolding AreDue
due-first held turns due room are =
    let on = going-on held due in
    turns-first (turns_left held) held.bytes turns (left-some held.ended held.given on.0 (room on.0)) on.1 are
  where
    left-some : (ended : Bool) (given : ℕ) → ended ≡ false → given < 65536 → 0 < (if ended then 0 else 65536 - given)
    left-some true given on below = absurd cc
    left-some false given on below = omega arith

-- ---- some bytes of its response were not sent

module _ (served : Served) (bytes sent : List ℕ) (last : State) where
  fresh-due : (turns : List Turn) → AreDue (fed fresh (bytes ++ [])) turns → AreDue (fed fresh bytes) turns
  fresh-due turns due = subst (λ (w : List ℕ). AreDue (fed fresh w) turns) (append-nil bytes) due

  text-due : (before : List Turn) (turn : Turn) (begun rest : List ℕ) → sent ≡ answers served before ++ begun → answers served (turn ∷ []) ≡ begun ++ rest → answers served (before ++ turn ∷ []) ≡ sent ++ rest
  text-due before turn begun rest all one =
      answers-append served before (turn ∷ [])
      ∙ ap (λ (w : List ℕ). answers served before ++ w) one
      ∙ sym (append_assoc (answers served before) begun rest)
      ∙ ap (λ (w : List ℕ). w ++ rest) (sym all)

  in-hand : (hand : Hand) (turn : Turn) (g : Goes served bytes sent last) → last.hand ≡ hand → last.out ≡ [] → turns_in hand ≡ turn ∷ [] → 0 < length (rest_of served hand) → IsUnanswered served bytes sent
  in-hand hand turn g is out one some =
      let others = some-due (fed last.held []) in
      let turns : turns_in last.hand ≡ turn ∷ [] = ap turns_in is ∙ one in
      let planned = g.planned in record {
        before = g.before;
        turn = turn;
        others = others.0;
        due = fresh-due (g.before ++ (turn ∷ others.0)) (subst (λ (ts : List Turn). AreDue (fed fresh (bytes ++ [])) (g.before ++ (ts ++ others.0))) turns (g.turns [] others.0 others.1));
        unsent = rest_of served hand;
        some = some;
        text_is = text-due g.before turn (begun_of served hand) (rest_of served hand) (sent-before served bytes sent last hand g out is) (sym (ap (answers served) turns) ∙ hand-answers served last.hand planned ∙ ap (λ (h : Hand). begun_of served h ++ rest_of served h) is);
      }

  not-in-hand : (g : Goes served bytes sent last) → last.hand ≡ Empty → last.out ≡ [] → has_turn last.held ≡ true → IsUnanswered served bytes sent
  not-in-hand g is out due =
      let same : fed last.held [] ≡ last.held = ap (λ (w : List ℕ). record last.held { bytes = w }) (append-nil last.held.bytes) in
      let turns = some-due (fed last.held []) in
      let first = due-first (fed last.held []) turns.0 (ap has_turn same ∙ due) g.room turns.1 in
      let turn = first.0 in record {
        before = g.before;
        turn = turn;
        others = first.1;
        due = fresh-due (g.before ++ (turn ∷ first.1)) (subst (λ (h : Hand). AreDue (fed fresh (bytes ++ [])) (g.before ++ (turns_in h ++ (turn ∷ first.1)))) is (subst (λ (ts : List Turn). AreDue (fed fresh (bytes ++ [])) (g.before ++ (turns_in last.hand ++ ts))) first.2 (g.turns [] turns.0 turns.1)));
        unsent = answer served turn;
        some = answer-some served turn.asked turn.last;
        text_is = text-due g.before turn [] (answer served turn) (sent-before served bytes sent last Empty g out is) (answers-one served turn);
      }

  unanswered-on : (hand : Hand) (g : Goes served bytes sent last) → last.hand ≡ hand → IsAtWork last.out last.fault last.hand (has_turn last.held) → IsUnanswered served bytes sent
  unanswered-on Empty g is parts = not-in-hand g is parts.out_is (parts.due_is is)
  unanswered-on (Decided turn) g is parts = in-hand (Decided turn) turn g is parts.out_is refl (answer-some served turn.asked turn.last)
  unanswered-on (Tiles turn plan done) g is parts =
      in-hand (Tiles turn plan done) turn g is parts.out_is refl (ends-some (chunks served turn.asked plan.area _) last_chunk (omega arith))

pub works-unanswered : (served : Served) (reason : Type 0) (bytes sent : List ℕ) (last : State) → Has served reason bytes sent last → want_of last ≡ want.Work → IsUnanswered served bytes sent
works-unanswered served reason bytes sent last has is =
    let parts = work-parts last is in
    unanswered-on served bytes sent last last.hand (subst (HasFor served reason bytes sent last) parts.going has) refl parts
