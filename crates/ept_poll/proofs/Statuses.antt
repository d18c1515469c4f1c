-- The head of status 503 or 507 is no prefix of a response.
use Rattle.std.proofs.Common.{◌≡◌, ◌∙◌, ◌⊎◌, inl, inr, ℕ, zero, suc, List, [], ◌∷◌, ◌++◌, take, drop, Bool, true, false, if◌then◌else◌, MatchBool, Option, Some, None, MatchOption, refl, sym, ap, subst, arith}
use Rattle.std.specs.Prelude.{⊤}
use Rattle.std.specs.List.{AllByRecursion}
use Rattle.std.specs.Fmt.{digits}
use Rattle.ept_hier.specs.Hierarchy.{Node}
use Rattle.ept_space.specs.declared.box3.Box3.{Box3}
use Rattle.httparse.specs.Grammar.{RequestHead}
use Rattle.ept_http.specs.declared.asked.Asked.{Asked}
use Rattle.ept_http.specs.declared.asked.Asked.TheVariants as asked
use Rattle.ept_http.specs.AnswerHead.{status_line, head_text}
use Rattle.ept_http.specs.Answers.{refusal_of, HeadAsks, IsAnswer}
use Rattle.ept_http.specs.Targets.{AsksFor}
use Rattle.ept_conn.specs.declared.turn.Turn.{Turn}
use Rattle.ept_conn.specs.HeadEnd.{Front, Whole, Long, Short, front}
use Rattle.ept_conn.specs.Held.{Held, turns_left}
use Rattle.ept_conn.specs.Turns.{AreFrom, AreTurns, AreDue}
use Rattle.ept_conn.specs.Answers.{Served, refusal, file_answer, query_answer, answer_to, answer, is_json}

-- ---- with which status a turn is refused

abbrev IsEarly : ℕ → Type 0
IsEarly status = (status ≡ 400) ⊎ ((status ≡ 404) ⊎ ((status ≡ 405) ⊎ ((status ≡ 431) ⊎ (status ≡ 505))))

abbrev IsPlain : Asked → Type 0
IsPlain (asked.File name) = ⊤
IsPlain (asked.Query area first second) = ⊤
IsPlain (asked.Select area first second sift) = ⊤
IsPlain (asked.Refuse status) = IsEarly status

early-status : (faulty other old : Bool) (status : ℕ) → (if faulty then Some 400 else if other then Some 405 else if old then Some 505 else None) ≡ Some status → IsEarly status
early-status true other old status h = inl (let is : 400 ≡ status = cc in sym is)
early-status false true old status h = inr (inr (inl (let is : 405 ≡ status = cc in sym is)))
early-status false false true status h = inr (inr (inr (inr (let is : 505 ≡ status = cc in sym is))))
early-status false false false status h = absurd cc

target-plain : (target : List ℕ) (wanted : Asked) → AsksFor target wanted → IsPlain wanted
target-plain target (asked.File name) h = tt
target-plain target (asked.Query area first second) h = tt
target-plain target (asked.Select area first second sift) h = tt
target-plain target (asked.Refuse status) h = inr (inl h.0)

by-refusal : (refused : Option ℕ) (target : List ℕ) (wanted : Asked) → ((status : ℕ) → refused ≡ Some status → IsEarly status) → MatchOption refused (AsksFor target wanted) (λ status. wanted ≡ asked.Refuse status) → IsPlain wanted
by-refusal None target wanted known h = target-plain target wanted h
by-refusal (Some status) target wanted known h = subst IsPlain (sym h) (known status refl)

head-plain : (whole : RequestHead) (wanted : Asked) → HeadAsks whole wanted → IsPlain wanted
unfolding refusal_of
head-plain whole wanted h = by-refusal (refusal_of whole) whole.target wanted (λ status is. early-status _ _ _ status is) h

answer-plain : (bytes : List ℕ) (wanted : Asked) (last : Bool) → IsAnswer bytes wanted last → IsPlain wanted
answer-plain bytes wanted last (inl (whole, is, to)) = head-plain whole wanted to.asks
answer-plain bytes wanted last (inr none) = subst IsPlain (sym none.1) (inl refl)

others-plain : (last : Bool) (turns : List Turn) (P : List Turn → Type 0) → MatchBool last (turns ≡ []) (P turns) → (P turns → AllByRecursion (λ (t : Turn). IsPlain t.asked) turns) → AllByRecursion (λ (t : Turn). IsPlain t.asked) turns
others-plain true turns P none all = subst (AllByRecursion (λ (t : Turn). IsPlain t.asked)) (sym none) tt
others-plain false turns P are all = all are

from-plain : (behind : ℕ) (others : List ℕ → List Turn → Type 0) → ((bytes : List ℕ) (turns : List Turn) → others bytes turns → AllByRecursion (λ (t : Turn). IsPlain t.asked) turns) → (bytes : List ℕ) (f : Front) (turns : List Turn) → AreFrom behind others bytes f turns → AllByRecursion (λ (t : Turn). IsPlain t.asked) turns
from-plain behind others all bytes Short turns are = subst (AllByRecursion (λ (t : Turn). IsPlain t.asked)) (sym are) tt
from-plain behind others all bytes Long turns are =
    subst (AllByRecursion (λ (t : Turn). IsPlain t.asked)) (sym are) (inr (inr (inr (inl refl))), tt)
from-plain behind others all bytes (Whole len) [] are = absurd are
from-plain behind others all bytes (Whole len) (turn ∷ turns) are = (
  answer-plain (take len bytes) turn.asked are.0.closes are.0.answer,
  others-plain turn.last turns (others (drop len bytes)) are.1 (all (drop len bytes) turns),
)

turns-plain : (left : ℕ) (bytes : List ℕ) (turns : List Turn) → AreTurns left bytes turns → AllByRecursion (λ (t : Turn). IsPlain t.asked) turns
turns-plain zero bytes turns are = subst (AllByRecursion (λ (t : Turn). IsPlain t.asked)) (sym are) tt
turns-plain (suc behind) bytes turns are =
    from-plain behind (AreTurns behind) (turns-plain behind) bytes (front bytes) turns are

due-plain : (held : Held) (turns : List Turn) → AreDue held turns → AllByRecursion (λ (t : Turn). IsPlain t.asked) turns
unfolding AreDue
due-plain held turns are = turns-plain (turns_left held) held.bytes turns are

all-behind : {X : Type 0} (P : X → Type 0) (before : List X) (x : X) (behind : List X) → AllByRecursion P (before ++ (x ∷ behind)) → P x
all-behind P [] x behind all = all.0
all-behind P (y ∷ before) x behind all = all-behind P before x behind all.1

-- ---- the last digit of the status

abbrev digit_of : List ℕ → List ℕ
digit_of text = take 1 (drop 11 text)

-- it is neither 3 nor 7
record IsOther (text : List ℕ) : Type 0 where
  three : ¬ (digit_of text ≡ 51 ∷ [])
  seven : ¬ (digit_of text ≡ 55 ∷ [])

other-digit : (digit : ℕ) (text : List ℕ) → digit_of text ≡ digit ∷ [] → ¬ (digit ≡ 51) → ¬ (digit ≡ 55) → IsOther text
other-digit digit text is three seven = record {
  three = λ same. three (one digit 51 (sym is ∙ same));
  seven = λ same. seven (one digit 55 (sym is ∙ same));
}
  where
    one : (a b : ℕ) → a ∷ [] ≡ b ∷ [] → a ≡ b
    one a b same = cc

refused-digit : (status : ℕ) (last : Bool) (more : List ℕ) → IsEarly status → IsOther (refusal status last ++ more)
unfolding head_text status_line digits
refused-digit status last more (inl is) =
    subst (λ (s : ℕ). IsOther (refusal s last ++ more)) (sym is) (other-digit 48 (refusal 400 last ++ more) refl (λ same. omega (arith, same)) (λ same. omega (arith, same)))
refused-digit status last more (inr (inl is)) =
    subst (λ (s : ℕ). IsOther (refusal s last ++ more)) (sym is) (other-digit 52 (refusal 404 last ++ more) refl (λ same. omega (arith, same)) (λ same. omega (arith, same)))
refused-digit status last more (inr (inr (inl is))) =
    subst (λ (s : ℕ). IsOther (refusal s last ++ more)) (sym is) (other-digit 53 (refusal 405 last ++ more) refl (λ same. omega (arith, same)) (λ same. omega (arith, same)))
refused-digit status last more (inr (inr (inr (inl is)))) =
    subst (λ (s : ℕ). IsOther (refusal s last ++ more)) (sym is) (other-digit 49 (refusal 431 last ++ more) refl (λ same. omega (arith, same)) (λ same. omega (arith, same)))
refused-digit status last more (inr (inr (inr (inr is)))) =
    subst (λ (s : ℕ). IsOther (refusal s last ++ more)) (sym is) (other-digit 53 (refusal 505 last ++ more) refl (λ same. omega (arith, same)) (λ same. omega (arith, same)))

content-digit : (json last : Bool) (content more : List ℕ) → IsOther (file_answer json last (Some content) ++ more)
unfolding head_text status_line digits
content-digit json last content more =
    other-digit 48 (file_answer json last (Some content) ++ more) refl (λ same. absurd cc) (λ same. absurd cc)

file-digit : (json last : Bool) (content : Option (List ℕ)) (more : List ℕ) → IsOther (file_answer json last content ++ more)
file-digit json last None more = refused-digit 404 last more (inr (inl refl))
file-digit json last (Some content) more = content-digit json last content more

nodes-digit : (served : Served) (a : Asked) (area : Box3) (last : Bool) (nodes : List Node) (more : List ℕ) → IsOther (query_answer served a area last (Some nodes) ++ more)
unfolding head_text status_line digits
nodes-digit served a area last nodes more =
    other-digit 48 (query_answer served a area last (Some nodes) ++ more) refl (λ same. absurd cc) (λ same. absurd cc)

query-digit : (served : Served) (a : Asked) (area : Box3) (last : Bool) (nodes : Option (List Node)) (more : List ℕ) → IsOther (query_answer served a area last nodes ++ more)
query-digit served a area last None more = refused-digit 404 last more (inr (inl refl))
query-digit served a area last (Some nodes) more = nodes-digit served a area last nodes more

answer-digit : (served : Served) (wanted : Asked) (last : Bool) (more : List ℕ) → IsPlain wanted → IsOther (answer_to served wanted last ++ more)
answer-digit served (asked.File name) last more is = file-digit (is_json name) last (served.file name) more
answer-digit served (asked.Query area first second) last more is = query-digit served (asked.Query area first second) area last (served.plan area first second) more
answer-digit served (asked.Select area first second sift) last more is = query-digit served (asked.Select area first second sift) area last (served.plan area first second) more
answer-digit served (asked.Refuse status) last more is = refused-digit status last more is

three-digit : digit_of (refusal 503 true) ≡ 51 ∷ []
unfolding head_text status_line digits
three-digit = refl

seven-digit : digit_of (refusal 507 true) ≡ 55 ∷ []
unfolding head_text status_line digits
seven-digit = refl

-- the response to a turn and more is no head of status 503 or 507
pub no-status : (served : Served) (held : Held) (before others : List Turn) (turn : Turn) (more : List ℕ) → AreDue held (before ++ (turn ∷ others)) → (answer served turn ++ more ≡ refusal 503 true) ⊎ (answer served turn ++ more ≡ refusal 507 true) → ⊥
no-status served held before others turn more due (inl same) =
    let plain = all-behind (λ (t : Turn). IsPlain t.asked) before turn others (due-plain held (before ++ (turn ∷ others)) due) in
    let other = answer-digit served turn.asked turn.last more plain in
    other.three (ap digit_of same ∙ three-digit)
no-status served held before others turn more due (inr same) =
    let plain = all-behind (λ (t : Turn). IsPlain t.asked) before turn others (due-plain held (before ++ (turn ∷ others)) due) in
    let other = answer-digit served turn.asked turn.last more plain in
    other.seven (ap digit_of same ∙ seven-digit)
