-- The turns of bytes do not depend on how the bytes are cut, and bytes have one list of turns.
use Rattle.std.proofs.Common.{◌≡◌, ℕ, zero, suc, ◌+◌, ◌-◌, ◌<◌, List, [], ◌∷◌, ◌++◌, take, drop, Bool, true, false, ◌||◌, ◌==◌, if◌then◌else◌, MatchBool, refl, sym, ap, subst, ◌∙◌, arith, append_assoc, append-nil, inl, inr}
use Rattle.std.proofs.lemmas.List.{take-append-le, drop-append-le}
use Rattle.ept_http.specs.declared.asked.Asked.{Asked}
use Rattle.ept_http.specs.Answers.{IsJudge, MayBeAsked}
use Rattle.ept_http.proofs.OneAnswer.{one-answer, may-be-asked}
use Rattle.ept_http.proofs.DecidedAnswer.{some-judge}
use Rattle.ept_conn.specs.declared.turn.Turn.{Turn}
use Rattle.ept_conn.specs.HeadEnd.{Front, Whole, Long, Short, front}
use Rattle.ept_conn.specs.Held.{Held, fresh, fed, turns_left}
use Rattle.ept_conn.specs.Turns.{IsTurnOf, AreFrom, AreTurns, AreDue, IsFirst, behind_front, IsNext, IsIdle}
use Rattle.ept_conn.specs.Judged.{turn_of, turns_from, due, due_of, Gives}
use Rattle.ept_conn.specs.Calls.{Call, Fed, Gave, Waited, Runs, all_fed, all_given}
use Rattle.ept_conn.proofs.HeadEnds.{front-kept, front-within}

-- ---- one turn, whatever bytes follow

-- the turn of a head stays, and the bytes after it grow
first-turn : (behind : ℕ) (bytes more : List ℕ) (f : Front) (turn : Turn) (turns : List Turn) → front (bytes ++ more) ≡ f → front bytes ≡ f → IsFirst behind bytes f turn → MatchBool turn.last (turns ≡ []) (AreTurns behind (behind_front f bytes ++ more) turns) → AreFrom behind (AreTurns behind) (bytes ++ more) f (turn ∷ turns)
first-turn behind bytes more Short turn turns now before first others = absurd first
first-turn behind bytes more Long turn turns now before first others =
    let ends : turn.last ≡ true = ap (λ (t : Turn). t.last) first in
    let none : turns ≡ [] = subst (λ (b : Bool). MatchBool b (turns ≡ []) (AreTurns behind (bytes ++ more) turns)) ends others in
    cc
first-turn behind bytes more (Whole len) turn turns now before first others =
    let within = front-within bytes len before in (
      subst (λ (head : List ℕ). IsTurnOf head behind turn) (sym (take-append-le len bytes more within)) first,
      subst (λ (rest : List ℕ). MatchBool turn.last (turns ≡ []) (AreTurns behind rest turns)) (sym (drop-append-le len bytes more within)) others,
    )

-- the turns due afterwards are those after the first one
rest-due : (k given later : ℕ) (last ended : Bool) (bytes next held more : List ℕ) (turns : List Turn) → ended ≡ last → later ≡ given + 1 → held ≡ (if last then bytes else next) → AreTurns (if ended then 0 else k - later) (held ++ more) turns → MatchBool last (turns ≡ []) (AreTurns (k - given - 1) (next ++ more) turns)
rest-due k given later true true bytes next held more turns same up is due = due
rest-due k given later true false bytes next held more turns same up is due = absurd cc
rest-due k given later false true bytes next held more turns same up is due = absurd cc
rest-due k given later false false bytes next held more turns same up is due =
    let left : k - later ≡ k - given - 1 = omega arith in
    subst (λ (n : ℕ). AreTurns n (next ++ more) turns) left (subst (λ (w : List ℕ). AreTurns (k - later) (w ++ more) turns) is due)

one-more : (k given : ℕ) → given < k → suc (k - given - 1) ≡ k - given
one-more k given room = omega arith

left-going : (k given : ℕ) (ended : Bool) → ended ≡ false → k - given ≡ (if ended then 0 else k - given)
left-going k given true going = absurd cc
left-going k given false going = refl

not-short : (behind : ℕ) (bytes : List ℕ) (f : Front) (turn : Turn) → IsFirst behind bytes f turn → f ≡ Short → ⊥
not-short behind bytes f turn first short = subst (λ (g : Front). IsFirst behind bytes g turn) short first

pub next-due : (old new : Held) (turn : Turn) → IsNext old turn new → (more : List ℕ) (turns : List Turn) → AreDue (fed new more) turns → AreDue (fed old more) (turn ∷ turns)
unfolding AreDue
next-due old new turn is more turns due =
    let others = rest-due 65536 old.given new.given turn.last new.ended old.bytes (behind_front (front old.bytes) old.bytes) new.bytes more turns is.ended is.given is.bytes due in
    let now = front-kept old.bytes more (not-short (65536 - old.given - 1) old.bytes (front old.bytes) turn is.first) in
    let from = first-turn (65536 - old.given - 1) old.bytes more (front old.bytes) turn turns now refl is.first others in
    let all : AreTurns (suc (65536 - old.given - 1)) (old.bytes ++ more) (turn ∷ turns) =
    subst (λ (f : Front). AreFrom (65536 - old.given - 1) (AreTurns (65536 - old.given - 1)) (old.bytes ++ more) f (turn ∷ turns)) (sym now) from in
    subst (λ (n : ℕ). AreTurns n (old.bytes ++ more) (turn ∷ turns)) (one-more 65536 old.given is.room ∙ left-going 65536 old.given old.ended is.going) all

-- ---- lists of calls

fed-again : (old : Held) (piece fed_later more : List ℕ) (turns : List Turn) → AreDue (fed (fed old piece) (fed_later ++ more)) turns → AreDue (fed old ((piece ++ fed_later) ++ more)) turns
fed-again old piece fed_later more turns due =
    let grouped : (old.bytes ++ piece) ++ (fed_later ++ more) ≡ old.bytes ++ ((piece ++ fed_later) ++ more) =
    append_assoc old.bytes piece (fed_later ++ more) ∙ ap (λ (w : List ℕ). old.bytes ++ w) (sym (append_assoc piece fed_later more)) in
    let P : List ℕ → Type 0 = λ w. AreDue (record old { bytes = w }) turns in
    subst P grouped due

pub however-cut : (calls : List Call) (old last : Held) → Runs old calls last → (more : List ℕ) (turns : List Turn) → AreDue (fed last more) turns → AreDue (fed old (all_fed calls ++ more)) (all_given calls ++ turns)
however-cut [] old last run more turns due = subst (λ (held : Held). AreDue (fed held more) turns) (sym run) due
however-cut (Fed piece ∷ calls) old last run more turns due =
    fed-again old piece (all_fed calls) more _ (however-cut calls (fed old piece) last run.1 more turns due)
however-cut (Gave turn ∷ calls) old last run more turns due =
    next-due old run.0 turn run.1 (all_fed calls ++ more) (all_given calls ++ turns) (however-cut calls run.0 last run.2 more turns due)
however-cut (Waited ∷ calls) old last run more turns due = however-cut calls old last run.1 more turns due

short-due : (left : ℕ) (bytes : List ℕ) → front bytes ≡ Short → AreTurns left bytes []
short-due zero bytes short = refl
short-due (suc behind) bytes short =
    subst (λ (f : Front). AreFrom behind (AreTurns behind) bytes f []) (sym short) refl

ended-left : (k : ℕ) (ended : Bool) → ended ≡ true → 0 ≡ (if ended then 0 else k)
ended-left k true ends = refl
ended-left k false ends = absurd cc

pub idle-due : (held : Held) → IsIdle held → AreDue held []
unfolding AreDue
idle-due held (inl ends) =
    subst (λ (n : ℕ). AreTurns n held.bytes []) (ended-left (65536 - held.given) held.ended ends) refl
idle-due held (inr short) = short-due (turns_left held) held.bytes short

pub all-given-due : (calls : List Call) (last : Held) → Runs fresh calls last → IsIdle last → AreDue (fed fresh (all_fed calls)) (all_given calls)
all-given-due calls last run idle =
    let P : List ℕ → Type 0 = λ w. AreDue (record last { bytes = w }) [] in
    let none : AreDue (fed last []) [] = subst P (sym (append-nil last.bytes)) (idle-due last idle) in
    let due = however-cut calls fresh last run [] [] none in
    let Q : List ℕ → Type 0 = λ w. AreDue (fed fresh w) (all_given calls) in
    subst Q (append-nil (all_fed calls)) (subst (λ (turns : List Turn). AreDue (fed fresh (all_fed calls ++ [])) turns) (append-nil (all_given calls)) due)

-- ---- one list

turn-once : (head : List ℕ) (behind : ℕ) (x y : Turn) → IsTurnOf head behind x → IsTurnOf head behind y → x ≡ y
turn-once head behind x y p q =
    let same = one-answer head x.asked y.asked p.closes q.closes p.answer q.answer in
    let last : x.last ≡ y.last = p.ends ∙ ap (λ (b : Bool). b || behind == 0) same.1 ∙ sym q.ends in
    λ i. record { asked = same.0 i; last = last i }

others-once : (last : Bool) (xs ys : List Turn) (P : List Turn → Type 0) → (P xs → P ys → xs ≡ ys) → MatchBool last (xs ≡ []) (P xs) → MatchBool last (ys ≡ []) (P ys) → xs ≡ ys
others-once true xs ys P once p q = p ∙ sym q
others-once false xs ys P once p q = once p q

from-once : (behind : ℕ) (others : List ℕ → List Turn → Type 0) → ((bytes : List ℕ) (a b : List Turn) → others bytes a → others bytes b → a ≡ b) → (bytes : List ℕ) (f : Front) (a b : List Turn) → AreFrom behind others bytes f a → AreFrom behind others bytes f b → a ≡ b
from-once behind others once bytes Short a b p q = p ∙ sym q
from-once behind others once bytes Long a b p q = p ∙ sym q
from-once behind others once bytes (Whole len) [] b p q = absurd p
from-once behind others once bytes (Whole len) (x ∷ xs) [] p q = absurd q
from-once behind others once bytes (Whole len) (x ∷ xs) (y ∷ ys) p q =
    let turn = turn-once (take len bytes) behind x y p.0 q.0 in
    let also = subst (λ (t : Turn). MatchBool t.last (ys ≡ []) (others (drop len bytes) ys)) (sym turn) q.1 in
    let rest = others-once x.last xs ys (others (drop len bytes)) (once (drop len bytes) xs ys) p.1 also in
    λ i. turn i ∷ rest i

turns-once : (left : ℕ) (bytes : List ℕ) (a b : List Turn) → AreTurns left bytes a → AreTurns left bytes b → a ≡ b
turns-once zero bytes a b p q = p ∙ sym q
turns-once (suc behind) bytes a b p q =
    from-once behind (AreTurns behind) (turns-once behind) bytes (front bytes) a b p q

pub due-once : (held : Held) (a b : List Turn) → AreDue held a → AreDue held b → a ≡ b
unfolding AreDue
due-once held a b p q = turns-once (turns_left held) held.bytes a b p q

-- ---- a judge's turns

chosen : (last : Bool) (xs : List Turn) (P : List Turn → Type 0) → P xs → MatchBool last ((if last then [] else xs) ≡ []) (P (if last then [] else xs))
chosen true xs P h = refl
chosen false xs P h = h

judged-from : (judge : List ℕ → Asked × Bool) → IsJudge judge → (behind : ℕ) (others : List ℕ → List Turn → Type 0) (later : List ℕ → List Turn) → ((bytes : List ℕ) → others bytes (later bytes)) → (bytes : List ℕ) (f : Front) → AreFrom behind others bytes f (turns_from judge behind later bytes f)
judged-from judge is behind others later are bytes Short = refl
judged-from judge is behind others later are bytes Long = refl
judged-from judge is behind others later are bytes (Whole len) = (
  record { closes = (judge (take len bytes)).1; answer = is (take len bytes); ends = refl },
  chosen (turn_of judge behind (take len bytes)).last (later (drop len bytes)) (others (drop len bytes)) (are (drop len bytes)),
)

judged-turns : (judge : List ℕ → Asked × Bool) → IsJudge judge → (left : ℕ) (bytes : List ℕ) → AreTurns left bytes (due judge left bytes)
judged-turns judge is zero bytes = refl
judged-turns judge is (suc behind) bytes =
    judged-from judge is behind (AreTurns behind) (due judge behind) (judged-turns judge is behind) bytes (front bytes)

pub judged-due : (judge : List ℕ → Asked × Bool) (held : Held) → IsJudge judge → AreDue held (due_of judge held)
unfolding AreDue due_of
judged-due judge held is = judged-turns judge is (turns_left held) held.bytes

pub next-given : (judge : List ℕ → Asked × Bool) (old new : Held) (turn : Turn) → IsJudge judge → IsNext old turn new → Gives judge old turn new
next-given judge old new turn is next = λ more.
    due-once (fed old more) _ _ (judged-due judge (fed old more) is) (next-due old new turn next more (due_of judge (fed new more)) (judged-due judge (fed new more) is))

-- ---- what a turn asks for

first-asked : (behind : ℕ) (bytes : List ℕ) (f : Front) (turn : Turn) → IsFirst behind bytes f turn → MayBeAsked turn.asked
first-asked behind bytes Short turn first = absurd first
first-asked behind bytes Long turn first = subst (λ (t : Turn). MayBeAsked t.asked) (sym first) refl
first-asked behind bytes (Whole len) turn first = may-be-asked (take len bytes) turn.asked first.closes first.answer

pub next-asked : (old new : Held) (turn : Turn) → IsNext old turn new → MayBeAsked turn.asked
next-asked old new turn is = first-asked (65536 - old.given - 1) old.bytes (front old.bytes) turn is.first

-- ---- there are turns

pub some-due : (held : Held) → (turns : List Turn) × AreDue held turns
some-due held = (due_of some-judge.0 held, judged-due some-judge.0 held some-judge.1)
