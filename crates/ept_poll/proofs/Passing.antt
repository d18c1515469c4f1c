-- What has passed between a session and its link, call by call.
use Rattle.std.proofs.Common.{◌≡◌, ◌∙◌, ◌+◌, ◌<◌, ◌⊎◌, inl, inr, ℕ, List, [], ◌∷◌, ◌++◌, length, take, drop, Option, Some, None, refl, sym, ap, subst, arith, append_assoc, append-nil, length-append}
use Rattle.std.specs.Prelude.{IfSome, true}
use Rattle.std.proofs.lemmas.List.{take_at, drop_at, append_cancel_left}
use Rattle.ept_base.specs.Files.{Files}
use Rattle.ept_base.specs.Links.{Wire, Reads, FailsToRead, Writes}
use Rattle.ept_conn.specs.declared.turn.Turn.{Turn}
use Rattle.ept_conn.specs.declared.hand.Hand.{Hand}
use Rattle.ept_conn.specs.declared.hand.Hand.TheVariants.{Empty, Decided, Tiles}
use Rattle.ept_conn.specs.declared.end.Fault.{Fault}
use Rattle.ept_conn.specs.declared.end.Fault.TheVariants as fault
use Rattle.ept_conn.specs.declared.end.Want.TheVariants as want
use Rattle.ept_conn.specs.Held.{fed, fresh}
use Rattle.ept_conn.specs.Turns.{AreDue}
use Rattle.ept_conn.specs.Answers.{Served, refusal, answer, answers, AreAnswers}
use Rattle.ept_conn.specs.Served.{IsSentOf}
use Rattle.ept_conn.specs.State.{State, want_of, feeds}
use Rattle.ept_conn.specs.Works.{Stops, IsLastWord, IsLastOf}
use Rattle.ept_conn.specs.SessionCalls.{HasWorked}
use Rattle.ept_conn.specs.InHand.{turns_in, rest_of}
use Rattle.ept_conn.specs.History.{Has, HasFor, Goes, IsOwed, IsUnanswered}
use Rattle.ept_conn.specs.Conversation.{Converses}
use Rattle.ept_conn.proofs.Wanting.{read-parts, work-parts, write-some}
use Rattle.ept_conn.proofs.TurnLemmas.{due-once, some-due}
use Rattle.ept_conn.proofs.Sending.{answers-append, answers-one, sent-before}
use Rattle.ept_conn.proofs.Histories.{owes-has}
use Rattle.ept_conn.proofs.Unanswered.{works-unanswered}
use Rattle.ept_conn.proofs.Conversing.{read-converses, unread-converses, work-converses, write-converses, unwritten-converses}
use Rattle.ept_poll.specs.Polls.{unused, IsRefusing, HasPassed}
use Rattle.ept_poll.proofs.Statuses.{no-status}

-- what holds of the bytes read and written holds of all that passed over the link
pub by-passed : (P : List ℕ → List ℕ → Type 0) (served : Served) (reason : Type 0) (state : State) (wire : Wire) → (c : Converses served reason unused state wire) → P c.bytes c.text → P wire.taken wire.written
by-passed P served reason state wire c holds =
    let bytes : P wire.taken c.text = subst (λ (w : List ℕ). P w c.text) (sym c.passes.taken) holds in
    subst (P wire.taken) (sym c.passes.written) bytes

-- ---- bytes have one list of responses

answers-once : (served : Served) (bytes a b : List ℕ) → AreAnswers served bytes a → AreAnswers served bytes b → a ≡ b
answers-once served bytes a b one two =
    one.text_is ∙ ap (answers served) (due-once (fed fresh bytes) one.turns two.turns one.due two.due) ∙ sym two.text_is

no-more : (sent more : List ℕ) → sent ≡ sent ++ more → ¬ (0 < length more)
no-more sent more same some =
    let len : length sent ≡ length sent + length more = ap length same ∙ length-append sent more in
    omega (arith, len, some)

-- if some turn has no whole response, what was sent is not all responses
unanswered-not : (served : Served) (bytes sent : List ℕ) → IsUnanswered served bytes sent → ¬ AreAnswers served bytes sent
unanswered-not served bytes sent u answered =
    let turns = due-once (fed fresh bytes) answered.turns (u.before ++ (u.turn ∷ u.others)) answered.due u.due in
    let split : answers served (u.before ++ (u.turn ∷ u.others)) ≡ (sent ++ u.unsent) ++ answers served u.others =
    ap (answers served) (sym (append_assoc u.before (u.turn ∷ []) u.others)) ∙ answers-append served (u.before ++ u.turn ∷ []) u.others ∙ ap (λ (w : List ℕ). w ++ answers served u.others) u.text_is in
    let whole : sent ≡ sent ++ (u.unsent ++ answers served u.others) = answered.text_is ∙ ap (answers served) turns ∙ split ∙ append_assoc sent u.unsent (answers served u.others) in
    let len = length-append u.unsent (answers served u.others) in
    let some = u.some in
    no-more sent (u.unsent ++ answers served u.others) whole (omega (arith, some, len))

-- a session that continues and has bytes to be sent has not sent all responses
going-unanswered : (served : Served) (reason : Type 0) (bytes sent : List ℕ) (state : State) → Has served reason bytes sent state → state.fault ≡ None → want_of state ≡ want.Write → ¬ AreAnswers served bytes sent
going-unanswered served reason bytes sent state has going is answered =
    let due = some-due (fed state.held []) in
    let text = state.out ++ (rest_of served state.hand ++ answers served due.0) in
    let owed : IsOwed served state [] text = record { turns = due.0; due = due.1; text_is = refl } in
    let all : AreAnswers served bytes (sent ++ text) = subst (λ (w : List ℕ). AreAnswers served w (sent ++ text)) (append-nil bytes) (owes-has served reason bytes sent state has going [] text owed) in
    let some = write-some state is in
    let len : length text ≡ length state.out + length (rest_of served state.hand ++ answers served due.0) = length-append state.out (rest_of served state.hand ++ answers served due.0) in
    no-more sent text (answers-once served bytes sent (sent ++ text) answered all) (omega (arith, some, len))

-- nor has a session that sends a status in place of a response
refusing-unanswered : (served : Served) (bytes sent out : List ℕ) → IsRefusing served bytes sent out → ¬ AreAnswers served bytes sent
refusing-unanswered served bytes sent out r answered =
    let turns = due-once (fed fresh bytes) answered.turns (r.before ++ (r.turn ∷ r.others)) answered.due r.due in
    let split : answers served (r.before ++ (r.turn ∷ r.others)) ≡ answers served r.before ++ (answer served r.turn ++ answers served r.others) =
    answers-append served r.before (r.turn ∷ r.others) ∙ ap (λ (w : List ℕ). answers served r.before ++ w) (answers-append served (r.turn ∷ []) r.others ∙ ap (λ (w : List ℕ). w ++ answers served r.others) (answers-one served r.turn)) in
    let same : answers served r.before ++ (answer served r.turn ++ answers served r.others) ≡ answers served r.before ++ r.gone = sym split ∙ sym (ap (answers served) turns) ∙ sym answered.text_is ∙ r.text_is in
    let gone : answer served r.turn ++ answers served r.others ≡ r.gone = append_cancel_left (answers served r.before) (answer served r.turn ++ answers served r.others) r.gone same in
    let whole : answer served r.turn ++ (answers served r.others ++ out) ≡ r.gone ++ out = sym (append_assoc (answer served r.turn) (answers served r.others) out) ∙ ap (λ (w : List ℕ). w ++ out) gone in
    no-status served (fed fresh bytes) r.before r.others r.turn (answers served r.others ++ out) r.due (status (r.gone ++ out) whole r.status)
  where
    status : (text : List ℕ) → answer served r.turn ++ (answers served r.others ++ out) ≡ text → (text ≡ refusal 503 true) ⊎ (text ≡ refusal 507 true) → (answer served r.turn ++ (answers served r.others ++ out) ≡ refusal 503 true) ⊎ (answer served r.turn ++ (answers served r.others ++ out) ≡ refusal 507 true)
    status text is (inl three) = inl (is ∙ three)
    status text is (inr seven) = inr (is ∙ seven)

pub passed-unanswered : (served : Served) (reason : Type 0) (state : State) (wire : Wire) → HasPassed served reason state wire → want_of state ≡ want.Write → ¬ AreAnswers served wire.taken wire.written
passed-unanswered served reason state wire p is = either (p.refusing is)
  where
    either : (state.fault ≡ None) ⊎ IsRefusing served wire.taken wire.written state.out → ¬ AreAnswers served wire.taken wire.written
    either (inl going) =
        by-passed (λ bytes sent. ¬ AreAnswers served bytes sent) served reason state wire p.converses (going-unanswered served reason p.converses.bytes p.converses.text state p.converses.has going is)
    either (inr refusing) = refusing-unanswered served wire.taken wire.written state.out refusing

-- ---- call by call

no-write : (state : State) → state.out ≡ [] → ¬ (want_of state ≡ want.Write)
no-write state none write =
    let some = write-some state write in
    let len : length state.out ≡ 0 = ap length none in
    omega (arith, some, len)

fed-out : (old new : State) (piece : List ℕ) → (new ≡ feeds old piece) ⊎ (new ≡ record old { fault = Some fault.Memory }) → new.out ≡ old.out
fed-out old new [] (inl is) = ap (λ (s : State). s.out) is
fed-out old new (b ∷ piece) (inl is) = ap (λ (s : State). s.out) is
fed-out old new piece (inr is) = ap (λ (s : State). s.out) is

pub read-passed : (served : Served) (reason : Type 0) (old next : Wire) (state new : State) (piece : List ℕ) → HasPassed served reason state old → want_of state ≡ want.Read → Reads piece old next → (piece ≡ [] → next.left ≡ []) → (new ≡ feeds state piece) ⊎ (new ≡ record state { fault = Some fault.Memory }) → HasPassed served reason new next
read-passed served reason old next state new piece p read reads none is = record {
  converses = read-converses served reason unused old next state new piece p.converses read reads none is;
  refusing = λ write. absurd (no-write new (fed-out state new piece is ∙ (read-parts state read).0.out_is) write);
}

pub unread-passed : (served : Served) (reason : Type 0) (old next : Wire) (state new : State) → HasPassed served reason state old → want_of state ≡ want.Read → FailsToRead old next → new ≡ record state { hand = Empty; out = []; fault = Some fault.Link } → HasPassed served reason new next
unread-passed served reason old next state new p read fails is = record {
  converses = unread-converses served reason unused old next state new p.converses read fails is;
  refusing = λ write. absurd (no-write new (ap (λ (s : State). s.out) is) write);
}

pub unwritten-passed : (served : Served) (reason : Type 0) (wire : Wire) (state new : State) → HasPassed served reason state wire → new ≡ record state { hand = Empty; out = []; fault = Some fault.Link } → HasPassed served reason new wire
unwritten-passed served reason wire state new p is = record {
  converses = unwritten-converses served reason unused wire wire state new p.converses refl is;
  refusing = λ write. absurd (no-write new (ap (λ (s : State). s.out) is) write);
}

-- more of a status has gone out
refusing-on : (served : Served) (old next : Wire) (bytes rest out : List ℕ) → IsRefusing served old.taken old.written out → Writes bytes old next → out ≡ bytes ++ rest → IsRefusing served next.taken next.written rest
refusing-on served old next bytes rest out r writes split = record {
  before = r.before;
  turn = r.turn;
  others = r.others;
  due = subst (λ (w : List ℕ). AreDue (fed fresh w) (r.before ++ (r.turn ∷ r.others))) (sym writes.taken) r.due;
  gone = r.gone ++ bytes;
  text_is = writes.written ∙ ap (λ (w : List ℕ). w ++ bytes) r.text_is ∙ append_assoc (answers served r.before) r.gone bytes;
  status = subst (λ (w : List ℕ). (w ≡ refusal 503 true) ⊎ (w ≡ refusal 507 true)) (ap (λ (w : List ℕ). r.gone ++ w) split ∙ sym (append_assoc r.gone bytes rest)) r.status;
}

pub write-passed : (served : Served) (reason : Type 0) (old next : Wire) (state new : State) (bytes : List ℕ) → HasPassed served reason state old → want_of state ≡ want.Write → Writes bytes old next → state.out ≡ bytes ++ new.out → new ≡ record state { out = new.out } → HasPassed served reason new next
write-passed served reason old next state new bytes p write writes split same =
    let front : take (length bytes) state.out ≡ bytes = ap (take (length bytes)) split ∙ take_at bytes new.out (length bytes) refl in
    let rest : drop (length bytes) state.out ≡ new.out = ap (drop (length bytes)) split ∙ drop_at bytes new.out (length bytes) refl in
    let is : new ≡ record state { out = drop (length bytes) state.out } = same ∙ ap (λ (w : List ℕ). record state { out = w }) (sym rest) in record {
      converses = write-converses served reason unused old next state new (length bytes) p.converses write (subst (λ (w : List ℕ). Writes w old next) (sym front) writes) is;
      refusing = λ more. either (p.refusing write);
    }
  where
    either : (state.fault ≡ None) ⊎ IsRefusing served old.taken old.written state.out → (new.fault ≡ None) ⊎ IsRefusing served next.taken next.written new.out
    either (inl going) = inl (ap (λ (s : State). s.fault) same ∙ going)
    either (inr refusing) = inr (refusing-on served old next bytes new.out state.out refusing writes split)

-- ---- one piece of work

word-status : (cause : Fault) (out : List ℕ) → 0 < length out → IsLastWord cause out → (out ≡ refusal 503 true) ⊎ (out ≡ refusal 507 true)
word-status fault.Link out some is = absurd (let len : length out ≡ 0 = ap length is in omega (arith, some, len))
word-status fault.Store out some status = inl status
word-status (fault.Damaged found) out some status = inl status
word-status fault.Memory out some (inl none) = absurd (let len : length out ≡ 0 = ap length none in omega (arith, some, len))
word-status fault.Memory out some (inr status) = inr status

-- a status is output if nothing of the response in hand was
record IsStatusNow (served : Served) (before : List Turn) (sent out : List ℕ) : Type 0 where
  text_is : sent ≡ answers served before
  status : (out ≡ refusal 503 true) ⊎ (out ≡ refusal 507 true)

status-now : (served : Served) (bytes sent out : List ℕ) (old : State) (cause : Fault) (hand : Hand) (g : Goes served bytes sent old) → old.out ≡ [] → old.hand ≡ hand → 0 < length out → IsLastOf hand cause out → IsStatusNow served g.before sent out
status-now served bytes sent out old cause Empty g none is some words = record {
  text_is = sent-before served bytes sent old Empty g none is ∙ append-nil (answers served g.before);
  status = word-status cause out some words;
}
status-now served bytes sent out old cause (Decided turn) g none is some words = record {
  text_is = sent-before served bytes sent old (Decided turn) g none is ∙ append-nil (answers served g.before);
  status = word-status cause out some words;
}
status-now served bytes sent out old cause (Tiles turn plan done) g none is some words =
    absurd (let len : length out ≡ 0 = ap length words in omega (arith, some, len))

-- there is a turn whose response it replaces
for-turn : (served : Served) (bytes sent out : List ℕ) (before others : List Turn) → AreDue (fed fresh bytes) (before ++ others) → ¬ AreAnswers served bytes sent → IsStatusNow served before sent out → IsRefusing served bytes sent out
for-turn served bytes sent out before [] due unanswered now =
    absurd (unanswered (record { turns = before; due = subst (AreDue (fed fresh bytes)) (append-nil before) due; text_is = now.text_is }))
for-turn served bytes sent out before (turn ∷ others) due unanswered now = record {
  before = before;
  turn = turn;
  others = others;
  due = due;
  gone = [];
  text_is = now.text_is ∙ sym (append-nil (answers served before));
  status = now.status;
}

stopped-refusing : (served : Served) (reason : Type 0) (bytes sent : List ℕ) (old new : State) (cause : Fault) → Has served reason bytes sent old → want_of old ≡ want.Work → Stops old.hand new cause → want_of new ≡ want.Write → IsRefusing served bytes sent new.out
stopped-refusing served reason bytes sent old new cause has work stops write =
    let parts = work-parts old work in
    let g : Goes served bytes sent old = subst (HasFor served reason bytes sent old) parts.going has in
    let due = some-due (fed old.held []) in
    let all : AreDue (fed fresh bytes) (g.before ++ (turns_in old.hand ++ due.0)) = subst (λ (w : List ℕ). AreDue (fed fresh w) (g.before ++ (turns_in old.hand ++ due.0))) (append-nil bytes) (g.turns [] due.0 due.1) in
    let now = status-now served bytes sent new.out old cause old.hand g parts.out_is refl (write-some new write) stops.words in
    for-turn served bytes sent new.out g.before (turns_in old.hand ++ due.0) all (unanswered-not served bytes sent (works-unanswered served reason bytes sent old has work)) now

worked-refusing : (served : Served) (reason : Type 0) (bytes sent : List ℕ) (old new : State) (f : Option Fault) → new.fault ≡ f → Has served reason bytes sent old → want_of old ≡ want.Work → IfSome f (Stops old.hand new) → want_of new ≡ want.Write → (new.fault ≡ None) ⊎ IsRefusing served bytes sent new.out
worked-refusing served reason bytes sent old new None is has work stops write = inl is
worked-refusing served reason bytes sent old new (Some cause) is has work stops write =
    inr (stopped-refusing served reason bytes sent old new cause has work stops write)

pub work-passed : (files : Files) (served : Served) (reason wider : Type 0) (wire : Wire) (state new : State) → IsSentOf files served → (reason → wider) → HasPassed served reason state wire → want_of state ≡ want.Work → new.closed ≡ state.closed → HasWorked files served wider state new → HasPassed served wider new wire
work-passed files served reason wider wire state new is why p work same worked = record {
  converses = work-converses files served reason wider unused wire state new is why p.converses work same worked;
  refusing = λ write.
      by-passed (λ bytes sent. (new.fault ≡ None) ⊎ IsRefusing served bytes sent new.out) served reason state wire p.converses
      (worked-refusing served reason p.converses.bytes p.converses.text state new new.fault refl p.converses.has work worked.stops write);
}
