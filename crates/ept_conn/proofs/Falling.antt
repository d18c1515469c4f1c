-- Each step leaves less to do.
use Rattle.std.proofs.Common.{◌≡◌, ◌∙◌, ◌+◌, ◌-◌, ◌*◌, ◌^◌, ◌<◌, ◌≤◌, ◌⊎◌, inl, inr, ℕ, List, [], ◌∷◌, ◌++◌, length, take, Bool, true, false, ◌||◌, if◌then◌else◌, Option, Some, None, refl, sym, ap, subst, arith, length-append, mul_comm}
use Rattle.std.specs.Prelude.{nat_lt, nat_le}
use Rattle.std.proofs.lemmas.Nat.{mul-add-lt}
use Rattle.ept_http.specs.declared.asked.Asked.{Asked}
use Rattle.ept_http.specs.declared.asked.Asked.TheVariants as asked
use Rattle.ept_query.specs.Parts.{Plan}
use Rattle.ept_conn.specs.declared.turn.Turn.{Turn}
use Rattle.ept_conn.specs.declared.hand.Hand.{Hand}
use Rattle.ept_conn.specs.declared.hand.Hand.TheVariants.{Empty, Decided, Tiles}
use Rattle.ept_conn.specs.declared.end.Fault.{Fault}
use Rattle.ept_conn.specs.declared.end.Fault.TheVariants as fault
use Rattle.ept_conn.specs.declared.end.Want.TheVariants as want
use Rattle.ept_conn.specs.HeadEnd.{Short, front_or, front, head_end}
use Rattle.ept_conn.specs.Held.{Held, turns_left}
use Rattle.ept_conn.specs.Turns.{IsNext, IsIdle}
use Rattle.ept_conn.specs.State.{State, want_of, feeds}
use Rattle.ept_conn.specs.Works.{hand_to, hand_at, IsBegun, IsOneStep}
use Rattle.ept_conn.specs.Conversation.{room_of, tasks_of, weighed, stage, busy, rank_of, rank}
use Rattle.ept_conn.proofs.Wanting.{has-none-idle, work-parts, read-parts, write-some}

-- ---- numbers of three digits

weighed-first : (tasks rooms a b c a' b' c' : ℕ) → a' < a → b' ≤ tasks → c' ≤ rooms → weighed tasks rooms a' b' c' < weighed tasks rooms a b c
weighed-first tasks rooms a b c a' b' c' less fits there =
    let one : a' * (tasks + 1) + b' < (tasks + 1) * a = mul-add-lt a' (tasks + 1) b' a less (omega (arith, fits)) in
    let two : a * (tasks + 1) ≡ (tasks + 1) * a = mul_comm a (tasks + 1) in
    let under : a' * (tasks + 1) + b' < a * (tasks + 1) + b = omega (arith, one, two) in
    weighed-last (rooms + 1) (a' * (tasks + 1) + b') c' (a * (tasks + 1) + b) c under (omega (arith, there))
  where
    weighed-last : (w x c' y c : ℕ) → x < y → c' < w → x * w + c' < y * w + c
    weighed-last w x c' y c less there =
        let one : x * w + c' < w * y = mul-add-lt x w c' y less there in
        let two : y * w ≡ w * y = mul_comm y w in
        omega (arith, one, two)

weighed-second : (tasks rooms a b c b' c' : ℕ) → b' < b → c' ≤ rooms → weighed tasks rooms a b' c' < weighed tasks rooms a b c
weighed-second tasks rooms a b c b' c' less there =
    let one : (a * (tasks + 1) + b') * (rooms + 1) + c' < (rooms + 1) * (a * (tasks + 1) + b) = mul-add-lt (a * (tasks + 1) + b') (rooms + 1) c' (a * (tasks + 1) + b) (omega (arith, less)) (omega (arith, there)) in
    let two : (a * (tasks + 1) + b) * (rooms + 1) ≡ (rooms + 1) * (a * (tasks + 1) + b) = mul_comm (a * (tasks + 1) + b) (rooms + 1) in
    omega (arith, one, two)

weighed-third : (tasks rooms a b c c' : ℕ) → c' < c → weighed tasks rooms a b c' < weighed tasks rooms a b c
weighed-third tasks rooms a b c c' less = omega (arith, less)

-- ---- the digits

room-within : (closed : Bool) (bytes : List ℕ) → room_of closed bytes ≤ 8193
room-within true bytes = omega arith
room-within false bytes = omega arith

turns-fall : (k given later : ℕ) (old_ended ended : Bool) → old_ended ≡ false → given < k → later ≡ given + 1 → (if ended then 0 else k - later) < (if old_ended then 0 else k - given)
turns-fall k given later true ended going room up = absurd cc
turns-fall k given later false true going room up = omega (arith, room)
turns-fall k given later false false going room up = omega (arith, room, up)

next-falls : (old new : Held) (turn : Turn) → IsNext old turn new → turns_left new < turns_left old
next-falls old new turn is = turns-fall 65536 old.given new.given old.ended new.ended is.going is.room is.given

tasks-to : (a : Asked) (turn : Turn) → tasks_of (hand_to a turn) ≤ 2 ^ 64
tasks-to (asked.File name) turn = omega arith
tasks-to (asked.Query area first second) turn = omega arith
tasks-to (asked.Select area first second sift) turn = omega arith
tasks-to (asked.Refuse status) turn = omega arith

tasks-at : (turn : Turn) (plan : Plan) (done : ℕ) (b : Bool) → nat_lt (done + 1) (length plan.tiles) ≡ b → done < length plan.tiles → tasks_of (hand_at turn plan (done + 1)) < length plan.tiles - done
tasks-at turn plan done true is within =
    let hand : hand_at turn plan (done + 1) ≡ Tiles turn plan (done + 1) = ap (λ (b : Bool). if b then Tiles turn plan (done + 1) else Empty) is in
    subst (λ (h : Hand). tasks_of h < length plan.tiles - done) (sym hand) (omega (arith, within))
tasks-at turn plan done false is within =
    let hand : hand_at turn plan (done + 1) ≡ Empty = ap (λ (b : Bool). if b then Tiles turn plan (done + 1) else Empty) is in
    subst (λ (h : Hand). tasks_of h < length plan.tiles - done) (sym hand) (omega (arith, within))

begun-tasks : (turn : Turn) (hand : Hand) → IsBegun turn hand → tasks_of hand < 2 ^ 64
begun-tasks turn Empty is = omega arith
begun-tasks turn (Decided other) is = absurd is
begun-tasks turn (Tiles other plan done) is = omega (arith, is.2)

-- ---- one piece of work

same-turns : (old new : Held) → new ≡ old → turns_left new ≡ turns_left old
same-turns old new is = ap turns_left is

one-step-falls : (old new : State) (hand : Hand) → old.hand ≡ hand → new.closed ≡ old.closed → IsOneStep hand old new → stage new < stage old
unfolding stage
one-step-falls old new Empty is same step =
    weighed-first (2 ^ 64) 8193 (turns_left old.held) (tasks_of old.hand) (room_of old.closed old.held.bytes) (turns_left new.held) (tasks_of new.hand) (room_of new.closed new.held.bytes)
    (next-falls old.held new.held step.turn step.next)
    (subst (λ (h : Hand). tasks_of h ≤ 2 ^ 64) (sym step.hand) (tasks-to step.turn.asked step.turn))
    (room-within new.closed new.held.bytes)
one-step-falls old new (Decided turn) is same step =
    let less : tasks_of new.hand < tasks_of old.hand = subst (λ (h : Hand). tasks_of new.hand < tasks_of h) (sym is) (begun-tasks turn new.hand step.1) in
    let fall = weighed-second (2 ^ 64) 8193 (turns_left old.held) (tasks_of old.hand) (room_of old.closed old.held.bytes) (tasks_of new.hand) (room_of new.closed new.held.bytes) less (room-within new.closed new.held.bytes) in
    subst (λ (n : ℕ). weighed (2 ^ 64) 8193 n (tasks_of new.hand) (room_of new.closed new.held.bytes) < weighed (2 ^ 64) 8193 (turns_left old.held) (tasks_of old.hand) (room_of old.closed old.held.bytes)) (sym (same-turns old.held new.held step.0)) fall
one-step-falls old new (Tiles turn plan done) is same step =
    let tasks : tasks_of new.hand < length plan.tiles - done = subst (λ (h : Hand). tasks_of h < length plan.tiles - done) (sym step.2) (tasks-at turn plan done (nat_lt (done + 1) (length plan.tiles)) refl step.0) in
    let less : tasks_of new.hand < tasks_of old.hand = subst (λ (h : Hand). tasks_of new.hand < tasks_of h) (sym is) tasks in
    let fall = weighed-second (2 ^ 64) 8193 (turns_left old.held) (tasks_of old.hand) (room_of old.closed old.held.bytes) (tasks_of new.hand) (room_of new.closed new.held.bytes) less (room-within new.closed new.held.bytes) in
    subst (λ (n : ℕ). weighed (2 ^ 64) 8193 n (tasks_of new.hand) (room_of new.closed new.held.bytes) < weighed (2 ^ 64) 8193 (turns_left old.held) (tasks_of old.hand) (room_of old.closed old.held.bytes)) (sym (same-turns old.held new.held step.1)) fall

-- ---- ranks

busy-one : (out : List ℕ) → busy out ≤ 1
busy-one [] = omega arith
busy-one (b ∷ out) = omega arith

ranks-fall : (f : Option Fault) (left less : ℕ) (out : List ℕ) → (f ≡ None → less < left) → rank_of f less out < rank_of None left []
ranks-fall None left less out fall =
    let one = busy-one out in
    let down = fall refl in
    omega (arith, one, down)
ranks-fall (Some x) left less out fall =
    let one = busy-one out in omega (arith, one)

rests : (f : Option Fault) (left : ℕ) (out : List ℕ) → f ≡ None → out ≡ [] → rank_of f left out ≡ rank_of None left []
rests f left out going none = ap (λ (o : Option Fault). rank_of o left out) going ∙ ap (rank_of None left) none

pub work-falls : (old new : State) → want_of old ≡ want.Work → new.closed ≡ old.closed → (new.fault ≡ None → IsOneStep old.hand old new) → rank new < rank old
unfolding rank
work-falls old new work same step =
    let parts = work-parts old work in
    subst (λ (n : ℕ). rank_of new.fault (stage new) new.out < n) (sym (rests old.fault (stage old) old.out parts.going parts.out_is))
    (ranks-fall new.fault (stage old) (stage new) new.out (λ going. one-step-falls old new old.hand refl same (step going)))

-- ---- reading

short-within : (n : ℕ) (end : Option ℕ) (len : ℕ) → front_or end (nat_le n len) ≡ Short → len < n
short-within n (Some at) len is = absurd cc
short-within n None len is = by-test (nat_le n len) refl is
  where
    by-test : (b : Bool) → nat_le n len ≡ b → front_or None b ≡ Short → len < n
    by-test true test same = absurd cc
    by-test false test same = grind (arith, test)

short-bytes : (bytes : List ℕ) → front bytes ≡ Short → length bytes < 8192
unfolding front
short-bytes bytes is = short-within 8192 (head_end (take 8192 bytes)) (length bytes) is

idle-bytes : (held : Held) → held.ended ≡ false → IsIdle held → length held.bytes < 8192
idle-bytes held going (inl ended) = absurd cc
idle-bytes held going (inr short) = short-bytes held.bytes short

both-false : (closed ended : Bool) → closed || ended ≡ false → (closed ≡ false) × (ended ≡ false)
both-false true ended is = absurd cc
both-false false ended is = (refl, is)

room-falls : (m n k : ℕ) → n < 8192 → k ≡ n + m → 0 < m → 8193 - k < 8193 - n
room-falls m n k less is some = omega (arith, less, is, some)

feeds-fall : (old : State) (piece : List ℕ) → old.closed ≡ false → length old.held.bytes < 8192 → stage (feeds old piece) < stage old
unfolding stage
feeds-fall old [] open_still less =
    let fall : 0 < room_of old.closed old.held.bytes = subst (λ (b : Bool). 0 < room_of b old.held.bytes) (sym open_still) (omega (arith, less)) in
    weighed-third (2 ^ 64) 8193 (turns_left old.held) (tasks_of old.hand) (room_of old.closed old.held.bytes) 0 fall
feeds-fall old (b ∷ piece) open_still less =
    let longer = length-append old.held.bytes (b ∷ piece) in
    let fall : room_of false (old.held.bytes ++ (b ∷ piece)) < room_of false old.held.bytes = room-falls (length (b ∷ piece)) (length old.held.bytes) (length (old.held.bytes ++ (b ∷ piece))) less longer (omega arith) in
    let same : room_of old.closed (old.held.bytes ++ (b ∷ piece)) < room_of old.closed old.held.bytes = subst (λ (c : Bool). room_of c (old.held.bytes ++ (b ∷ piece)) < room_of c old.held.bytes) (sym open_still) fall in
    weighed-third (2 ^ 64) 8193 (turns_left old.held) (tasks_of old.hand) (room_of old.closed old.held.bytes) (room_of old.closed (old.held.bytes ++ (b ∷ piece))) same

feeds-parts : (old : State) (piece : List ℕ) → ((feeds old piece).fault ≡ old.fault) × ((feeds old piece).out ≡ old.out)
feeds-parts old [] = (refl, refl)
feeds-parts old (b ∷ piece) = (refl, refl)

pub fed-falls : (old new : State) (piece : List ℕ) → want_of old ≡ want.Read → (new ≡ feeds old piece) ⊎ (new ≡ record old { fault = Some fault.Memory }) → rank new < rank old
unfolding rank
fed-falls old new piece read (inl is) =
    let parts = read-parts old read in
    let over = both-false old.closed old.held.ended parts.1 in
    let less = idle-bytes old.held over.1 (has-none-idle old.held parts.0.none) in
    let fall = feeds-fall old piece over.0 less in
    let same = feeds-parts old piece in
    subst (λ (s : State). rank_of s.fault (stage s) s.out < rank_of old.fault (stage old) old.out) (sym is)
    (subst (λ (n : ℕ). n < rank_of old.fault (stage old) old.out) (sym (rests (feeds old piece).fault (stage (feeds old piece)) (feeds old piece).out (same.0 ∙ parts.0.going) (same.1 ∙ parts.0.out_is)))
    (subst (λ (n : ℕ). rank_of None (stage (feeds old piece)) [] < n) (sym (rests old.fault (stage old) old.out parts.0.going parts.0.out_is))
    (ranks-fall None (stage old) (stage (feeds old piece)) [] (λ going. fall))))
fed-falls old new piece read (inr is) =
    let parts = read-parts old read in
    subst (λ (s : State). rank_of s.fault (stage s) s.out < rank_of old.fault (stage old) old.out) (sym is)
    (subst (λ (n : ℕ). rank_of (Some fault.Memory) (stage old) old.out < n) (sym (rests old.fault (stage old) old.out parts.0.going parts.0.out_is))
    (ranks-fall (Some fault.Memory) (stage old) (stage old) old.out (λ going. absurd cc)))

-- ---- the link failed, or all bytes to be sent were sent

some-rank : (f : Option Fault) (left : ℕ) (out : List ℕ) → (f ≡ None) ⊎ (0 < length out) → 0 < rank_of f left out
some-rank None left out why = omega arith
some-rank (Some x) left [] (inl is) = absurd cc
some-rank (Some x) left [] (inr some) = absurd (omega (arith, some))
some-rank (Some x) left (b ∷ out) why = omega arith

pub failed-falls : (old new : State) → (want_of old ≡ want.Read) ⊎ (want_of old ≡ want.Write) → new ≡ record old { hand = Empty; out = []; fault = Some fault.Link } → rank new < rank old
unfolding rank
failed-falls old new (inl read) is =
    subst (λ (s : State). rank_of s.fault (stage s) s.out < rank_of old.fault (stage old) old.out) (sym is) (some-rank old.fault (stage old) old.out (inl (read-parts old read).0.going))
failed-falls old new (inr write) is =
    subst (λ (s : State). rank_of s.fault (stage s) s.out < rank_of old.fault (stage old) old.out) (sym is) (some-rank old.fault (stage old) old.out (inr (write-some old write)))

emptied : (f : Option Fault) (left : ℕ) (out : List ℕ) → 0 < length out → rank_of f left [] < rank_of f left out
emptied f left [] some = absurd (omega (arith, some))
emptied None left (b ∷ out) some = omega arith
emptied (Some x) left (b ∷ out) some = omega arith

pub written-falls : (old new : State) → want_of old ≡ want.Write → new ≡ record old { out = [] } → rank new < rank old
unfolding rank stage
written-falls old new write is =
    subst (λ (s : State). rank_of s.fault (stage s) s.out < rank_of old.fault (stage old) old.out) (sym is) (emptied old.fault (stage old) old.out (write-some old write))
