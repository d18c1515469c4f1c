-- What turns do.
use Rattle.std.specs.Prelude.{◌≡◌, ◌≢◌, ◌↔◌, ℕ, List, [], ◌∷◌, ◌++◌, map, Bool, IsTrue}
use Rattle.futures.specs.declared.task.Poll.{Poll}
use Rattle.futures.specs.declared.task.Poll.TheVariants.{Ready, Pending}
use Rattle.futures.specs.declared.task.context.Context.{Context}
use Rattle.futures.specs.Poll.{OnPending}
use Rattle.futures.specs.Task.{IsArmed, Keeps}
use Rattle.ept_base.specs.declared.store.Store.{Ghosts as StoreOf}
use Rattle.ept_conn.specs.declared.end.End.{End}
use Rattle.ept_poll.specs.declared.conn.PollConn.{PollConn}
use Rattle.ept_poll.specs.declared.link.PollLink.{Ghosts as LinkOf}
use Rattle.ept_poll.specs.Polls.{HasPolled}
use Rattle.ept_crowd.specs.declared.answers.Turned.{Turned}
use Rattle.ept_crowd.specs.declared.answers.Turned.TheVariants as turned
use Rattle.ept_crowd.specs.declared.member.Live.{Live}
use Rattle.ept_crowd.specs.Members.{numbers, IsAmong, with_conn, ended_as}
use Rattle.ept_crowd.specs.Shown.{Shown}

-- A connection whose poll was pending is still live, at its place. A connection whose poll was ready is the last of
-- those that have ended, with the end that the poll returned.
abbrev pub Goes : {L T : Type 0} → List (Live L T) → Live L T → List (Live L T) → Poll End → Shown L T → Shown L T → Turned → Type 0
Goes front member back Pending old new answer =
    (answer ≡ turned.Pending) × (new.live ≡ front ++ (member ∷ back)) × (new.ended ≡ old.ended)
Goes front member back (Ready end) old new answer =
    (answer ≡ turned.Ended) × (new.live ≡ front ++ back) × (new.ended ≡ old.ended ++ (ended_as member end ∷ []))

-- A turn of one connection: it was polled once. The connections before it and after it are as they were.
pub record IsTurn {L T : Type 0} (link : LinkOf L) (store : StoreOf T) (front : List (Live L T)) (member : Live L T) (back : List (Live L T)) (old new : Shown L T) (cx : Context) (answer : Turned) : Type 0 where
  pub was : old.live ≡ front ++ (member ∷ back)
  pub conn : PollConn L T
  pub poll : Poll End
  pub polled : HasPolled link store member.conn conn poll cx
  pub goes : Goes front (with_conn member conn) back poll old new answer
  pub armed : OnPending poll (IsArmed cx)
  pub added : new.added ≡ old.added

-- it was a turn of the connection with this number
pub record IsTurnOf {L T : Type 0} (link : LinkOf L) (store : StoreOf T) (number : ℕ) (old new : Shown L T) (cx : Context) (answer : Turned) : Type 0 where
  pub front : List (Live L T)
  pub member : Live L T
  pub back : List (Live L T)
  pub number_is : member.number ≡ number
  pub turn : IsTurn link store front member back old new cx answer

-- a turn of a number: no live connection has the number and nothing has changed, or the connection that has it was
-- polled
abbrev pub HasTurned : {L T : Type 0} → LinkOf L → StoreOf T → ℕ → Shown L T → Shown L T → Context → Turned → Type 0
HasTurned link store number old new cx turned.Gone = (¬ IsAmong number old.live) × (new ≡ old)
HasTurned link store number old new cx turned.Pending = IsTurnOf link store number old new cx turned.Pending
HasTurned link store number old new cx turned.Ended = IsTurnOf link store number old new cx turned.Ended

-- turn after turn, each of a number and with its outcome
abbrev pub HaveTurned : {L T : Type 0} → LinkOf L → StoreOf T → List (ℕ × Turned) → Shown L T → Shown L T → Context → Context → Type 0
HaveTurned link store [] old new was cx = (new ≡ old) × (cx ≡ was)
HaveTurned {L} {T} link store (turn ∷ turns) old new was cx =
    (next : Shown L T) × (now : Context) × Keeps was now × HasTurned link store turn.0 old next now turn.1 × HaveTurned link store turns next new now cx

-- the numbers whose turn was pending
abbrev pub pending_in : List (ℕ × Turned) → List ℕ
pending_in [] = []
pending_in ((number, turned.Gone) ∷ turns) = pending_in turns
pending_in ((number, turned.Pending) ∷ turns) = number ∷ pending_in turns
pending_in ((number, turned.Ended) ∷ turns) = pending_in turns

-- One turn for each connection that was live, in order of number. Exactly those whose turn was pending are still live.
pub record HasTurnedAll {L T : Type 0} (link : LinkOf L) (store : StoreOf T) (old new : Shown L T) (was cx : Context) (none : Bool) : Type 0 where
  pub turns : List (ℕ × Turned)
  pub each : map (λ (turn : ℕ × Turned). turn.0) turns ≡ numbers old.live
  pub have : HaveTurned link store turns old new was cx
  pub left : numbers new.live ≡ pending_in turns
  pub none_is : IsTrue none ↔ (new.live ≡ [])
  pub armed : new.live ≢ [] → IsArmed cx
