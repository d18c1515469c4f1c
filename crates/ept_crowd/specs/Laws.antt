-- Lists of calls of a crowd. Each statement is a clause of a function of `laws`.
use Rattle.std.specs.Prelude.{◌≡◌, ℕ, ◌<◌, ⊤, List, [], ◌∷◌, Bool, Option, Result}
use Rattle.std.specs.List.{AllByRecursion}
use Rattle.futures.specs.declared.task.context.Context.{Context}
use Rattle.ept_base.specs.Causes.{Rose}
use Rattle.ept_base.specs.declared.store.Store.{Ghosts as StoreOf}
use Rattle.ept_conn.specs.declared.end.End.{End}
use Rattle.ept_conn.specs.declared.end.Want.TheVariants as want
use Rattle.ept_conn.specs.State.{want_of}
use Rattle.ept_conn.specs.SessionCalls.{SessionCall}
use Rattle.ept_poll.specs.declared.conn.PollConn.{PollConn}
use Rattle.ept_poll.specs.declared.link.PollLink.{Ghosts as LinkOf}
use Rattle.ept_poll.specs.Units.{Seen}
use Rattle.ept_poll.specs.Polls.{seen, Told, IsFront, IsEndOver, IsReadAnswered}
use Rattle.ept_poll.specs.Runs.{IsNew, HavePolled}
use Rattle.ept_crowd.specs.declared.answers.AddError.{AddError}
use Rattle.ept_crowd.specs.declared.answers.Turned.{Turned}
use Rattle.ept_crowd.specs.declared.member.Live.{Live}
use Rattle.ept_crowd.specs.declared.member.Finished.{Finished}
use Rattle.ept_crowd.specs.Members.{numbers}
use Rattle.ept_crowd.specs.Shown.{Shown, nothing}
use Rattle.ept_crowd.specs.Calls.{HasAdded, HasTaken}
use Rattle.ept_crowd.specs.Turns.{HasTurned, HasTurnedAll}

-- a call of a crowd, with what it was given and what it returned
pub data Call (L T : Type 0) : Type 0 where
  Add : (conn : PollConn L T) (result : Result ℕ (AddError L T)) → Call L T
  Turn : (number : ℕ) (answer : Turned) → Call L T
  TurnAll : (none : Bool) → Call L T
  TakeEnded : (taken : Option (ℕ × End × L × T)) → Call L T

-- what the call did, by its contract
abbrev pub HasDone : {L T : Type 0} → LinkOf L → StoreOf T → Call L T → Shown L T → Shown L T → Type 0
HasDone link store (Add conn result) old new = HasAdded old conn result new
HasDone link store (Turn number answer) old new = (cx : Context) × HasTurned link store number old new cx answer
HasDone link store (TurnAll none) old new = (was : Context) × (cx : Context) × HasTurnedAll link store old new was cx none
HasDone link store (TakeEnded taken) old new = HasTaken old taken new

-- call after call, in any order
abbrev pub HaveDone : {L T : Type 0} → LinkOf L → StoreOf T → Shown L T → List (Call L T) → Shown L T → Type 0
HaveDone link store old [] now = now ≡ old
HaveDone {L} {T} link store old (call ∷ calls) now =
    (next : Shown L T) × HasDone link store call old next × HaveDone link store next calls now

-- a connection was made, and has been polled since. What has gone out is a prefix of what may be sent for the bytes
-- that came. No turn waited for bytes that follow it.
pub record HasBeenServed (now : Seen) : Type 0 where
  pub first : Seen
  pub made : IsNew first
  pub polls : List (List SessionCall)
  pub polled : HavePolled first polls now
  pub sends : Told now (IsFront (Rose first.store_faults now.store_faults))
  pub reads : Told now IsReadAnswered

-- it has ended, and what has gone out is what is sent at this end
pub record HasBeenServedTo (end : End) (now : Seen) : Type 0 where
  pub served : HasBeenServed now
  pub wanted : want_of now.state ≡ want.End end
  pub sends : Told now (IsEndOver (Rose served.first.store_faults now.store_faults) end)

-- each connection that is added was made, and may have been polled since
abbrev pub AreMade : {L T : Type 0} → LinkOf L → StoreOf T → List (Call L T) → Type 0
AreMade link store [] = ⊤
AreMade link store (Add conn result ∷ calls) = HasBeenServed (seen link store conn) × AreMade link store calls
AreMade link store (Turn number answer ∷ calls) = AreMade link store calls
AreMade link store (TurnAll none ∷ calls) = AreMade link store calls
AreMade link store (TakeEnded taken ∷ calls) = AreMade link store calls

-- After any list of calls, each connection of the crowd has been served. Each connection that has ended has been served
-- to its end.
abbrev pub EachIsServed : {L T : Type 0} → LinkOf L → StoreOf T → Type 0
EachIsServed {L} {T} link store =
    (calls : List (Call L T)) (now : Shown L T) → AreMade link store calls → HaveDone link store nothing calls now
    → AllByRecursion (λ (member : Live L T). HasBeenServed (seen link store member.conn)) now.live
    × AllByRecursion (λ (one : Finished L T). HasBeenServedTo one.end (seen link store one.conn)) now.ended

-- the numbers ascend, and each is below this bound
abbrev pub AscendBelow : ℕ → List ℕ → Type 0
AscendBelow bound [] = ⊤
AscendBelow bound (n ∷ ns) = (n < bound) × AllByRecursion (λ (later : ℕ). n < later) ns × AscendBelow bound ns

-- the numbers of the live connections ascend, so each is that of one connection
abbrev pub NumbersAscend : {L T : Type 0} → LinkOf L → StoreOf T → Type 0
NumbersAscend {L} {T} link store =
    (calls : List (Call L T)) (now : Shown L T) → HaveDone link store nothing calls now → AscendBelow now.added (numbers now.live)
