-- What polls of a connection do.
use Rattle.std.specs.Prelude.{◌≡◌, ◌≢◌, ◌⊎◌, ℕ, ◌<◌, ◌≤◌, ⊤, List, [], ◌∷◌, ◌++◌, length, take, true, Some, None}
use Rattle.std.specs.List.{AllByRecursion}
use Rattle.futures.specs.declared.task.Poll.{Poll}
use Rattle.futures.specs.declared.task.Poll.TheVariants.{Ready}
use Rattle.futures.specs.declared.task.context.Context.{Context}
use Rattle.futures.specs.Poll.{IfReady, OnPending}
use Rattle.ept_base.specs.Causes.{Rose}
use Rattle.ept_base.specs.Files.{Files, SameFiles, Tells}
use Rattle.ept_base.specs.Links.{Wire}
use Rattle.ept_base.specs.Moves.{Moves}
use Rattle.ept_base.specs.declared.store.Store.{Ghosts as StoreOf}
use Rattle.ept_query.specs.declared.query_error.QueryFile.{QueryFile}
use Rattle.ept_conn.specs.declared.end.Fault.TheVariants as fault
use Rattle.ept_conn.specs.declared.end.End.{End}
use Rattle.ept_conn.specs.declared.end.End.TheVariants as end
use Rattle.ept_conn.specs.declared.end.Want.TheVariants as want
use Rattle.ept_conn.specs.declared.turn.Turn.{Turn}
use Rattle.ept_conn.specs.Held.{fresh, fed}
use Rattle.ept_conn.specs.Turns.{AreDue}
use Rattle.ept_conn.specs.Answers.{Served, refusal, answers, AreAnswers}
use Rattle.ept_conn.specs.Served.{IsServed, IsSentOf}
use Rattle.ept_conn.specs.State.{State, want_of}
use Rattle.ept_conn.specs.Works.{HasPlanOf, IsDamaged}
use Rattle.ept_conn.specs.Whole.{HasAnswered}
use Rattle.ept_conn.specs.Ends.{IsBroken, IsEnd}
use Rattle.ept_conn.specs.SessionCalls.{SessionCall}
use Rattle.ept_conn.specs.Conversation.{Converses}
use Rattle.ept_poll.specs.declared.link.PollLink.{Ghosts as LinkOf}
use Rattle.ept_poll.specs.declared.conn.PollConn.{PollConn}
use Rattle.ept_poll.specs.Units.{Seen, IsAs, AreUnits}

-- what is seen of a connection
abbrev pub seen : {L T : Type 0} → LinkOf L → StoreOf T → PollConn L T → Seen
seen link store conn = record {
  wire = link.wire conn.link;
  faults = link.faults conn.link;
  files = store.files conn.store;
  store_faults = store.faults conn.store;
  gets = store.gets conn.store;
  state = conn.session;
}

-- it may be polled: a poll does at least one unit, and no poll has reported a fault of the link
pub record IsPollable (turns : ℕ) (state : State) : Type 0 where
  pub some : 0 < turns
  pub clear : state.fault ≢ Some fault.Link

-- ---- since a connection was made

-- a link over which nothing has passed
abbrev pub unused : Wire
unused = record { taken = []; left = []; written = []; reads = [] }

-- a fact about what is visible of the link, by what is sent of a folder
abbrev pub Told : Seen → (Served → Wire → Type 0) → Type 0
Told now fact = (files : Files) → now.files ≡ Some files → (served : Served) → IsSentOf files served → Tells (fact served) now.wire

-- the same for a folder in which each plan and each tile is there
abbrev pub ToldOfWhole : Seen → (Served → Wire → Type 0) → Type 0
ToldOfWhole now fact = (files : Files) → now.files ≡ Some files → (served : Served) → IsServed files served → Tells (fact served) now.wire

-- a status is sent in place of the response to a turn. Some of its bytes have gone out, and the others are to be sent.
pub record IsRefusing (served : Served) (bytes sent out : List ℕ) : Type 0 where
  pub before : List Turn
  pub turn : Turn
  pub others : List Turn
  pub due : AreDue (fed fresh bytes) (before ++ (turn ∷ others))
  pub gone : List ℕ
  pub text_is : sent ≡ answers served before ++ gone
  pub status : (gone ++ out ≡ refusal 503 true) ⊎ (gone ++ out ≡ refusal 507 true)

-- Since nothing had passed, a session was fed what its link read, and what it output was written. If it has bytes to be
-- sent after its end was fixed, they are a status.
pub record HasPassed (served : Served) (reason : Type 0) (state : State) (wire : Wire) : Type 0 where
  pub converses : Converses served reason unused state wire
  pub refusing : want_of state ≡ want.Write → (state.fault ≡ None) ⊎ IsRefusing served wire.taken wire.written state.out

-- What is known of a connection that was made over a link over which nothing had passed. The store's count of faults
-- was `first` then.
pub record Stands (first : ℕ) (now : Seen) : Type 0 where
  pub later : first ≤ now.store_faults
  pub passed : Told now (λ served wire. HasPassed served (Rose first now.store_faults) now.state wire)
  pub plans : (files : Files) → now.files ≡ Some files → HasPlanOf files now.state.hand
  pub damaged : (found : QueryFile) → now.state.fault ≡ Some (fault.Damaged found) → Tells (IsDamaged found) now.files
  pub stores : now.state.fault ≡ Some fault.Store → Rose first now.store_faults

-- a fact of a connection, for each way in which it can have reached its state
abbrev pub Since : Seen → (ℕ → Type 0) → Type 0
Since old fact = (first : ℕ) → Stands first old → fact first

-- ---- what has gone out

-- the bytes that have gone out are a prefix of what may be sent for those that came. Status 503 comes only for this
-- reason, or for a damaged file.
abbrev pub IsFront : Type 0 → Served → Wire → Type 0
IsFront reason served wire = IsBroken served reason wire.taken wire.written

-- they are what is sent at this end
abbrev pub IsEndOver : Type 0 → End → Served → Wire → Type 0
IsEndOver reason ends served wire = IsEnd served reason (wire.left ≡ []) wire.taken wire.written ends

-- they are the responses to every turn of those that came
abbrev pub IsAnswered : Served → Wire → Type 0
IsAnswered served wire = HasAnswered served wire.taken wire.written

-- some turn has no whole response
abbrev pub IsNotAnswered : Served → Wire → Type 0
IsNotAnswered served wire = ¬ AreAnswers served wire.taken wire.written

-- at each read, every turn of the bytes that had come had its response
abbrev pub IsReadAnswered : Served → Wire → Type 0
IsReadAnswered served wire =
    AllByRecursion (λ (at : ℕ × ℕ). HasAnswered served (take at.0 wire.taken) (take at.1 wire.written)) wire.reads

-- the end is neither a fault of a device nor a damaged file
abbrev pub IsWell : End → Type 0
IsWell end.Closed = ⊤
IsWell end.LinkFault = ⊥
IsWell end.StoreFault = ⊥
IsWell (end.Damaged found) = ⊥
IsWell end.Memory = ⊤

-- ---- one poll

-- a read waits, and every turn has its response
pub record IsReading (old new : Seen) (reads : Type 0) : Type 0 where
  pub rose : reads
  pub wanted : want_of new.state ≡ want.Read
  pub answered : Since old (λ first. Told new IsAnswered)

-- a write waits, and some turn has no whole response
pub record IsWriting (old new : Seen) (writes : Type 0) : Type 0 where
  pub rose : writes
  pub wanted : want_of new.state ≡ want.Write
  pub unanswered : Since old (λ first. Told new IsNotAnswered)

-- all `turns` units were done, and the task is to be polled again
pub record HasYielded (turns : ℕ) (calls : List SessionCall) (cx : Context) : Type 0 where
  pub all : length calls ≡ turns
  pub woken : cx.is_woken ≡ true

-- A poll did these units, at most `turns` of them. After them it called the link at most once more, and that call
-- waited. It is pending for one of three causes.
pub record Polls (turns : ℕ) (old : Seen) (answer : Poll End) (new : Seen) (reads writes : Type 0) (cx : Context) : Type 0 where
  pub calls : List SessionCall
  pub few : length calls ≤ turns
  pub last : Seen
  pub units : AreUnits old calls last
  pub rest : IsAs last new
  pub pending : OnPending answer (IsReading old new reads ⊎ (IsWriting old new writes ⊎ HasYielded turns calls cx))

-- what one poll of a connection does
pub record HasPolled {L T : Type 0} (link : LinkOf L) (store : StoreOf T) (old new : PollConn L T) (answer : Poll End) (cx : Context) : Type 0 where
  pub polls : Polls old.turns (seen link store old) answer (seen link store new) (Rose (link.read_waits old.link) (link.read_waits new.link)) (Rose (link.write_waits old.link) (link.write_waits new.link)) cx
  pub stands : Since (seen link store old) (λ first. Stands first (seen link store new))
  pub sends : Since (seen link store old) (λ first. Told (seen link store new) (IsFront (Rose first (store.faults new.store))))
  pub reads : Since (seen link store old) (λ first. Told (seen link store new) IsReadAnswered)
  pub ends : IfReady answer (λ ends. Since (seen link store old) (λ first. Told (seen link store new) (IsEndOver (Rose first (store.faults new.store)) ends)))
  pub over : IfReady answer (λ ends. want_of new.session ≡ want.End ends)
  pub links : answer ≡ Ready end.LinkFault → Rose (link.faults old.link) (link.faults new.link)
  pub stores : answer ≡ Ready end.StoreFault → (old.session.fault ≡ Some fault.Store) ⊎ Rose (store.faults old.store) (store.faults new.store)
  pub damaged : (found : QueryFile) → answer ≡ Ready (end.Damaged found) → Since (seen link store old) (λ _. Tells (IsDamaged found) (store.files new.store))
  pub complete : IfReady answer (λ ends. Since (seen link store old) (λ first. ToldOfWhole (seen link store new) (λ _ _. (¬ Rose (link.faults old.link) (link.faults new.link)) → (¬ Rose first (store.faults new.store)) → IsWell ends)))
  pub turns : new.turns ≡ old.turns
  pub any_moment : Moves store.files store.may_leave store.moment store.image_since SameFiles old.store new.store
