-- Lists of calls of a session over one folder, and what holds for each list. Each statement is a clause of a function
-- of `laws`.
use Rattle.std.specs.Prelude.{◌≡◌, ◌⊎◌, ℕ, List, [], ◌∷◌, ◌++◌, true, IfSome, Some, None}
use Rattle.ept_base.specs.Causes.{Rose}
use Rattle.ept_base.specs.Files.{Files}
use Rattle.ept_query.specs.declared.query_error.QueryFile.{QueryFile}
use Rattle.ept_conn.specs.declared.hand.Hand.TheVariants.{Empty}
use Rattle.ept_conn.specs.declared.end.Fault.TheVariants as fault
use Rattle.ept_conn.specs.declared.end.End.{End}
use Rattle.ept_conn.specs.declared.end.Want.TheVariants as want
use Rattle.ept_conn.specs.Answers.{Served, AreAnswers}
use Rattle.ept_conn.specs.Served.{IsSentOf}
use Rattle.ept_conn.specs.State.{State, started, want_of, feeds}
use Rattle.ept_conn.specs.Works.{IsPlanned, HasPlanOf, Works, Stops, IsDamagedIn}
use Rattle.ept_conn.specs.Whole.{HasAnswered, HasFound}
use Rattle.ept_conn.specs.Ends.{IsEnd}
use Rattle.ept_conn.specs.History.{Has, IsOwed, IsUnanswered}

-- bytes or the end of the input were fed, work was done, bytes were sent, or the link failed
pub data SessionCall : Type 0 where
  Fed : (piece : List ℕ) → SessionCall
  Worked : SessionCall
  Sent : (bytes : List ℕ) → SessionCall
  Failed : SessionCall

-- what a piece of work over the folder leads to; the store is the cause only for this reason
pub record HasWorked (files : Files) (served : Served) (reason : Type 0) (old new : State) : Type 0 where
  pub works : new.fault ≡ None → IsPlanned served old.hand → Works served old new
  pub plans : HasPlanOf files old.hand → HasPlanOf files new.hand
  pub found : new.fault ≡ None → HasFound files old.hand new
  pub stops : IfSome new.fault (Stops old.hand new)
  pub damaged : (file : QueryFile) → new.fault ≡ Some (fault.Damaged file) → IsDamagedIn old.hand file files
  pub stores : new.fault ≡ Some fault.Store → reason

-- a call leads from one state to another
abbrev pub Leads : Files → Served → Type 0 → State → SessionCall → State → Type 0
Leads files served reason old (Fed piece) new =
    (want_of old ≡ want.Read) × ((new ≡ feeds old piece) ⊎ (new ≡ record old { fault = Some fault.Memory }))
Leads files served reason old Worked new = (want_of old ≡ want.Work) × HasWorked files served reason old new
Leads files served reason old (Sent bytes) new =
    (want_of old ≡ want.Write) × (old.out ≡ bytes ++ new.out) × (new ≡ record old { out = new.out })
Leads files served reason old Failed new =
    ((want_of old ≡ want.Read) ⊎ (want_of old ≡ want.Write)) × (new ≡ record old { hand = Empty; out = []; fault = Some fault.Link })

-- a list of calls leads from one state to another
abbrev pub LeadsOn : Files → Served → Type 0 → State → List SessionCall → State → Type 0
LeadsOn files served reason old [] last = last ≡ old
LeadsOn files served reason old (call ∷ calls) last =
    (next : State) × Leads files served reason old call next × LeadsOn files served reason next calls last

-- all bytes that were fed, and all that were sent
abbrev pub fed_by : List SessionCall → List ℕ
fed_by [] = []
fed_by (Fed piece ∷ calls) = piece ++ fed_by calls
fed_by (Worked ∷ calls) = fed_by calls
fed_by (Sent bytes ∷ calls) = fed_by calls
fed_by (Failed ∷ calls) = fed_by calls

abbrev pub sent_by : List SessionCall → List ℕ
sent_by [] = []
sent_by (Fed piece ∷ calls) = sent_by calls
sent_by (Worked ∷ calls) = sent_by calls
sent_by (Sent bytes ∷ calls) = bytes ++ sent_by calls
sent_by (Failed ∷ calls) = sent_by calls

-- After any list of calls on one folder, the bytes sent and to be sent now are what may be sent for the bytes fed.
-- Status 503 is sent only if the store's count of faults rose from `before` to `now`, or for a damaged file.
abbrev pub SendsAnswers : Type 0
SendsAnswers =
    (files : Files) (served : Served) (before now : ℕ) → IsSentOf files served → (calls : List SessionCall) (last : State) → LeadsOn files served (Rose before now) started calls last → Has served (Rose before now) (fed_by calls) (sent_by calls) last

-- if the session is at its end, it is what is sent at that end
abbrev pub EndsSo : Type 0
EndsSo =
    (served : Served) (before now : ℕ) (bytes sent : List ℕ) (last : State) → Has served (Rose before now) bytes sent last → (ends : End) → want_of last ≡ want.End ends → IsEnd served (Rose before now) (last.closed ≡ true) bytes sent ends

-- if it wants to read, each turn of the bytes fed has its response, and all of these were sent
abbrev pub ReadsAnswered : Type 0
ReadsAnswered =
    (served : Served) (before now : ℕ) (bytes sent : List ℕ) (last : State) → Has served (Rose before now) bytes sent last → want_of last ≡ want.Read → HasAnswered served bytes sent

-- if it wants to work, some turn of the bytes fed has no whole response
abbrev pub WorksUnanswered : Type 0
WorksUnanswered =
    (served : Served) (before now : ℕ) (bytes sent : List ℕ) (last : State) → Has served (Rose before now) bytes sent last → want_of last ≡ want.Work → IsUnanswered served bytes sent

-- for a session that continues, what was sent and what is owed are the responses to all the bytes fed, whatever bytes
-- follow
abbrev pub OwesTheRest : Type 0
OwesTheRest =
    (served : Served) (before now : ℕ) (bytes sent : List ℕ) (last : State) → Has served (Rose before now) bytes sent last → last.fault ≡ None → (more text : List ℕ) → IsOwed served last more text → AreAnswers served (bytes ++ more) (sent ++ text)
