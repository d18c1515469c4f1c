-- The units of a poll: calls of the session, each with what its link and its store did.
use Rattle.std.specs.Prelude.{◌≡◌, ◌⊎◌, ℕ, ◌<◌, ◌≤◌, List, [], ◌∷◌, ◌++◌, length, IfSome, Option, Some, None}
use Rattle.ept_base.specs.Causes.{Rose}
use Rattle.ept_base.specs.Files.{Files, SameFiles, StepsBy, Tells}
use Rattle.ept_base.specs.Links.{Wire, FailsToRead, Writes}
use Rattle.ept_query.specs.declared.query_error.QueryFile.{QueryFile}
use Rattle.ept_conn.specs.declared.hand.Hand.TheVariants.{Empty}
use Rattle.ept_conn.specs.declared.end.Fault.TheVariants as fault
use Rattle.ept_conn.specs.declared.end.Want.TheVariants as want
use Rattle.ept_conn.specs.Answers.{Served}
use Rattle.ept_conn.specs.Served.{IsSentOf}
use Rattle.ept_conn.specs.State.{State, want_of, feeds}
use Rattle.ept_conn.specs.Works.{IsPlanned, HasPlanOf, Works, IsOneStep, GetsIn, Stops, IsDamagedIn}
use Rattle.ept_conn.specs.Whole.{HasFound}
use Rattle.ept_conn.specs.SessionCalls.{SessionCall, Fed, Worked, Sent, Failed}
use Rattle.ept_poll.specs.Links.{ReadsOn}

-- What is seen of a connection. `wire` is what its link moved, if visible, and `faults` the link's count of faults.
-- `files`, `store_faults` and `gets` are what its store holds, its count of faults and its calls of `get`. `state` is
-- its session.
pub record Seen : Type 0 where
  pub wire : Option Wire
  pub faults : ℕ
  pub files : Option Files
  pub store_faults : ℕ
  pub gets : ℕ
  pub state : State

-- only the link's count of faults may have changed
pub record IsAs (old new : Seen) : Type 0 where
  pub wire : new.wire ≡ old.wire
  pub later : old.faults ≤ new.faults
  pub files : new.files ≡ old.files
  pub store_faults : new.store_faults ≡ old.store_faults
  pub gets : new.gets ≡ old.gets
  pub state : new.state ≡ old.state

-- only the link was called
pub record IsOverLink (old new : Seen) : Type 0 where
  pub later : old.faults ≤ new.faults
  pub files : new.files ≡ old.files
  pub store_faults : new.store_faults ≡ old.store_faults
  pub gets : new.gets ≡ old.gets

-- one piece of work was done over the store
pub record IsOverStore (old new : Seen) : Type 0 where
  pub wire : new.wire ≡ old.wire
  pub faults : new.faults ≡ old.faults
  pub later : old.store_faults ≤ new.store_faults
  pub files : StepsBy SameFiles old.files new.files
  pub works : new.state.fault ≡ None → (files : Files) → old.files ≡ Some files → (served : Served) → IsSentOf files served → IsPlanned served old.state.hand → Works served old.state new.state
  pub one_step : new.state.fault ≡ None → IsOneStep old.state.hand old.state new.state
  pub found : new.state.fault ≡ None → (files : Files) → old.files ≡ Some files → HasFound files old.state.hand new.state
  pub plans : (files : Files) → old.files ≡ Some files → HasPlanOf files old.state.hand → HasPlanOf files new.state.hand
  pub gets : GetsIn old.state.hand old.gets new.gets old.files
  pub closed : new.state.closed ≡ old.state.closed
  pub stops : IfSome new.state.fault (Stops old.state.hand new.state)
  pub damaged : (found : QueryFile) → new.state.fault ≡ Some (fault.Damaged found) → Tells (IsDamagedIn old.state.hand found) old.files
  pub stores : new.state.fault ≡ Some fault.Store → Rose old.store_faults new.store_faults

-- One unit is one of four. A read took bytes or met the end of the input, and that was fed. One piece of work was done.
-- A write passed some of the bytes to be sent. The link failed.
abbrev pub IsUnit : Seen → SessionCall → Seen → Type 0
IsUnit old (Fed piece) new =
    (want_of old.state ≡ want.Read) × IsOverLink old new × StepsBy (ReadsOn piece) old.wire new.wire
    × ((new.state ≡ feeds old.state piece) ⊎ (new.state ≡ record old.state { fault = Some fault.Memory }))
IsUnit old Worked new = (want_of old.state ≡ want.Work) × IsOverStore old new
IsUnit old (Sent bytes) new =
    (want_of old.state ≡ want.Write) × IsOverLink old new × StepsBy (Writes bytes) old.wire new.wire
    × (0 < length bytes) × (old.state.out ≡ bytes ++ new.state.out) × (new.state ≡ record old.state { out = new.state.out })
IsUnit old Failed new =
    (((want_of old.state ≡ want.Read) × StepsBy FailsToRead old.wire new.wire) ⊎ ((want_of old.state ≡ want.Write) × (new.wire ≡ old.wire)))
    × IsOverLink old new × Rose old.faults new.faults
    × (new.state ≡ record old.state { hand = Empty; out = []; fault = Some fault.Link })

-- unit after unit
abbrev pub AreUnits : Seen → List SessionCall → Seen → Type 0
AreUnits old [] new = new ≡ old
AreUnits old (call ∷ calls) new = (next : Seen) × IsUnit old call next × AreUnits next calls new
