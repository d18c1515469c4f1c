-- A session and the link that it is driven over.
use Rattle.std.specs.Prelude.{◌≡◌, ◌⊎◌, ℕ, ◌+◌, ◌-◌, ◌*◌, ◌^◌, ◌≤◌, List, [], ◌∷◌, Bool, true, false, length, Option, Some, None}
use Rattle.ept_base.specs.Causes.{Rose}
use Rattle.ept_base.specs.Links.{Wire}
use Rattle.ept_conn.specs.declared.hand.Hand.{Hand}
use Rattle.ept_conn.specs.declared.hand.Hand.TheVariants.{Empty, Decided, Tiles}
use Rattle.ept_conn.specs.declared.end.Fault.{Fault}
use Rattle.ept_conn.specs.declared.end.Fault.TheVariants.{Link}
use Rattle.ept_conn.specs.Held.{turns_left}
use Rattle.ept_conn.specs.Answers.{Served}
use Rattle.ept_conn.specs.State.{State}
use Rattle.ept_conn.specs.History.{Has}
use Rattle.ept_conn.specs.Serving.{Passes}

-- from `old` to `new` the session was fed what was read, and what it output was written
pub record Converses (served : Served) (reason : Type 0) (old : Wire) (state : State) (new : Wire) : Type 0 where
  pub bytes : List ℕ
  pub text : List ℕ
  pub passes : Passes served old new bytes text
  pub has : Has served reason bytes text state
  pub closed : state.closed ≡ true → new.left ≡ []

-- what is known of a session and its link since a start is still known afterwards
abbrev pub GoesOn : Served → Type 0 → Type 0 → State → State → Wire → Wire → Type 0
GoesOn served reason wider old new now next =
    (start : Wire) → Converses served reason start old now → Converses served wider start new next

-- the link failed
abbrev pub HasFailed : State → State → Type 0
HasFailed old new = new ≡ record old { hand = Empty; out = []; fault = Some Link }

-- this end was fixed before, or the device's count of faults rose
pub record HasCauseFor (cause : Fault) (old new : State) (before now : ℕ) : Type 0 where
  pub later : before ≤ now
  pub rose : new.fault ≡ Some cause → (old.fault ≡ Some cause) ⊎ Rose before now

-- ---- how much is left to do, however much the peer sends

-- the number of pieces that may still be read before a turn is due
abbrev pub room_of : Bool → List ℕ → ℕ
room_of true bytes = 0
room_of false bytes = 8193 - length bytes

-- at most this number of plans or tiles is still to be fetched for the turn in hand
abbrev pub tasks_of : Hand → ℕ
tasks_of Empty = 0
tasks_of (Decided turn) = 2 ^ 64
tasks_of (Tiles turn plan done) = length plan.tiles - done

-- a number of three digits, of which the last two are at most `tasks` and `rooms`
abbrev pub weighed : ℕ → ℕ → ℕ → ℕ → ℕ → ℕ
weighed tasks rooms a b c = (a * (tasks + 1) + b) * (rooms + 1) + c

-- the turns, the tasks for the turn in hand, and the pieces that are left
unfoldable pub stage : State → ℕ
stage state =
    weighed (2 ^ 64) 8193 (turns_left state.held) (tasks_of state.hand) (room_of state.closed state.held.bytes)

abbrev pub busy : List ℕ → ℕ
busy [] = 0
busy (b ∷ out) = 1

abbrev pub rank_of : Option Fault → ℕ → List ℕ → ℕ
rank_of None left out = 2 + (left + left + busy out)
rank_of (Some fault) left out = busy out

unfoldable pub rank : State → ℕ
rank state = rank_of state.fault (stage state) state.out
