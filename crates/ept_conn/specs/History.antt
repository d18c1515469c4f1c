-- What a session has sent for the bytes that it was fed.
use Rattle.std.specs.Prelude.{◌≡◌, ℕ, ◌<◌, List, [], ◌∷◌, ◌++◌, true, false, length, Option, Some, None}
use Rattle.std.specs.List.{AllByRecursion}
use Rattle.ept_conn.specs.declared.turn.Turn.{Turn}
use Rattle.ept_conn.specs.declared.end.Fault.{Fault}
use Rattle.ept_conn.specs.declared.end.Fault.TheVariants.{Link, Store, Damaged, Memory}
use Rattle.ept_conn.specs.Held.{fresh, fed}
use Rattle.ept_conn.specs.Turns.{AreDue}
use Rattle.ept_conn.specs.Answers.{Served, answers}
use Rattle.ept_conn.specs.State.{State, IsFit}
use Rattle.ept_conn.specs.InHand.{turns_in, begun_of, rest_of}
use Rattle.ept_conn.specs.Works.{IsPlanned, HasPlanOf}
use Rattle.ept_conn.specs.Whole.{IsWhole, HasTilesDone}
use Rattle.ept_conn.specs.Ends.{has_last, IsCutOff, AreLastWords, EndsBefore, IsBroken}

-- A session that continues. The turns of the bytes fed are those with a response, the turn in hand, and those due in
-- the bytes held, whatever bytes follow. What was sent and is to be sent now is the responses to the first, and the
-- output part of the response in hand. No file that was needed for these is missing or damaged.
pub record Goes (served : Served) (bytes sent : List ℕ) (state : State) : Type 0 where
  pub before : List Turn
  pub turns : (more : List ℕ) (others : List Turn) → AreDue (fed state.held more) others → AreDue (fed fresh (bytes ++ more)) (before ++ (turns_in state.hand ++ others))
  pub over : state.held.ended ≡ true → has_last (before ++ turns_in state.hand) ≡ true
  pub room : state.held.ended ≡ false → state.held.given < 65536
  pub fit : IsFit state.hand
  pub planned : IsPlanned served state.hand
  pub has_plan : HasPlanOf served.files state.hand
  pub tiles : HasTilesDone served.files state.hand
  pub whole : AllByRecursion (IsWhole served.files) before
  pub written : sent ++ state.out ≡ answers served before ++ begun_of served state.hand

-- What a session has sent for the bytes fed. Status 503 is sent only for this reason, or for a damaged file.
abbrev pub HasFor : Served → Type 0 → List ℕ → List ℕ → State → Option Fault → Type 0
HasFor served reason bytes sent state None = Goes served bytes sent state
HasFor served reason bytes sent state (Some Link) = (state.out ≡ []) × IsBroken served reason bytes sent
HasFor served reason bytes sent state (Some Store) =
    reason × IsCutOff served bytes (AreLastWords served Store) (sent ++ state.out)
HasFor served reason bytes sent state (Some (Damaged file)) = IsCutOff served bytes (EndsBefore served file) (sent ++ state.out)
HasFor served reason bytes sent state (Some Memory) =
    IsCutOff served bytes (AreLastWords served Memory) (sent ++ state.out)

abbrev pub Has : Served → Type 0 → List ℕ → List ℕ → State → Type 0
Has served reason bytes sent state = HasFor served reason bytes sent state state.fault

-- some turn of the bytes fed has no whole response: some bytes of its response, or of an earlier one, were not sent
pub record IsUnanswered (served : Served) (bytes sent : List ℕ) : Type 0 where
  pub before : List Turn
  pub turn : Turn
  pub others : List Turn
  pub due : AreDue (fed fresh bytes) (before ++ (turn ∷ others))
  pub unsent : List ℕ
  pub some : 0 < length unsent
  pub text_is : answers served (before ++ turn ∷ []) ≡ sent ++ unsent

-- What is owed is what is to be sent now, the rest of the response in hand, and the responses to the turns due. These
-- are the turns of the bytes held and of `more` after them.
pub record IsOwed (served : Served) (state : State) (more text : List ℕ) : Type 0 where
  pub turns : List Turn
  pub due : AreDue (fed state.held more) turns
  pub text_is : text ≡ state.out ++ (rest_of served state.hand ++ answers served turns)
