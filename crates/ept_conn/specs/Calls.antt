-- Lists of calls of a connection, and what holds for each list. Each statement is a clause of a function of `laws`.
use Rattle.std.specs.Prelude.{◌≡◌, ℕ, List, [], ◌∷◌, ◌++◌, Bool, false}
use Rattle.ept_http.specs.declared.asked.Asked.{Asked}
use Rattle.ept_http.specs.Answers.{IsJudge, MayBeAsked}
use Rattle.ept_conn.specs.declared.turn.Turn.{Turn}
use Rattle.ept_conn.specs.Held.{Held, fresh, fed}
use Rattle.ept_conn.specs.Turns.{AreDue, IsNext, IsIdle}
use Rattle.ept_conn.specs.Judged.{due_of, Gives}

-- a piece was fed, a turn was returned, or there was no turn to return; a refused call changed nothing
pub data Call : Type 0 where
  Fed : (piece : List ℕ) → Call
  Gave : (turn : Turn) → Call
  Waited : Call

-- the calls lead from what was held at first to what is held at last
abbrev pub Runs : Held → List Call → Held → Type 0
Runs old [] last = old ≡ last
Runs old (Fed piece ∷ calls) last = (old.ended ≡ false) × Runs (fed old piece) calls last
Runs old (Gave turn ∷ calls) last = (next : Held) × IsNext old turn next × Runs next calls last
Runs old (Waited ∷ calls) last = IsIdle old × Runs old calls last

-- all bytes that were fed
abbrev pub all_fed : List Call → List ℕ
all_fed [] = []
all_fed (Fed piece ∷ calls) = piece ++ all_fed calls
all_fed (Gave turn ∷ calls) = all_fed calls
all_fed (Waited ∷ calls) = all_fed calls

-- all turns that were returned
abbrev pub all_given : List Call → List Turn
all_given [] = []
all_given (Fed piece ∷ calls) = all_given calls
all_given (Gave turn ∷ calls) = turn ∷ all_given calls
all_given (Waited ∷ calls) = all_given calls

-- the turns returned and those that are still due are the turns of all the bytes fed, whatever bytes follow
abbrev pub HoweverCut : Type 0
HoweverCut =
    (calls : List Call) (old last : Held) → Runs old calls last → (more : List ℕ) (turns : List Turn) → AreDue (fed last more) turns → AreDue (fed old (all_fed calls ++ more)) (all_given calls ++ turns)

-- so if no turn is due any more, those returned are all the turns of the bytes fed
abbrev pub AllAreGiven : Type 0
AllAreGiven =
    (calls : List Call) (last : Held) → Runs fresh calls last → IsIdle last → AreDue (fed fresh (all_fed calls)) (all_given calls)

-- bytes have at most one list of turns
abbrev pub TurnsAreOne : Type 0
TurnsAreOne = (held : Held) (a b : List Turn) → AreDue held a → AreDue held b → a ≡ b

-- and there is one
abbrev pub TurnsAreThere : Type 0
TurnsAreThere = (held : Held) → (turns : List Turn) × AreDue held turns

-- the turns that a judge gives are these
abbrev pub JudgeGivesTurns : Type 0
JudgeGivesTurns = (judge : List ℕ → Asked × Bool) (held : Held) → IsJudge judge → AreDue held (due_of judge held)

-- so the turn that was returned is the judge's first one, whatever bytes follow
abbrev pub NextIsGiven : Type 0
NextIsGiven =
    (judge : List ℕ → Asked × Bool) (old new : Held) (turn : Turn) → IsJudge judge → IsNext old turn new → Gives judge old turn new

-- a turn asks only for what may be asked for: a served file, an ordered query or selection, or the status of
-- a refusal
abbrev pub TurnsMayBeAsked : Type 0
TurnsMayBeAsked = (old new : Held) (turn : Turn) → IsNext old turn new → MayBeAsked turn.asked
