-- The visible state of a session.
use Rattle.std.specs.Prelude.{ℕ, ◌<◌, ⊤, List, [], ◌∷◌, Bool, true, false, ◌||◌, length, Option, Some, None}
use Rattle.ept_http.specs.Answers.{MayBeAsked}
use Rattle.ept_conn.specs.declared.hand.Hand.{Hand}
use Rattle.ept_conn.specs.declared.hand.Hand.TheVariants.{Empty, Decided, Tiles}
use Rattle.ept_conn.specs.declared.end.Fault.{Fault}
use Rattle.ept_conn.specs.declared.end.Fault.TheVariants as fault
use Rattle.ept_conn.specs.declared.end.End.{End}
use Rattle.ept_conn.specs.declared.end.End.TheVariants as end
use Rattle.ept_conn.specs.declared.end.Want.{Want}
use Rattle.ept_conn.specs.declared.end.Want.TheVariants as want
use Rattle.ept_conn.specs.Held.{Held, fresh, fed, has_turn}

-- `held` is the bytes fed that no turn has taken, the number of turns decided, and whether the last one was. `closed`
-- is true once the end of the input was fed. `hand` is the turn in hand, and `out` the bytes to be sent now. `fault` is
-- why the session ends early, if it does.
pub record State : Type 0 where
  pub held : Held
  pub closed : Bool
  pub hand : Hand
  pub out : List ℕ
  pub fault : Option Fault

-- nothing was fed
abbrev pub started : State
started = record { held = fresh; closed = false; hand = Empty; out = []; fault = None }

-- what a turn in hand asks for may be asked for, and a plan in hand has a next tile
abbrev pub IsFit : Hand → Type 0
IsFit Empty = ⊤
IsFit (Decided turn) = MayBeAsked turn.asked
IsFit (Tiles turn plan done) = done < length plan.tiles

-- ---- what a session wants

abbrev pub end_of : Fault → End
end_of fault.Link = end.LinkFault
end_of fault.Store = end.StoreFault
end_of (fault.Damaged file) = end.Damaged file
end_of fault.Memory = end.Memory

-- If no end is fixed and nothing is to be sent, a session wants to work if a turn is in hand or due. Otherwise it is at
-- its end if the last turn was decided or the end of the input was fed. Otherwise it wants to read.
abbrev pub wants_on : Hand → Bool → Bool → Want
wants_on (Decided turn) due over = want.Work
wants_on (Tiles turn plan done) due over = want.Work
wants_on Empty true over = want.Work
wants_on Empty false true = want.End end.Closed
wants_on Empty false false = want.Read

abbrev pub wants : List ℕ → Option Fault → Hand → Bool → Bool → Want
wants (b ∷ out) fault hand due over = want.Write
wants [] (Some fault) hand due over = want.End (end_of fault)
wants [] None hand due over = wants_on hand due over

-- what a session wants: that its bytes be sent, if there are any; otherwise its end, if one is fixed
unfoldable pub want_of : State → Want
want_of state =
    wants state.out state.fault state.hand (has_turn state.held) (state.closed || state.held.ended)

-- ---- what is fed

-- bytes are kept; an empty piece is the end of the input
abbrev pub feeds : State → List ℕ → State
feeds state [] = record state { closed = true }
feeds state (b ∷ piece) = record state { held = fed state.held (b ∷ piece) }
