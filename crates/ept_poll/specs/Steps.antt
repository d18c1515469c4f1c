-- One unit of a poll, or why none was done.
use Rattle.std.specs.Prelude.{◌≡◌, ◌⊎◌, ℕ, Option, Some, None}
use Rattle.ept_base.specs.Files.{Files}
use Rattle.ept_conn.specs.declared.end.End.{End}
use Rattle.ept_conn.specs.declared.end.Want.TheVariants as want
use Rattle.ept_conn.specs.State.{State, want_of}
use Rattle.ept_conn.specs.SessionCalls.{SessionCall}
use Rattle.ept_poll.specs.declared.link.PollLink.{Ghosts as LinkOf}
use Rattle.ept_poll.specs.Units.{Seen, IsAs, IsUnit}

-- what is seen of a link and its session, together with what a store holds, its count of faults and its calls of `get`
abbrev pub beside : {L : Type 0} → LinkOf L → L → State → Option Files → ℕ → ℕ → Seen
beside is link state files store_faults gets = record {
  wire = is.wire link;
  faults = is.faults link;
  files = files;
  store_faults = store_faults;
  gets = gets;
  state = state;
}

abbrev pub IsSomeUnit : Seen → Seen → Type 0
IsSomeUnit old new = (call : SessionCall) × IsUnit old call new

-- one unit was done; or the session is at its end, and nothing was done
abbrev pub IsUnitOrEnd : Option End → Seen → Seen → Type 0
IsUnitOrEnd None old new = IsSomeUnit old new
IsUnitOrEnd (Some ends) old new = IsAs old new × (want_of new.state ≡ want.End ends)

-- a read waits, or a write does
abbrev pub IsWaitFor : State → Type 0 → Type 0 → Type 0
IsWaitFor state reads writes = (reads × (want_of state ≡ want.Read)) ⊎ (writes × (want_of state ≡ want.Write))
