-- Workers that meet.
use Rattle.std.specs.Prelude.{ℕ, ◌≢◌}
use Rattle.ept_rendezvous.specs.declared.meeting.Entry.{Entry}
use Rattle.ept_rendezvous.specs.declared.meeting.MeetGate.{MeetGate}

-- for how many turns it holds a worker at most
abbrev pub turns_of : MeetGate → ℕ
turns_of gate = gate.turns

-- two workers, in two nodes
abbrev pub AreApart : Entry → Entry → Type 0
AreApart one other = (one.worker ≢ other.worker) × (one.node ≢ other.node)
