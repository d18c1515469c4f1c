-- The connections of a crowd, one by one.
use Rattle.std.specs.Prelude.{◌≡◌, ◌⊎◌, ℕ, List, [], ◌∷◌, Bool, true, false, map}
use Rattle.futures.specs.declared.task.Poll.{Poll}
use Rattle.futures.specs.declared.task.Poll.TheVariants.{Ready, Pending}
use Rattle.ept_conn.specs.declared.end.End.{End}
use Rattle.ept_poll.specs.declared.conn.PollConn.{PollConn}
use Rattle.ept_poll.specs.Polls.{IsPollable}
use Rattle.ept_crowd.specs.declared.answers.Turned.{Turned}
use Rattle.ept_crowd.specs.declared.answers.Turned.TheVariants as turned
use Rattle.ept_crowd.specs.declared.member.Live.{Live}
use Rattle.ept_crowd.specs.declared.member.Finished.{Finished}

-- a connection may be polled
abbrev pub IsReady : {L T : Type 0} → Live L T → Type 0
IsReady member = IsPollable member.conn.turns member.conn.session

-- the numbers of connections
abbrev pub numbers : {L T : Type 0} → List (Live L T) → List ℕ
numbers {L} {T} live = map (λ (member : Live L T). member.number) live

-- one of the connections has this number
abbrev pub IsAmong : {L T : Type 0} → ℕ → List (Live L T) → Type 0
IsAmong number [] = ⊥
IsAmong number (member ∷ live) = (member.number ≡ number) ⊎ IsAmong number live

-- the same number with the connection as it is after a poll
abbrev pub with_conn : {L T : Type 0} → Live L T → PollConn L T → Live L T
with_conn member conn = record { number = member.number; conn = conn }

-- a connection that has ended
abbrev pub ended_as : {L T : Type 0} → Live L T → End → Finished L T
ended_as member end = record { number = member.number; end = end; conn = member.conn }

-- whether a poll was ready
abbrev pub is_over : {A : Type 0} → Poll A → Bool
is_over (Ready value) = true
is_over Pending = false

-- the number of connections that a turn left live at its place
abbrev pub still : Turned → ℕ
still turned.Gone = 0
still turned.Pending = 1
still turned.Ended = 0
