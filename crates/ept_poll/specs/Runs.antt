-- Lists of polls of one connection. Each statement is a clause of a function of `laws`.
use Rattle.std.specs.Prelude.{◌≡◌, List, [], ◌∷◌, Some}
use Rattle.ept_base.specs.Causes.{Rose}
use Rattle.ept_base.specs.Files.{Files, Tells}
use Rattle.ept_base.specs.Links.{Wire}
use Rattle.ept_conn.specs.declared.end.End.{End}
use Rattle.ept_conn.specs.declared.end.Want.TheVariants as want
use Rattle.ept_conn.specs.State.{started, want_of}
use Rattle.ept_conn.specs.SessionCalls.{SessionCall}
use Rattle.ept_conn.specs.Got.{GetsWithin}
use Rattle.ept_poll.specs.Units.{Seen, IsAs, AreUnits}
use Rattle.ept_poll.specs.Polls.{Told, Stands, IsFront, IsEndOver, IsReadAnswered}

-- nothing has passed over a link
pub record IsUnused (wire : Wire) : Type 0 where
  pub taken : wire.taken ≡ []
  pub written : wire.written ≡ []
  pub reads : wire.reads ≡ []

-- a new connection: its session was fed nothing, and nothing has passed over its link, if that is visible
pub record IsNew (conn : Seen) : Type 0 where
  pub fresh : conn.state ≡ started
  pub unused : Tells IsUnused conn.wire

-- poll after poll, each given by the units that it did
abbrev pub HavePolled : Seen → List (List SessionCall) → Seen → Type 0
HavePolled old [] now = now ≡ old
HavePolled old (calls ∷ polls) now =
    (last : Seen) × (next : Seen) × AreUnits old calls last × IsAs last next × HavePolled next polls now

-- after any list of polls, the bytes that have gone out are a prefix of what may be sent for those that came. Status
-- 503 comes only if the store's count of faults rose since the connection was made, or for a damaged file.
abbrev pub SendsFronts : Type 0
SendsFronts =
    (polls : List (List SessionCall)) (old now : Seen) → IsNew old → HavePolled old polls now → Told now (IsFront (Rose old.store_faults now.store_faults))

-- no turn waited for bytes that follow it
abbrev pub AnswersAtReads : Type 0
AnswersAtReads =
    (polls : List (List SessionCall)) (old now : Seen) → IsNew old → HavePolled old polls now → Told now IsReadAnswered

-- if its session is at its end, they are what is sent at that end
abbrev pub EndsAsServed : Type 0
EndsAsServed =
    (polls : List (List SessionCall)) (old now : Seen) (ends : End) → IsNew old → HavePolled old polls now → want_of now.state ≡ want.End ends → Told now (IsEndOver (Rose old.store_faults now.store_faults) ends)

-- since it was made there were no more calls of `get` than the turns of the bytes that came take, whatever the folder
-- holds
abbrev pub GetsForTurns : Type 0
GetsForTurns =
    (polls : List (List SessionCall)) (old now : Seen) → IsNew old → HavePolled old polls now → (files : Files) → now.files ≡ Some files → Tells (λ wire. GetsWithin files old.gets wire.taken now.gets) now.wire

-- so what the clauses of a poll ask for is known after any list of polls
abbrev pub StandsOn : Type 0
StandsOn =
    (polls : List (List SessionCall)) (old now : Seen) → IsNew old → HavePolled old polls now → Stands old.store_faults now
