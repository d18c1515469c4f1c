-- What adding a connection and taking one that has ended do.
use Rattle.std.specs.Prelude.{◌≡◌, ℕ, ◌+◌, ◌-◌, ◌^◌, ◌<◌, [], ◌∷◌, ◌++◌, length, Option, Some, None, Result, Ok, Err}
use Rattle.ept_conn.specs.declared.end.End.{End}
use Rattle.ept_poll.specs.declared.conn.PollConn.{PollConn}
use Rattle.ept_crowd.specs.declared.answers.AddError.{AddError}
use Rattle.ept_crowd.specs.declared.answers.AddError.TheVariants.{Full, Spent, Memory}
use Rattle.ept_crowd.specs.declared.member.Finished.{Finished}
use Rattle.ept_crowd.specs.Shown.{Shown}

-- why a connection is not added; the error returns it
abbrev pub IsRefusal : {L T : Type 0} → Shown L T → PollConn L T → AddError L T → Type 0
IsRefusal old conn (Full back) = (length old.live ≡ 256) × (back ≡ conn)
IsRefusal old conn (Spent back) = (length old.live < 256) × (old.added ≡ 2 ^ 32 - 1) × (back ≡ conn)
IsRefusal old conn (Memory back) = (length old.live < 256) × (old.added < 2 ^ 32 - 1) × (back ≡ conn)

-- with one more connection, whose number is the number of those added before it
abbrev pub with_one : {L T : Type 0} → Shown L T → PollConn L T → Shown L T
with_one old conn = record {
  live = old.live ++ (record { number = old.added; conn = conn } ∷ []);
  ended = old.ended;
  added = old.added + 1;
}

-- a connection was added; or it was not, and nothing has changed
abbrev pub HasAdded : {L T : Type 0} → Shown L T → PollConn L T → Result ℕ (AddError L T) → Shown L T → Type 0
HasAdded old conn (Ok number) new =
    (length old.live < 256) × (old.added < 2 ^ 32 - 1) × (number ≡ old.added) × (new ≡ with_one old conn)
HasAdded old conn (Err error) new = IsRefusal old conn error × (new ≡ old)

-- the first of those that have ended was taken, with its link and its store; nothing was taken if and only if none has
-- ended
abbrev pub HasTaken : {L T : Type 0} → Shown L T → Option (ℕ × End × L × T) → Shown L T → Type 0
HasTaken old None new = (old.ended ≡ []) × (new ≡ old)
HasTaken {L} {T} old (Some taken) new =
    (first : Finished L T) × (old.ended ≡ first ∷ new.ended) × (taken ≡ (first.number, first.end, first.conn.link, first.conn.store))
    × (new.live ≡ old.live) × (new.added ≡ old.added)
