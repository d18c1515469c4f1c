-- The visible state of a connection.
use Rattle.std.specs.Prelude.{◌≡◌, ℕ, ◌-◌, ◌<◌, ◌≤◌, List, [], ◌++◌, Bool, true, false, ◌&&◌, not, if◌then◌else◌, length, take, None}
use Rattle.ept_conn.specs.HeadEnd.{head_end, Front, Whole, Long, Short, front}

-- the bytes held, the number of turns returned, and whether the last one was
pub record Held : Type 0 where
  pub bytes : List ℕ
  pub given : ℕ
  pub ended : Bool

-- nothing is held, and no turn was returned
abbrev pub fresh : Held
fresh = record { bytes = []; given = 0; ended = false }

-- the same with these bytes appended to those held
abbrev pub fed : Held → List ℕ → Held
fed held piece = record held { bytes = held.bytes ++ piece }

-- the number of turns that may still come: 65,536 in all, and none once the last was returned
abbrev pub turns_left : Held → ℕ
turns_left held = if held.ended then 0 else 65536 - held.given

-- the first `searched` bytes were searched, and no head ends in them; a connection that has not ended has returned
-- fewer than 65,536 turns
pub record IsSearched (bytes : List ℕ) (searched given : ℕ) (ended : Bool) : Type 0 where
  pub within : searched ≤ length bytes
  pub near : searched ≤ 8192
  pub clear : head_end (take searched bytes) ≡ None
  pub room : (if ended then 0 else given) < 65536

-- bytes begin with a turn
abbrev pub begins : Front → Bool
begins (Whole len) = true
begins Long = true
begins Short = false

-- a turn is due
unfoldable pub has_turn : Held → Bool
has_turn held = not held.ended && begins (front held.bytes)
