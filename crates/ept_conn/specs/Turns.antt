-- The turns of a connection: the heads in its bytes, one after the other, and what each asks for.
use Rattle.std.specs.Prelude.{◌≡◌, ◌⊎◌, ℕ, ◌+◌, ◌-◌, ◌<◌, suc, zero, List, [], ◌∷◌, Bool, true, false, ◌||◌, ◌==◌, MatchBool, if◌then◌else◌, take, drop}
use Rattle.ept_http.specs.declared.asked.Asked.TheVariants.{Refuse}
use Rattle.ept_http.specs.Answers.{IsAnswer}
use Rattle.ept_conn.specs.declared.turn.Turn.{Turn}
use Rattle.ept_conn.specs.HeadEnd.{Front, Whole, Long, Short, front}
use Rattle.ept_conn.specs.Held.{Held, turns_left}

-- the turn of a head, if at most `behind` turns may follow it. It is the last one if the connection ends with it or no
-- turn may follow.
pub record IsTurnOf (head : List ℕ) (behind : ℕ) (turn : Turn) : Type 0 where
  pub closes : Bool
  pub answer : IsAnswer head turn.asked closes
  pub ends : turn.last ≡ (closes || behind == 0)

-- the turn of bytes in which no head ends within the limit
abbrev pub too_long : Turn
too_long = record { asked = Refuse 431; last = true }

-- ---- all turns

-- the turns of bytes, by what the bytes begin with; `others` states the turns of the bytes after a head
abbrev pub AreFrom : ℕ → (List ℕ → List Turn → Type 0) → List ℕ → Front → List Turn → Type 0
AreFrom behind others bytes Short turns = turns ≡ []
AreFrom behind others bytes Long turns = turns ≡ too_long ∷ []
AreFrom behind others bytes (Whole len) [] = ⊥
AreFrom behind others bytes (Whole len) (turn ∷ turns) =
    IsTurnOf (take len bytes) behind turn × MatchBool turn.last (turns ≡ []) (others (drop len bytes) turns)

-- the turns of bytes, at most a given number. They are the turn of the first head and then those of the bytes after it,
-- up to a last turn.
abbrev pub AreTurns : ℕ → List ℕ → List Turn → Type 0
AreTurns zero bytes turns = turns ≡ []
AreTurns (suc behind) bytes turns = AreFrom behind (AreTurns behind) bytes (front bytes) turns

-- the turns due in what is held
unfoldable pub AreDue : Held → List Turn → Type 0
AreDue held turns = AreTurns (turns_left held) held.bytes turns

-- ---- one turn

-- the first turn of bytes, by what the bytes begin with
abbrev pub IsFirst : ℕ → List ℕ → Front → Turn → Type 0
IsFirst behind bytes Short turn = ⊥
IsFirst behind bytes Long turn = turn ≡ too_long
IsFirst behind bytes (Whole len) turn = IsTurnOf (take len bytes) behind turn

-- the bytes after the head that they begin with
abbrev pub behind_front : Front → List ℕ → List ℕ
behind_front Short bytes = bytes
behind_front Long bytes = bytes
behind_front (Whole len) bytes = drop len bytes

-- the turn is the first one due, and the number of turns rises by one. If it is not the last turn, its head is removed
-- from the bytes.
pub record IsNext (old : Held) (turn : Turn) (new : Held) : Type 0 where
  pub going : old.ended ≡ false
  pub room : old.given < 65536
  pub first : IsFirst (65536 - old.given - 1) old.bytes (front old.bytes) turn
  pub bytes : new.bytes ≡ (if turn.last then old.bytes else behind_front (front old.bytes) old.bytes)
  pub given : new.given ≡ old.given + 1
  pub ended : new.ended ≡ turn.last

-- no turn is due: the last was returned, or fewer than 8,192 bytes are held and no head ends in them
abbrev pub IsIdle : Held → Type 0
IsIdle held = (held.ended ≡ true) ⊎ (front held.bytes ≡ Short)
