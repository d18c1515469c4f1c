-- The turns of a connection as a function, given a judge of heads.
use Rattle.std.specs.Prelude.{◌≡◌, ℕ, suc, zero, List, [], ◌∷◌, Bool, ◌||◌, ◌==◌, if◌then◌else◌, take, drop}
use Rattle.ept_http.specs.declared.asked.Asked.{Asked}
use Rattle.ept_conn.specs.declared.turn.Turn.{Turn}
use Rattle.ept_conn.specs.HeadEnd.{Front, Whole, Long, Short, front}
use Rattle.ept_conn.specs.Held.{Held, fed, turns_left}
use Rattle.ept_conn.specs.Turns.{too_long}

-- the turn of a head, if at most `behind` turns may follow it
abbrev pub turn_of : (List ℕ → Asked × Bool) → ℕ → List ℕ → Turn
turn_of judge behind head = record { asked = (judge head).0; last = (judge head).1 || behind == 0 }

abbrev pub turns_from : (List ℕ → Asked × Bool) → ℕ → (List ℕ → List Turn) → List ℕ → Front → List Turn
turns_from judge behind others bytes Short = []
turns_from judge behind others bytes Long = too_long ∷ []
turns_from judge behind others bytes (Whole len) =
    turn_of judge behind (take len bytes) ∷ (if (turn_of judge behind (take len bytes)).last then [] else others (drop len bytes))

-- the turns of bytes, at most a given number
abbrev pub due : (List ℕ → Asked × Bool) → ℕ → List ℕ → List Turn
due judge zero bytes = []
due judge (suc behind) bytes = turns_from judge behind (due judge behind) bytes (front bytes)

-- the turns due in what is held
unfoldable pub due_of : (List ℕ → Asked × Bool) → Held → List Turn
due_of judge held = due judge (turns_left held) held.bytes

-- whatever bytes follow those held, the turn is the first one due, and those due afterwards are the others
abbrev pub Gives : (List ℕ → Asked × Bool) → Held → Turn → Held → Type 0
Gives judge old turn new = (more : List ℕ) → due_of judge (fed old more) ≡ turn ∷ due_of judge (fed new more)
