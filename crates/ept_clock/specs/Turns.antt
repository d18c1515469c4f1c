-- Whose turn it is.
use Rattle.std.specs.Prelude.{◌≡◌, ℕ, ◌<◌, ◌≤◌, ◌⊎◌, List, length, slice_index}
use Rattle.ept_clock.specs.declared.clock.Clock.{Clock}

-- the slot at which the hand is; 0 before the first turn
abbrev pub hand_of : Clock → ℕ
hand_of clock = clock.hand

-- none of the first `count` slots comes after the hand
abbrev pub NoneBehind : ℕ → List ℕ → ℕ → Type 0
NoneBehind hand slots count = (i : ℕ) → i < count → slice_index slots i ≤ hand

-- the slot at this place is the first one after the hand
abbrev pub IsFirstBehind : ℕ → List ℕ → ℕ → Type 0
IsFirstBehind hand slots at = NoneBehind hand slots at × (hand < slice_index slots at)

-- no slot comes after the hand, which begins again at the first slot
abbrev pub BeginsAgain : ℕ → List ℕ → ℕ → Type 0
BeginsAgain hand slots at = NoneBehind hand slots (length slots) × (at ≡ 0)

-- It is the turn of the slot at this place: the first slot after the hand, or the first of all if none is.
pub record IsTurn (hand : ℕ) (slots : List ℕ) (at : ℕ) : Type 0 where
  pub there : at < length slots
  pub next : IsFirstBehind hand slots at ⊎ BeginsAgain hand slots at
