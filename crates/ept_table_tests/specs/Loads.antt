-- A table of slots that are loaded or empty. Each loaded one takes a permit, and nothing else is known of it.
use Rattle.std.specs.Prelude.{◌≡◌, ℕ, Bool, true, false, List, ⊤}
use Rattle.ept_slots.specs.declared.view.View.{View}
use Rattle.ept_slots.specs.Views.{HoldsNothing}

abbrev pub Loader : Type 0
Loader = View Bool ℕ

-- the permits that a slot takes
abbrev pub load_of : Bool → ℕ
load_of true = 1
load_of false = 0

abbrev pub Anything : ℕ → ℕ → List Bool → List Loader → Type 0
Anything permits drawn items views = ⊤

-- the seat holds nothing, and has these numbers of parts and permits
abbrev pub IsIdleWith : Loader → ℕ → ℕ → Type 0
IsIdleWith v parts permits = HoldsNothing v × (v.parts ≡ parts) × (v.permits ≡ permits)
