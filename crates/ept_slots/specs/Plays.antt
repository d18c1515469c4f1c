-- What each step of the table makes known. The seat m is before the step, the number r was found, and the seat m' is
-- after it.
use Rattle.std.specs.Prelude.{◌≡◌, ◌≢◌, ℕ, ◌+◌, ◌-◌, ◌<◌, ◌≤◌, [], ◌∷◌, Option, Some, None}
use mathlib.Core.Option.{some}
use Rattle.atomic_table.specs.Table.{Me, Step}
use Rattle.ept_slots.specs.declared.slot.Slot.{Slot}
use Rattle.ept_slots.specs.declared.slot.Slot.TheVariants.{Here, Said}
use Rattle.ept_slots.specs.declared.view.View.{View}
use Rattle.ept_slots.specs.Views.{permits_after, taken, given, with_permits, noted, refused}

abbrev pub Seated : Type 0 → Type 0 → Type 0 → Type 0
Seated T N W = Me (Slot T W) (View T N)

module _ {T N W : Type 0} where
  -- it took what lay in the slot k
  abbrev pub Took : (View T N → ℕ → T → N → Type 0) → ℕ → Seated T N W → Seated T N W → Type 0
  Took tells k m m' = (x : T) × (n : N) × (m' ≡ (taken m.0 k x n, (k, Here x) ∷ m.1)) × tells m.0 k x n

  abbrev pub play_take : (View T N → ℕ → T → N → Type 0) → Step (Slot T W) → Seated T N W → ℕ → Seated T N W → Type 0
  play_take tells st m r m' = (k : ℕ) → st.word ≡ k + 2 → (r ≡ st.first → Took tells k m m') × (r ≢ st.first → m' ≡ m)

  abbrev pub play_give : (T → ℕ) → (View T N → T → W → N → Type 0) → Step (Slot T W) → Seated T N W → ℕ → Seated T N W → Type 0
  play_give weight tells st m r m' = (k : ℕ) (y : T) (w : W) → m.1 ≡ (k, Here y) ∷ [] → st.said ≡ some (Said w) → (n : N) × (m' ≡ (given m.0 (permits_after weight m.0 y) n, [])) × tells m.0 y w n

  -- it has one permit more if the number of free permits was as expected
  abbrev pub play_grant : Step (Slot T W) → Seated T N W → ℕ → Seated T N W → Type 0
  play_grant st m r m' = (r ≡ st.first → m' ≡ (with_permits m.0 (m.0.permits + 1), m.1)) × (r ≢ st.first → m' ≡ m)

  -- it has one permit less
  abbrev pub play_return : Step (Slot T W) → Seated T N W → ℕ → Seated T N W → Type 0
  play_return st m r m' = m' ≡ (with_permits m.0 (m.0.permits - 1), m.1)

  abbrev pub play_note : (View T N → W → N → Type 0) → Step (Slot T W) → Seated T N W → ℕ → Seated T N W → Type 0
  play_note tells st m r m' = (w : W) → st.said ≡ some (Said w) → (n : N) × (m' ≡ (noted m.0 n, m.1)) × tells m.0 w n

  abbrev pub play_look : (View T N → ℕ → N → Type 0) → Step (Slot T W) → Seated T N W → ℕ → Seated T N W → Type 0
  play_look tells st m r m' = (n : N) × (m' ≡ (noted m.0 n, m.1)) × tells m.0 r n

  -- a slot was drawn, or all were drawn before
  abbrev pub play_draw : (View T N → Option ℕ → N → Type 0) → Step (Slot T W) → Seated T N W → ℕ → Seated T N W → Type 0
  play_draw tells st m r m' = (n : N) × (r < m.0.most → (m' ≡ (noted m.0 n, m.1)) × tells m.0 (Some (r + 1)) n) × (m.0.most ≤ r → (m' ≡ (refused m.0 n, m.1)) × tells m.0 None n)
