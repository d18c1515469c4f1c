-- What a caller shows of its rule for each step. Whatever the table is, the rule still holds after the step, with some
-- new note of the seat. Of this note `then` holds.
use Rattle.std.specs.Prelude.{◌≡◌, ℕ, ◌+◌, ◌<◌, ◌≤◌, List, [], ◌∷◌, ◌++◌, slice_set, Option, Some, None}
use Rattle.ept_slots.specs.declared.view.View.{View}
use Rattle.ept_slots.specs.Views.{At, taken, given, noted, with_permits, refused, left_of, right_of, both_of, spent_view}
use Rattle.ept_slots.specs.Seats.{Seats, IsFree}

module _ {T N : Type 0} (holds : ℕ → List T → List (View T N) → Type 0) (most : ℕ) where
  -- the seat id, whose view is v, takes the slot k, which is free
  abbrev pub Takes : ℕ → View T N → ℕ → (T → N → Type 0) → Type 0
  Takes id v k then = (drawn : ℕ) (items : List T) (views : List (View T N)) (x : T) → Seats most drawn items views → holds drawn items views → At views id v → At items k x → IsFree views k
      → (n : N) × holds drawn items (slice_set views id (taken v k x n)) × then x n

  -- it returns the item y to the slot k, which it holds, and has p permits afterwards
  abbrev pub Gives : ℕ → View T N → ℕ → T → ℕ → (N → Type 0) → Type 0
  Gives id v k y p then = (drawn : ℕ) (items : List T) (views : List (View T N)) → Seats most drawn items views → holds drawn items views → At views id v
      → (n : N) × holds drawn (slice_set items k y) (slice_set views id (given v p n)) × then n

  -- only its note changes
  abbrev pub Notes : ℕ → View T N → (N → Type 0) → Type 0
  Notes id v then = (drawn : ℕ) (items : List T) (views : List (View T N)) → Seats most drawn items views → holds drawn items views → At views id v
      → (n : N) × holds drawn items (slice_set views id (noted v n)) × then n

  -- only its permits change: it has p afterwards
  abbrev pub HasPermits : ℕ → View T N → ℕ → Type 0
  HasPermits id v p = (drawn : ℕ) (items : List T) (views : List (View T N)) → Seats most drawn items views → holds drawn items views → At views id v → holds drawn items (slice_set views id (with_permits v p))

  -- only its note changes, and the step sees how many slots were drawn
  abbrev pub Looks : ℕ → View T N → (ℕ → N → Type 0) → Type 0
  Looks id v then = (drawn : ℕ) (items : List T) (views : List (View T N)) → Seats most drawn items views → holds drawn items views → At views id v
      → (n : N) × holds drawn items (slice_set views id (noted v n)) × then drawn n

  -- it draws the next slot, if there is one
  abbrev pub Draws : ℕ → View T N → (Option ℕ → N → Type 0) → Type 0
  Draws id v then = (drawn : ℕ) (items : List T) (views : List (View T N)) → Seats most drawn items views → holds drawn items views → At views id v → drawn < most
      → (n : N) × holds (drawn + 1) items (slice_set views id (noted v n)) × then (Some (drawn + 1)) n

  -- it is refused, since all were drawn
  abbrev pub IsRefused : ℕ → View T N → (Option ℕ → N → Type 0) → Type 0
  IsRefused id v then = (drawn : ℕ) (items : List T) (views : List (View T N)) → Seats most drawn items views → holds drawn items views → At views id v → most ≤ drawn
      → (n : N) × holds (drawn + 1) items (slice_set views id (refused v n)) × then None n

  -- half of its parts go to a new seat
  abbrev pub Splits : ℕ → View T N → N → N → Type 0
  Splits id v left right = (drawn : ℕ) (items : List T) (views : List (View T N)) → Seats most drawn items views → holds drawn items views → At views id v
      → holds drawn items (slice_set views id (left_of v left) ++ right_of v right ∷ [])

  -- it takes over the parts of the seat j, which holds nothing
  abbrev pub Joins : ℕ → View T N → ℕ → View T N → N → N → Type 0
  Joins id v j w both spent = (drawn : ℕ) (items : List T) (views : List (View T N)) → Seats most drawn items views → holds drawn items views → At views id v → At views j w → ¬ (j ≡ id)
      → holds drawn items (slice_set (slice_set views id (both_of v w both)) j (spent_view spent))
