-- Moves of a store whose images have a fact in common.
use Rattle.std.proofs.Common.{inl, inr, ⊎_elim, ℕ, Option, Some, None}
use Rattle.ept_base.specs.Files.{Files, StepsBy, Tells}
use Rattle.ept_base.specs.Moves.{Moves}

steps_where : (Has : Files → Type 0) (narrow wide : Files → Files → Type 0) → ((a b : Files) → Has a → narrow a b → wide a b) → (old new : Option Files) → Tells Has old → StepsBy narrow old new → StepsBy wide old new
steps_where Has narrow wide widens None None has moved = tt
steps_where Has narrow wide widens None (Some new) has moved = absurd moved
steps_where Has narrow wide widens (Some old) None has moved = absurd moved
steps_where Has narrow wide widens (Some old) (Some new) has moved = widens old new has moved

module _ {D : Type 0} (files : D → Option Files) (may_leave : D → Files → Type 0) (moment : D → ℕ) (image_since : D → ℕ → Files → Type 0) where
  -- what is read and each image has this, and a step from there is a wider one
  pub moves_where : (Has : Files → Type 0) (narrow wide : Files → Files → Type 0) → ((a b : Files) → Has a → narrow a b → wide a b) → (old new : D) → Tells Has (files old) → ((image : Files) → may_leave old image → Has image)
      → Moves files may_leave moment image_since narrow old new → Moves files may_leave moment image_since wide old new
  moves_where Has narrow wide widens old new read images moved = record {
    reads = steps_where Has narrow wide widens (files old) (files new) read moved.reads;
    leaves = λ image now. let was = moved.leaves image now in (was.0, was.1, widens was.0 image (images was.0 was.1) was.2);
    later = moved.later;
    moments = λ t image le since. ⊎_elim (λ past. inl past) (λ (was : (earlier : Files) × may_leave old earlier × narrow earlier image). inr (was.0, was.1, widens was.0 image (images was.0 was.1) was.2)) (moved.moments t image le since);
  }
