-- How moves of a store compose.
use Rattle.std.proofs.Common.{inl, inr, ⊎_elim, ℕ, Option, Some, None, arith}
use Rattle.ept_base.specs.Files.{Files, StepsBy}
use Rattle.ept_base.specs.Moves.{Follows, Elapses, Moves}

-- a wider step
pub steps_weaker : {X : Type 0} (narrow wide : X → X → Type 0) → ((a b : X) → narrow a b → wide a b) → (old new : Option X) → StepsBy narrow old new → StepsBy wide old new
steps_weaker narrow wide widens None None moved = tt
steps_weaker narrow wide widens None (Some new) moved = absurd moved
steps_weaker narrow wide widens (Some old) None moved = absurd moved
steps_weaker narrow wide widens (Some old) (Some new) moved = widens old new moved

-- one step, then another
pub steps_both : {X : Type 0} (first second both : X → X → Type 0) → ((a b c : X) → first a b → second b c → both a c) → (old mid new : Option X) → StepsBy first old mid → StepsBy second mid new → StepsBy both old new
steps_both first second both composes None None None f s = tt
steps_both first second both composes None None (Some new) f s = absurd s
steps_both first second both composes None (Some mid) new f s = absurd f
steps_both first second both composes (Some old) None new f s = absurd f
steps_both first second both composes (Some old) (Some mid) None f s = absurd s
steps_both first second both composes (Some old) (Some mid) (Some new) f s = composes old mid new f s

module _ {D : Type 0} (files : D → Option Files) (may_leave : D → Files → Type 0) (moment : D → ℕ) (image_since : D → ℕ → Files → Type 0) where
  -- a call of the store is a move
  pub moves_once : (step : Files → Files → Type 0) (old new : D) → StepsBy step (files old) (files new) → Follows step (may_leave old) (may_leave new)
      → Elapses (moment old) (moment new) (image_since old) (image_since new) (may_leave new) → Moves files may_leave moment image_since step old new
  moves_once step old new reads leaves time = record {
    reads = reads;
    leaves = leaves;
    later = time.later;
    moments = λ t image le since. ⊎_elim (λ past. inl past) (λ now. inr (leaves image now)) (time.nothing_else t image le since);
  }

  pub moves_weaker : (narrow wide : Files → Files → Type 0) → ((a b : Files) → narrow a b → wide a b) → (old new : D) → Moves files may_leave moment image_since narrow old new → Moves files may_leave moment image_since wide old new
  moves_weaker narrow wide widens old new moved = record {
    reads = steps_weaker narrow wide widens (files old) (files new) moved.reads;
    leaves = λ image now. let was = moved.leaves image now in (was.0, was.1, widens was.0 image was.2);
    later = moved.later;
    moments = λ t image le since. ⊎_elim (λ past. inl past) (λ (was : (earlier : Files) × may_leave old earlier × narrow earlier image). inr (was.0, was.1, widens was.0 image was.2)) (moved.moments t image le since);
  }

  -- one move, then another: together a move by a step that covers the first step and the second after it
  pub moves_both : (first second both : Files → Files → Type 0) → ((a b c : Files) → first a b → second b c → both a c) → ((a b : Files) → first a b → both a b) → (old mid new : D)
      → Moves files may_leave moment image_since first old mid → Moves files may_leave moment image_since second mid new → Moves files may_leave moment image_since both old new
  moves_both first second both composes widens old mid new f s = record {
    reads = steps_both first second both composes (files old) (files mid) (files new) f.reads s.reads;
    leaves = λ image now. before image (s.leaves image now);
    later = omega (arith, f.later, s.later);
    moments = λ t image le since. ⊎_elim (λ past. ⊎_elim (λ old_past. inl old_past) (λ (was : (earlier : Files) × may_leave old earlier × first earlier image). inr (was.0, was.1, widens was.0 image was.2)) (f.moments t image le past))
        (λ was. inr (before image was)) (s.moments t image (omega (arith, le, f.later)) since);
  }
    where
      before : (image : Files) → ((earlier : Files) × may_leave mid earlier × second earlier image) → (earlier : Files) × may_leave old earlier × both earlier image
      before image was = let first_was = f.leaves was.0 was.1 in (first_was.0, first_was.1, composes first_was.0 was.0 image first_was.2 was.2)
