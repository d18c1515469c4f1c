-- What holds of all that a store reads and may leave, from call to call.
use Rattle.std.proofs.Common.{◌≡◌, ℕ, inl, inr, ⊎_elim, Option, Some, None, arith}
use Rattle.ept_base.specs.Files.{Files, SameFiles, StepsBy, Tells}
use Rattle.ept_base.specs.Moves.{IsSettled, Moves}
use Rattle.ept_base.proofs.Moving.{moves_weaker, moves_both}
use Rattle.ept_save.proofs.Moving.{moves_where}
use Rattle.ept_save.proofs.Standing.{tells_some, settled_some}

module _ {D : Type 0} (files : D → Option Files) (may_leave : D → Files → Type 0) (moment : D → ℕ) (image_since : D → ℕ → Files → Type 0) where
  -- what is read, and each image, has this
  pub record AllAre (Has : Files → Type 0) (d : D) : Type 0 where
    pub read : Tells Has (files d)
    pub images : (image : Files) → may_leave d image → Has image

  -- what is read is an image
  pub all-images : (Has : Files → Type 0) (d : D) → Tells (may_leave d) (files d) → ((image : Files) → may_leave d image → Has image) → AllAre Has d
  all-images Has d reads each = record { read = read (files d) reads; images = each }
    where
      read : (now : Option Files) → Tells (may_leave d) now → Tells Has now
      read None may = tt
      read (Some all) may = each all may

  -- a settled store reads as each image
  pub all-settled : (Has : Files → Type 0) → ((a b : Files) → SameFiles a b → Has a → Has b) → (d : D) (all : Files) → files d ≡ Some all → IsSettled (files d) (may_leave d) → Has all → AllAre Has d
  all-settled Has alike d all told settled has = record {
    read = tells_some Has (files d) all told has;
    images = λ image may. alike all image (settled_some (files d) (may_leave d) all told settled image may) has;
  }

  module _ (Has : Files → Type 0) (step : Files → Files → Type 0) (old new : D) where
    pub all-after : (More : Files → Type 0) → ((a b : Files) → Has a → step a b → More b) → AllAre Has old → Moves files may_leave moment image_since step old new → AllAre More new
    all-after More goes all moved = record {
      read = read (files old) (files new) all.read moved.reads;
      images = λ image may. let was = moved.leaves image may in goes was.0 image (all.images was.0 was.1) was.2;
    }
      where
        read : (one two : Option Files) → Tells Has one → StepsBy step one two → Tells More two
        read None None has steps = tt
        read None (Some b) has steps = absurd steps
        read (Some a) None has steps = absurd steps
        read (Some a) (Some b) has steps = goes a b has steps

    pub moves-after : (More : Files → Type 0) → ((a b : Files) → Has a → step a b → More b) → AllAre Has old → Moves files may_leave moment image_since step old new → Moves files may_leave moment image_since (λ (a b : Files). More b) old new
    moves-after More goes all moved = moves_where files may_leave moment image_since Has step (λ (a b : Files). More b) goes old new all.read all.images moved

  -- nothing has moved
  pub moves-none : (Has : Files → Type 0) (d : D) → AllAre Has d → Moves files may_leave moment image_since (λ (a b : Files). Has b) d d
  moves-none Has d all = record {
    reads = read (files d) all.read;
    leaves = λ image may. (image, may, all.images image may);
    later = omega arith;
    moments = λ t image le since. inl since;
  }
    where
      read : (now : Option Files) → Tells Has now → StepsBy (λ (a b : Files). Has b) now now
      read None has = tt
      read (Some all) has = has

  -- one after the other
  pub moves-then : (Has : Files → Type 0) (old mid new : D) → Moves files may_leave moment image_since (λ (a b : Files). Has b) old mid → Moves files may_leave moment image_since (λ (a b : Files). Has b) mid new → Moves files may_leave moment image_since (λ (a b : Files). Has b) old new
  moves-then Has = moves_both files may_leave moment image_since (λ (a b : Files). Has b) (λ (a b : Files). Has b) (λ (a b : Files). Has b) (λ a b c one two. two) (λ a b one. one)

  pub moves-wider : (Has More : Files → Type 0) → ((b : Files) → Has b → More b) → (old new : D) → Moves files may_leave moment image_since (λ (a b : Files). Has b) old new → Moves files may_leave moment image_since (λ (a b : Files). More b) old new
  moves-wider Has More goes = moves_weaker files may_leave moment image_since (λ (a b : Files). Has b) (λ (a b : Files). More b) (λ a b has. goes b has)

  -- each image has both
  pub moves-two : (One Two : Files → Type 0) (old new : D) → Moves files may_leave moment image_since (λ (a b : Files). One b) old new → Moves files may_leave moment image_since (λ (a b : Files). Two b) old new → Moves files may_leave moment image_since (λ (a b : Files). One b × Two b) old new
  moves-two One Two old new one two = record {
    reads = read (files old) (files new) one.reads two.reads;
    leaves = λ image may. let was = one.leaves image may in (was.0, was.1, (was.2, (two.leaves image may).2));
    later = one.later;
    moments = λ t image le since. ⊎_elim (λ past. inl past) (λ (was : (earlier : Files) × may_leave old earlier × One image). ⊎_elim (λ past. inl past) (λ (also : (earlier : Files) × may_leave old earlier × Two image). inr (was.0, was.1, (was.2, also.2))) (two.moments t image le since)) (one.moments t image le since);
  }
    where
      read : (was now : Option Files) → StepsBy (λ (a b : Files). One b) was now → StepsBy (λ (a b : Files). Two b) was now → StepsBy (λ (a b : Files). One b × Two b) was now
      read None None first second = tt
      read None (Some b) first second = absurd first
      read (Some a) None first second = absurd first
      read (Some a) (Some b) first second = (first, second)
