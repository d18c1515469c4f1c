-- What is left by a migration, whole or not: sound files, with the checkpoint as it was or the next one.
use Rattle.std.proofs.Common.{◌≡◌, ◌∙◌, ◌⊎◌, inl, inr, ℕ, refl, sym, ap, subst, arith, Option, Some, None}
use Rattle.ept_base.specs.Files.{Files, SameFiles, StepsBy}
use Rattle.ept_base.specs.Moves.{IsSettled, Moves}
use Rattle.ept_base.proofs.Moving.{moves_weaker}
use Rattle.ept_point.specs.declared.layout.Layout.TheVariants.{Old, New}
use Rattle.ept_ckpt.specs.declared.letter.Letter.{Letter}
use Rattle.ept_ckpt.specs.declared.checkpoint.Checkpoint.{Checkpoint}
use Rattle.ept_ckpt.specs.Versions.{layout_of}
use Rattle.ept_save.specs.Names.{other, done_name}
use Rattle.ept_save.specs.Current.{Current, HasCurrent, IsCurrent, Keeps}
use Rattle.ept_save.specs.Done.{IsDone}
use Rattle.ept_save.specs.Migrating.{IsTurnOf, ArePutAgain, Migrates, HasMigrated}
use Rattle.ept_save.specs.Errors.{IsStores}
use Rattle.ept_save.specs.Tiles.{IsOfLayout}
use Rattle.ept_save.specs.View.{View}
use Rattle.ept_save.specs.declared.error.SaveError.{SaveError}
use Rattle.ept_save.specs.SoundLaws.{SameIsSound, MigratingKeepsSound}
use Rattle.ept_save.proofs.NamesDiffer.{done-apart}
use Rattle.ept_save.proofs.TileFiles.{not-old}
use Rattle.ept_save.proofs.Turning.{has-turn, same-turn, the-old}
use Rattle.ept_build.specs.Errors.{of_save}
use Rattle.ept_build.specs.Phases.{IsSoundAt, IsSoundUndone, IsSoundTaken, IsStoreFault, Renews}
use Rattle.ept_build.specs.Reached.{HasTurned}
use Rattle.ept_build.proofs.Moved.{AllAre, all-settled, all-after, moves-after, moves-wider}
use Rattle.ept_build.proofs.Running.{sound-same}

-- files are sound, this is their current checkpoint, and their done gate is closed
pub record IsShutAt (shelf : Files) (current : Current) (files : Files) : Type 0 where
  pub at : IsSoundAt shelf current files
  pub undone : ¬ IsDone files

-- so it is taken as it was
as-it-was : (shelf : Files) (from : Current) (files : Files) → IsSoundAt shelf from files → IsSoundTaken shelf from files
as-it-was shelf from files at = record { sound = at.sound; now = from; has_now = at.has; taken = inl refl }

module _ (same_sound : SameIsSound) (migrating : MigratingKeepsSound) (shelf start : Files) where
  shut-same : (current : Current) (a b : Files) → SameFiles a b → IsShutAt shelf current a → IsShutAt shelf current b
  shut-same current a b same shut = record {
    at = sound-same same_sound shelf current a b shut.at same;
    undone = λ done. shut.undone (sym (same done_name) ∙ done);
  }

  -- ---- one step

  module _ (letter : Letter) (c : Checkpoint) (at_start : IsSoundAt shelf (Some (letter, c)) start) where
    migrated_sound : (a b : Files) → layout_of c.version ≡ Old → (next : Checkpoint) → IsTurnOf c next → IsShutAt shelf (Some (letter, c)) a → Migrates letter c next start a b → IsSoundTaken shelf (Some (letter, c)) b
    migrated_sound a b old next turn shut step = record {
      sound = migrating shelf start a b letter c next old turn at_start.has at_start.sound shut.at.has shut.undone step shut.at.sound;
      now = (now step.either).0;
      has_now = (now step.either).1;
      taken = (now step.either).2;
    }
      where
        now : Keeps (Some (letter, c)) a b ⊎ (IsCurrent b (other letter) next × ArePutAgain start b c.nodes) → (n : Current) × HasCurrent n b × ((n ≡ Some (letter, c)) ⊎ HasTurned (Some (letter, c)) n)
        now (inl keeps) = (Some (letter, c), keeps.same shut.at.has, inl refl)
        now (inr put) = (Some (other letter, next), put.0, inr (record { letter = letter; c = c; was = refl; old = old; next = next; turns = turn; is = refl }))

    some_step : (a b : Files) → IsShutAt shelf (Some (letter, c)) a → Renews (Some (letter, c)) start a b → IsSoundTaken shelf (Some (letter, c)) b
    some_step a b shut (inl same) = as-it-was shelf (Some (letter, c)) b (sound-same same_sound shelf (Some (letter, c)) a b shut.at same)
    some_step a b shut (inr step) =
        let turn = has-turn c step.0 in
        migrated_sound a b step.0 turn.0 turn.1 shut (step.1 turn.0 turn.1)

    some_undone : (a b : Files) → IsShutAt shelf (Some (letter, c)) a → Renews (Some (letter, c)) start a b → ¬ IsDone b
    some_undone a b shut (inl same) = λ done. shut.undone (sym (same done_name) ∙ done)
    some_undone a b shut (inr step) =
        let turn = has-turn c step.0 in
        λ done. shut.undone (sym ((step.1 turn.0 turn.1).apart done_name done-apart) ∙ done)

  renewed-sound : (from : Current) → IsSoundAt shelf from start → (a b : Files) → IsShutAt shelf from a → Renews from start a b → IsSoundTaken shelf from b
  renewed-sound None at a b shut same = as-it-was shelf None b (sound-same same_sound shelf None a b shut.at same)
  renewed-sound (Some (letter, c)) at a b shut step = some_step letter c at a b shut step

  renewed-undone : (from : Current) → IsSoundAt shelf from start → (a b : Files) → IsShutAt shelf from a → Renews from start a b → ¬ IsDone b
  renewed-undone None at a b shut same = λ done. shut.undone (sym (same done_name) ∙ done)
  renewed-undone (Some (letter, c)) at a b shut step = some_undone letter c at a b shut step

  -- ---- a store whose gate was closed, and is settled

  module _ (from : Current) {D : Type 0} (files : D → Option Files) (may_leave : D → Files → Type 0) (moment : D → ℕ) (image_since : D → ℕ → Files → Type 0) (old new : D) (told : files old ≡ Some start) (settled : IsSettled (files old) (may_leave old)) (at : IsSoundAt shelf from start) (undone : ¬ IsDone start) (renews : Moves files may_leave moment image_since (Renews from start) old new) where
    all_shut : AllAre files may_leave moment image_since (IsShutAt shelf from) old
    all_shut = all-settled files may_leave moment image_since (IsShutAt shelf from) (λ a b same shut. shut-same from a b same shut) old start told settled (record { at = at; undone = undone })

    pub renew-moves : Moves files may_leave moment image_since (λ (a b : Files). IsSoundTaken shelf from b) old new
    renew-moves = moves-after files may_leave moment image_since (IsShutAt shelf from) (Renews from start) old new (IsSoundTaken shelf from) (λ a b shut step. renewed-sound from at a b shut step) all_shut renews

    pub renew-images : (image : Files) → may_leave new image → IsSoundUndone shelf image
    renew-images = (all-after files may_leave moment image_since (IsShutAt shelf from) (Renews from start) old new (IsSoundUndone shelf) (λ a b shut step. record { sound = (renewed-sound from at a b shut step).sound; undone = renewed-undone from at a b shut step }) all_shut renews).images

-- ---- after a load

module _ (shelf : Files) (from : Current) {D : Type 0} (files : D → Option Files) (may_leave : D → Files → Type 0) (moment : D → ℕ) (image_since : D → ℕ → Files → Type 0) where
  -- a call that leaves the checkpoint as it was
  pub load-taken : (old new : D) → Moves files may_leave moment image_since (λ (a b : Files). IsSoundAt shelf from b) old new → Moves files may_leave moment image_since (λ (a b : Files). IsSoundTaken shelf from b) old new
  load-taken = moves-wider files may_leave moment image_since (IsSoundAt shelf from) (IsSoundTaken shelf from) (λ b at. as-it-was shelf from b at)

  -- what it reads then
  pub load-at : (old new : D) → Moves files may_leave moment image_since (λ (a b : Files). IsSoundAt shelf from b) old new → (all : Files) → files new ≡ Some all → IsSoundAt shelf from all
  load-at old new moved all told = at (files old) (files new) told moved.reads
    where
      some-one : {x y : Files} → Some x ≡ Some y → x ≡ y
      some-one is = cc

      at : (one two : Option Files) → two ≡ Some all → StepsBy (λ (a b : Files). IsSoundAt shelf from b) one two → IsSoundAt shelf from all
      at None None is steps = absurd (cc)
      at None (Some b) is steps = absurd steps
      at (Some a) None is steps = absurd steps
      at (Some a) (Some b) is steps = subst (IsSoundAt shelf from) (some-one is) steps

-- ---- the migration

pub renews-same : (current : Current) (start a b : Files) → SameFiles a b → Renews current start a b
renews-same None start a b same = same
renews-same (Some (letter, c)) start a b same = inl same

-- if there is nothing to migrate
pub renews-none : {D : Type 0} (files : D → Option Files) (may_leave : D → Files → Type 0) (moment : D → ℕ) (image_since : D → ℕ → Files → Type 0) (current : Current) (start : Files) (d : D) → Moves files may_leave moment image_since (Renews current start) d d
renews-none files may_leave moment image_since current start d = record {
  reads = read (files d);
  leaves = λ image may. (image, may, renews-same current start image image (λ name. refl));
  later = omega arith;
  moments = λ t image le since. inl since;
}
  where
    read : (now : Option Files) → StepsBy (Renews current start) now now
    read None = tt
    read (Some all) = renews-same current start all all (λ name. refl)

-- it has one checkpoint for its next
pub renews-migrated : {D : Type 0} (files : D → Option Files) (may_leave : D → Files → Type 0) (moment : D → ℕ) (image_since : D → ℕ → Files → Type 0) (current : Current) (start : Files) (old new : D) → IsOfLayout Old current → ((letter : Letter) (c next : Checkpoint) → current ≡ Some (letter, c) → IsTurnOf c next → Moves files may_leave moment image_since (Migrates letter c next start) old new) → Moves files may_leave moment image_since (Renews current start) old new
renews-migrated files may_leave moment image_since current start old new is_old each =
    let at = the-old current is_old in
    let turn = has-turn at.0.1 at.2 in
    subst (λ (w : Current). Moves files may_leave moment image_since (Renews w start) old new) (sym at.1)
    (moves_weaker files may_leave moment image_since (Migrates at.0.0 at.0.1 turn.0 start) (Renews (Some (at.0.0, at.0.1)) start) (λ a b step. inr (at.2, (λ next is. subst (λ (n : Checkpoint). Migrates at.0.0 at.0.1 n start a b) (same-turn at.0.1 at.2 turn.0 next turn.1 is) step))) old new
    (each at.0.0 at.0.1 turn.0 at.1 turn.1))

-- and that is of the newest layout
pub migrated-newest : (old new : View) → HasMigrated old new → ¬ IsOfLayout Old new.current
migrated-newest old new m is_old =
    let of : layout_of m.next.version ≡ Old = subst (IsOfLayout Old) (ap (λ (v : View). v.current) m.view_is) is_old in
    let newest : layout_of m.next.version ≡ New = ap layout_of m.turns.version in
    not-old (layout_of m.next.version) newest of

-- ---- a refusal of a checkpoint

pub save-stores : (e : SaveError) → IsStores e → IsStoreFault (of_save e)
save-stores e (inl fault) = inl (ap of_save fault)
save-stores e (inr memory) = inr (ap of_save memory)
