-- How far a build comes, phase by phase, after the checkpoint that it began with.
use Rattle.std.specs.Prelude.{◌≡◌, ◌⊎◌, ℕ, ◌+◌, ◌-◌, ◌*◌, ◌<◌, ◌≤◌, min, Some, None}
use Rattle.ept_base.specs.Files.{Files}
use Rattle.ept_point.specs.declared.layout.Layout.TheVariants.{Old}
use Rattle.ept_config.specs.declared.kept.Kept.{Kept}
use Rattle.ept_ckpt.specs.declared.letter.Letter.{Letter}
use Rattle.ept_ckpt.specs.declared.checkpoint.Checkpoint.{Checkpoint}
use Rattle.ept_ckpt.specs.Versions.{layout_of}
use Rattle.ept_save.specs.Names.{other}
use Rattle.ept_save.specs.Current.{Current, HasCurrent}
use Rattle.ept_save.specs.Migrating.{IsTurnOf}
use Rattle.ept_save.specs.Tiles.{IsOfLayout}
use Rattle.ept_plan.specs.Plans.{inputs_by, inserted_by}

-- how many checkpoints there were, with this one
abbrev pub generation_by : Current → ℕ
generation_by None = 0
generation_by (Some (letter, c)) = c.generation

-- the tiles of the one are of the old layout, and the other is the next one, of the same points
pub record HasTurned (from base : Current) : Type 0 where
  pub letter : Letter
  pub c : Checkpoint
  pub was : from ≡ Some (letter, c)
  pub old : layout_of c.version ≡ Old
  pub next : Checkpoint
  pub turns : IsTurnOf c next
  pub is : base ≡ Some (other letter, next)

-- what a build continues from: the checkpoint that it begins with, or, if the tiles of that are of the old layout, the
-- next one
abbrev pub IsTakenUp : Current → Current → Type 0
IsTakenUp from base = (¬ IsOfLayout Old from × (base ≡ from)) ⊎ HasTurned from base

-- this is what the checkpoint keeps of a configuration
abbrev pub KeepsAs : Kept → Current → Type 0
KeepsAs kept None = ⊥
KeepsAs kept (Some (letter, c)) = c.kept ≡ kept

-- It is `phases` phases later. Each made a checkpoint that keeps this of the configuration, with `step` points more
-- inserted, or with all if fewer were left. Without a phase it is the checkpoint as it was, or none.
pub record IsAfter (from : Current) (kept : Kept) (step all phases : ℕ) (now : Current) : Type 0 where
  pub generation : generation_by now ≡ generation_by from + phases
  pub inserted : inserted_by now ≡ min all (inserted_by from + phases * step)
  pub unchanged : phases ≡ 0 → now ≡ from
  pub keeps : 0 < phases → KeepsAs kept now

-- the current checkpoint of the files is one some phases later
pub record HasGone (from : Current) (kept : Kept) (step all : ℕ) (files : Files) : Type 0 where
  pub now : Current
  pub has_now : HasCurrent now files
  pub phases : ℕ
  pub after : IsAfter from kept step all phases now

-- it is some phases later than what the build continues from
pub record HasReached (from : Current) (kept : Kept) (step all : ℕ) (files : Files) : Type 0 where
  pub base : Current
  pub taken_up : IsTakenUp from base
  pub gone : HasGone base kept step all files

-- For `left` points that are left and `inputs` new inputs, `phases` phases of `step` points are needed. This is the
-- least number that inserts all points, and at least one if an input is new.
pub record AreNeeded (left inputs step phases : ℕ) : Type 0 where
  pub enough : left ≤ phases * step
  pub one : 0 < inputs → 0 < phases
  pub fewest : (others : ℕ) → left ≤ others * step → (0 < inputs → 0 < others) → phases ≤ others

-- It is later by the number of phases that were needed for all points and inputs.
pub record IsThrough (from : Current) (kept : Kept) (step all inputs : ℕ) (now : Current) : Type 0 where
  pub phases : ℕ
  pub after : IsAfter from kept step all phases now
  pub needed : AreNeeded (all - inserted_by from) (inputs - inputs_by from) step phases

-- the current checkpoint of the files is later than what the build continues from, by the phases that were needed for
-- all points and inputs
pub record HasGoneThrough (from : Current) (kept : Kept) (step all inputs : ℕ) (files : Files) : Type 0 where
  pub base : Current
  pub taken_up : IsTakenUp from base
  pub now : Current
  pub has_now : HasCurrent now files
  pub through : IsThrough base kept step all inputs now

-- the current checkpoint of the files is this one, or the next one, which keeps this of the configuration, with this
-- number of points inserted
abbrev pub HasThisOrNext : Current → Kept → ℕ → Files → Type 0
HasThisOrNext current kept inserted files =
    HasCurrent current files
    ⊎ ((next : Current) × HasCurrent next files × (generation_by next ≡ generation_by current + 1) × (inserted_by next ≡ inserted) × KeepsAs kept next)
