-- What a crash may leave of a store, now and at each moment of a run of calls.
use Rattle.std.specs.Prelude.{◌⊎◌, ℕ, ◌≤◌, Option, Some, None}
use Rattle.ept_base.specs.Files.{Files, SameFiles, StepsBy}

-- each new image stems from an old one by this step
abbrev pub Follows : (Files → Files → Type 0) → (Files → Type 0) → (Files → Type 0) → Type 0
Follows step old new = (image : Files) → new image → (earlier : Files) × old earlier × step earlier image

-- there is no image that was not there before
abbrev pub NoMore : (Files → Type 0) → (Files → Type 0) → Type 0
NoMore old new = (image : Files) → new image → old image

-- the images are the same as before
abbrev pub SameImages : (Files → Type 0) → (Files → Type 0) → Type 0
SameImages old new = NoMore old new × NoMore new old

-- each image reads as these files
abbrev pub Only : Files → (Files → Type 0) → Type 0
Only files images = (image : Files) → images image → SameFiles files image

-- What is read is the only image. If the contents are not visible, the store has no image.
abbrev pub IsSettled : Option Files → (Files → Type 0) → Type 0
IsSettled None images = (image : Files) → images image → ⊥
IsSettled (Some files) images = Only files images

-- Time passes: an image since t is one from before, or one of now.
pub record Elapses (before now : ℕ) (past since : ℕ → Files → Type 0) (may_leave : Files → Type 0) : Type 0 where
  pub later : before ≤ now
  pub nothing_else : (t : ℕ) (image : Files) → t ≤ before → since t image → past t image ⊎ may_leave image
  pub keeps : (t : ℕ) (image : Files) → t ≤ before → past t image → since t image

-- From old to new the store moves by this step, at every moment: what is read, each image now, and each image since
-- then.
pub record Moves {D : Type 0} (files : D → Option Files) (may_leave : D → Files → Type 0) (moment : D → ℕ) (image_since : D → ℕ → Files → Type 0) (step : Files → Files → Type 0) (old new : D) : Type 0 where
  pub reads : StepsBy step (files old) (files new)
  pub leaves : Follows step (may_leave old) (may_leave new)
  pub later : moment old ≤ moment new
  pub moments : (t : ℕ) (image : Files) → t ≤ moment old → image_since new t image → image_since old t image ⊎ ((earlier : Files) × may_leave old earlier × step earlier image)
