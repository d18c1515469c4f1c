-- The done gate: it is open only if the files of the output are whole.
use Rattle.std.specs.Prelude.{◌≡◌, ℕ, List, Option, Some}
use Rattle.ept_base.specs.Files.{Files, SameBut}
use Rattle.ept_meta.specs.Output.{IsOutsideWork}
use Rattle.ept_save.specs.Names.{done_name}
use Rattle.ept_save.specs.Gates.{IsOpen}

-- the done gate is open
abbrev pub IsDone : Files → Type 0
IsDone files = IsOpen files done_name

-- two folders have the same files of an output
abbrev pub HasOutputOf : Files → Files → Type 0
HasOutputOf one two = (name : List ℕ) → IsOutsideWork name → two name ≡ one name

-- If the done gate is open in what is read or in an image, each image has the output as it is read.
pub record IsGuarded (files : Option Files) (may_leave : Files → Type 0) : Type 0 where
  pub all : Files
  pub told : files ≡ Some all
  pub stable : (some : Files) → may_leave some → IsDone some → (image : Files) → may_leave image → HasOutputOf all image

-- No name but the done gate changes; and where that is open then, the files of the output are those of the start.
pub record Guards (start old new : Files) : Type 0 where
  pub others : SameBut done_name old new
  pub output : IsDone new → HasOutputOf start new
