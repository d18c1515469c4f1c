-- Why the work is not taken up at the current checkpoint.
use Rattle.std.specs.Prelude.{◌≡◌, ◌≢◌, ℕ, ◌<◌, take, length, Option, Some, Result, Err}
use Rattle.ept_base.specs.Files.{Files, SameFiles, Tells}
use Rattle.ept_base.specs.Moves.{Moves, SameImages}
use Rattle.ept_space.specs.VoxelKey.{VoxelKey}
use Rattle.ept_save.specs.Opening.{lines_of}
use Rattle.ept_save.specs.View.{View, StandsFor}
use Rattle.ept_octree_ckpt.specs.Loaded.{AreIntact, IsFirstDamaged}
use Rattle.ept_build.specs.declared.error.BuildError.{BuildError}
use Rattle.ept_build.specs.declared.error.BuildError.TheVariants.{TileDamaged, TooManyNodes}
use Rattle.ept_build.specs.Phases.{HasDamage, IsReady}

module _ {D : Type 0} (files : D → Option Files) (may_leave : D → Files → Type 0) (moment : D → ℕ) (image_since : D → ℕ → Files → Type 0) where
  -- If there are too many nodes, the checkpoint has more than there are slots. No tile of the nodes that have slots is
  -- then damaged, and nothing was put. If a tile is reported, it is the first damaged one of the nodes that have slots,
  -- and nothing was put. No tile of sound files is reported.
  pub record FindsCause (view : View) (slots : ℕ) (answer : Result (Unit {0}) BuildError) (old new : D) : Type 0 where
    pub too_many : answer ≡ Err TooManyNodes → slots < length (lines_of view.current)
    pub intact : answer ≡ Err TooManyNodes → Tells (AreIntact view.current (take slots (lines_of view.current))) (files old)
    pub untouched : answer ≡ Err TooManyNodes → Moves files may_leave moment image_since SameFiles old new × SameImages (may_leave old) (may_leave new)
    pub damaged : (key : VoxelKey) → answer ≡ Err (TileDamaged key) → StandsFor view (files old) (may_leave old) → HasDamage view.current key (files new)
    pub first : (key : VoxelKey) (start : Files) → files old ≡ Some start → answer ≡ Err (TileDamaged key) → IsFirstDamaged view.current slots key start × Moves files may_leave moment image_since SameFiles old new
    pub undamaged : (shelf start : Files) → IsReady shelf start view (files old) (may_leave old) → (key : VoxelKey) → answer ≢ Err (TileDamaged key)
