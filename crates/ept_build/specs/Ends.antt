-- How what is left of a build ends, once there is a plan.
use Rattle.std.specs.Prelude.{◌≡◌, ◌⊎◌, ℕ, Option, Result, Err, IfOk, IfErr}
use Rattle.ept_base.specs.Files.{Files, SameFiles, Tells}
use Rattle.ept_base.specs.Moves.{IsSettled, Moves}
use Rattle.ept_config.specs.declared.config.Config.{Config}
use Rattle.ept_space.specs.VoxelKey.{VoxelKey}
use Rattle.ept_save.specs.Current.{Current}
use Rattle.ept_save.specs.Loading.{IsDamaged}
use Rattle.ept_octree_ckpt.specs.Loaded.{HasSlot, IsFirstDamaged}
use Rattle.ept_build.specs.declared.error.BuildError.{BuildError}
use Rattle.ept_build.specs.declared.error.BuildError.TheVariants.{TileDamaged, TooManyNodes}
use Rattle.ept_build.specs.declared.summary.Summary.{Summary}
use Rattle.ept_build.specs.Building.{IsBuilt, IsUnderWay, IsStopped, HasTooManyAlready, IsRefusedAt, TellsDamage, Fails}

module _ {D : Type 0} (files : D → Option Files) (may_leave : D → Files → Type 0) (moment : D → ℕ) (image_since : D → ℕ → Files → Type 0) where
  -- From sound files: if it succeeds the files are complete, and at every moment each image is sound, some phases later
  -- than the start. If there are too many nodes, either there were already and nothing was put, or the phases before
  -- the one with too many are kept. Each refusal has its cause in the files or in a count.
  pub record EndsSoundly (all : Files) (config : Config) (current : Current) (start : Files) (answer : Result Summary BuildError) (old new : D) : Type 0 where
    pub built : IfOk answer (λ summary. Tells (IsBuilt all config start summary) (files new))
    pub under_way : Moves files may_leave moment image_since (λ (a b : Files). IsUnderWay all config start b) old new
    pub stopped : answer ≡ Err TooManyNodes → IsSettled (files new) (may_leave new) × ((HasTooManyAlready all config start × Moves files may_leave moment image_since SameFiles old new) ⊎ Tells (IsStopped all config start) (files new))
    pub refused : IfErr answer (IsRefusedAt all config current)

  -- From visible files: if a node with a slot has a damaged tile, a damaged tile is reported, a device fails or memory
  -- runs out. If a tile is damaged, the one that is reported is the first damaged one, and nothing was put.
  pub record FindsDamage (config : Config) (current : Current) (start : Files) (answer : Result Summary BuildError) (old new : D) : Type 0 where
    pub first : (key other : VoxelKey) → IsDamaged current key start → answer ≡ Err (TileDamaged other) → IsFirstDamaged current config.max_nodes other start × Moves files may_leave moment image_since SameFiles old new
    pub comes : (key : VoxelKey) → HasSlot current config.max_nodes key → IsDamaged current key start → TellsDamage answer ⊎ Fails answer
