-- Why what is left of a build is refused.
use Rattle.std.proofs.Common.{◌≡◌, ◌≢◌, ℕ, refl}
use Rattle.ept_base.specs.Files.{Files}
use Rattle.ept_space.specs.VoxelKey.{VoxelKey}
use Rattle.ept_config.specs.declared.config.Config.{Config}
use Rattle.ept_save.specs.Current.{Current}
use Rattle.ept_build.specs.declared.error.BuildError.{BuildError}
use Rattle.ept_build.specs.declared.error.BuildError.TheVariants.{StoreFault, BadCheckpoint, TileDamaged, Differs, SourceFault, BadLas, OutOfBounds, TooManyPoints, NoBounds, SourceChanged, SpillFault, SpillDamaged, TooManyNodes, Memory}
use Rattle.ept_build.specs.Building.{HasTooManyNodes, IsRefusedAt}
use Rattle.ept_build.specs.Phases.{IsPhaseFault, IsStartFault}

module _ (all : Files) (config : Config) (current : Current) where
  pub phase-refused : (e : BuildError) → IsPhaseFault e → ((key : VoxelKey) → e ≢ TileDamaged key) → ((source number : ℕ) → e ≢ SourceChanged source number) → ((kept found number : ℕ) → e ≢ SpillDamaged kept found number) → (e ≡ TooManyNodes → HasTooManyNodes all config current) → IsRefusedAt all config current e
  phase-refused StoreFault only none same whole many = tt
  phase-refused SourceFault only none same whole many = tt
  phase-refused Memory only none same whole many = tt
  phase-refused TooManyNodes only none same whole many = many refl
  phase-refused (TileDamaged key) only none same whole many = absurd (none key refl)
  phase-refused (SourceChanged source number) only none same whole many = absurd (same source number refl)
  phase-refused SpillFault only none same whole many = tt
  phase-refused (SpillDamaged kept found number) only none same whole many = absurd (whole kept found number refl)
  phase-refused (BadCheckpoint letter) only none same whole many = absurd only
  phase-refused (Differs field kept given) only none same whole many = absurd only
  phase-refused (BadLas source fault) only none same whole many = absurd only
  phase-refused (OutOfBounds source number) only none same whole many = absurd only
  phase-refused (TooManyPoints source) only none same whole many = absurd only
  phase-refused NoBounds only none same whole many = absurd only

  -- before the first phase
  pub start-refused : (e : BuildError) → IsStartFault e → ((key : VoxelKey) → e ≢ TileDamaged key) → (e ≡ TooManyNodes → HasTooManyNodes all config current) → IsRefusedAt all config current e
  start-refused StoreFault only none many = tt
  start-refused SpillFault only none many = tt
  start-refused Memory only none many = tt
  start-refused TooManyNodes only none many = many refl
  start-refused (TileDamaged key) only none many = absurd (none key refl)
  start-refused SourceFault only none many = absurd only
  start-refused (SourceChanged source number) only none many = absurd only
  start-refused (SpillDamaged kept found number) only none many = absurd only
  start-refused (BadCheckpoint letter) only none many = absurd only
  start-refused (Differs field kept given) only none many = absurd only
  start-refused (BadLas source fault) only none many = absurd only
  start-refused (OutOfBounds source number) only none many = absurd only
  start-refused (TooManyPoints source) only none many = absurd only
  start-refused NoBounds only none many = absurd only
