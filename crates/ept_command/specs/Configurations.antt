-- Which configuration the file of a path is, on a shelf of these files, and why it can't be read.
use Rattle.std.specs.Prelude.{◌≡◌, ℕ, List, Some, Ok, Err, take, ⊤}
use Rattle.ept_base.specs.Files.{Files}
use Rattle.ept_config.specs.declared.config.Config.{Config}
use Rattle.ept_config_text.specs.declared.config_error.ConfigError.{ConfigError}
use Rattle.ept_config_text.specs.Configuration.{reading}
use Rattle.ept_config.specs.Facts.{facts}
use Rattle.ept_command.specs.declared.refusal.Refusal.{Refusal}
use Rattle.ept_command.specs.declared.refusal.Refusal.TheVariants.{Usage, BadConfiguration, BadLas, OutOfBounds, NoBounds, SourceChanged, TooManyPoints, TooManyNodes, Differs, BadCheckpoint, TileDamaged, SourceFault, StoreFault, SpillFault, SpillDamaged, Memory}

-- these are the first `most` bytes of the file of this path, or all of them if there are fewer
pub record HasFront (files : Files) (path : List ℕ) (most : ℕ) (front : List ℕ) : Type 0 where
  pub bytes : List ℕ
  pub content : files path ≡ Some bytes
  pub front_is : front ≡ take most bytes

-- the file of this path is this configuration
pub record HasConfiguration (files : Files) (path : List ℕ) (config : Config) : Type 0 where
  pub bytes : List ℕ
  pub content : files path ≡ Some bytes
  pub reads : reading bytes ≡ Ok (facts config)

-- it is no configuration, for this cause
pub record HasBadConfiguration (files : Files) (path : List ℕ) (error : ConfigError) : Type 0 where
  pub bytes : List ℕ
  pub content : files path ≡ Some bytes
  pub refused : reading bytes ≡ Err error

-- why it can't be read; a fault of the shelf and out of memory say nothing of files
abbrev pub ConfigurationIsRefused : Files → List ℕ → Refusal → Type 0
ConfigurationIsRefused files path Usage = ⊥
ConfigurationIsRefused files path (BadConfiguration error) = HasBadConfiguration files path error
ConfigurationIsRefused files path (BadLas source fault) = ⊥
ConfigurationIsRefused files path (OutOfBounds source number) = ⊥
ConfigurationIsRefused files path NoBounds = ⊥
ConfigurationIsRefused files path (SourceChanged source number) = ⊥
ConfigurationIsRefused files path (TooManyPoints source) = ⊥
ConfigurationIsRefused files path TooManyNodes = ⊥
ConfigurationIsRefused files path (Differs field) = ⊥
ConfigurationIsRefused files path (BadCheckpoint letter) = ⊥
ConfigurationIsRefused files path (TileDamaged key) = ⊥
ConfigurationIsRefused files path SourceFault = ⊤
ConfigurationIsRefused files path StoreFault = ⊥
ConfigurationIsRefused files path SpillFault = ⊥
ConfigurationIsRefused files path SpillDamaged = ⊥
ConfigurationIsRefused files path Memory = ⊤

-- which causes reading it may have, whatever the files are
abbrev pub IsOfConfiguration : Refusal → Type 0
IsOfConfiguration Usage = ⊥
IsOfConfiguration (BadConfiguration error) = ⊤
IsOfConfiguration (BadLas source fault) = ⊥
IsOfConfiguration (OutOfBounds source number) = ⊥
IsOfConfiguration NoBounds = ⊥
IsOfConfiguration (SourceChanged source number) = ⊥
IsOfConfiguration (TooManyPoints source) = ⊥
IsOfConfiguration TooManyNodes = ⊥
IsOfConfiguration (Differs field) = ⊥
IsOfConfiguration (BadCheckpoint letter) = ⊥
IsOfConfiguration (TileDamaged key) = ⊥
IsOfConfiguration SourceFault = ⊤
IsOfConfiguration StoreFault = ⊥
IsOfConfiguration SpillFault = ⊥
IsOfConfiguration SpillDamaged = ⊥
IsOfConfiguration Memory = ⊤
