-- How a build of the configuration of a path comes out, whether its result is a summary or a line.
use Rattle.std.specs.Prelude.{◌≡◌, ◌⊎◌, ℕ, List, Option, Some, Result, Err, IsOk, IfErr}
use Rattle.ept_base.specs.Files.{Files, Tells}
use Rattle.ept_ckpt.specs.declared.letter.Letter.{Letter}
use Rattle.ept_save.specs.Opening.{IsBad}
use Rattle.ept_command.specs.declared.refusal.Refusal.{Refusal}
use Rattle.ept_command.specs.declared.refusal.Refusal.TheVariants.{BadCheckpoint}
use Rattle.ept_command.specs.Configurations.{ConfigurationIsRefused}
use Rattle.ept_run.specs.Requests.{IsAcceptedAt, IsDoneAt, ComesAt, DiffersAt, ComesToDamageAt, IsConfigured, IsOfStore, BuildIsRefused, IsOfBuild, IsDefinite, IsEarly, Fails, TellsDifference, TellsDamage}

-- What a build comes to, over a shelf with these files and a store with the old ones before and the new ones after.
-- Begins says that the build begins with these files of the shelf and of the store. Settled says that the store was
-- settled before, and same that nothing was put.
pub record ComesToBuild {A : Type 0} (path : List ℕ) (result : Result A Refusal) (files old : Option Files) (Begins : Files → Files → Type 0) (new : Option Files) (settled same : Type 0) : Type 0 where
  pub refused : IfErr result (λ r. Tells (λ all. BuildIsRefused all Begins path r) files)
  pub causes : IfErr result IsOfBuild
  pub of_store : IfErr result (IsOfStore files old new settled path)
  pub early : IfErr result (λ r. IsEarly r → same)
  pub accepted : (all start : Files) → Begins all start → IsAcceptedAt all start path → IsOk result ⊎ Fails result
  pub done_comes : (all start : Files) → Begins all start → IsDoneAt all start path → IsOk result ⊎ Fails result
  pub refusal_comes : Tells (λ all. (r : Refusal) → IsDefinite r → ConfigurationIsRefused all path r → (result ≡ Err r) ⊎ Fails result) files
  pub comes : (all start : Files) → Begins all start → (r : Refusal) → ComesAt all start r path → (result ≡ Err r) ⊎ Fails result
  pub differs_comes : (all start : Files) → files ≡ Some all → old ≡ Some start → DiffersAt all start path → TellsDifference result ⊎ Fails result
  pub damaged_comes : (all start : Files) → files ≡ Some all → old ≡ Some start → ComesToDamageAt all start path → TellsDamage result ⊎ Fails result
  pub bad_comes : (all start : Files) (letter : Letter) → files ≡ Some all → old ≡ Some start → IsBad start letter → IsConfigured all path → (result ≡ Err (BadCheckpoint letter)) ⊎ Fails result
