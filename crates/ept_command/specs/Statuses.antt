-- The statuses of refusals.
use Rattle.std.specs.Prelude.{ℕ}
use Rattle.ept_command.specs.declared.refusal.Refusal.{Refusal}
use Rattle.ept_command.specs.declared.refusal.Refusal.TheVariants as refusal

-- the status that a refusal ends the program with
abbrev pub status_of : Refusal → ℕ
status_of refusal.Usage = 2
status_of (refusal.BadConfiguration e) = 3
status_of (refusal.BadLas source fault) = 4
status_of (refusal.OutOfBounds source number) = 4
status_of refusal.NoBounds = 4
status_of (refusal.SourceChanged source number) = 4
status_of (refusal.TooManyPoints source) = 5
status_of refusal.TooManyNodes = 5
status_of (refusal.Differs field) = 6
status_of (refusal.BadCheckpoint letter) = 8
status_of (refusal.TileDamaged key) = 8
status_of refusal.SourceFault = 7
status_of refusal.StoreFault = 7
status_of refusal.SpillFault = 7
status_of refusal.SpillDamaged = 8
status_of refusal.Memory = 9
