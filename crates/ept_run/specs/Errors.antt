-- What the refusals of a build are passed on as.
use Rattle.ept_build.specs.declared.error.BuildError.{BuildError}
use Rattle.ept_build.specs.declared.error.BuildError.TheVariants as build
use Rattle.ept_command.specs.declared.refusal.Refusal.{Refusal}
use Rattle.ept_command.specs.declared.refusal.Refusal.TheVariants.{BadLas, OutOfBounds, NoBounds, SourceChanged, TooManyPoints, TooManyNodes, Differs, BadCheckpoint, TileDamaged, SourceFault, StoreFault, SpillFault, SpillDamaged, Memory}

-- of a build
abbrev pub of_build : BuildError → Refusal
of_build build.StoreFault = StoreFault
of_build build.SpillFault = SpillFault
of_build (build.SpillDamaged kept found at) = SpillDamaged
of_build (build.BadCheckpoint letter) = BadCheckpoint letter
of_build (build.TileDamaged key) = TileDamaged key
of_build (build.Differs field kept given) = Differs field
of_build build.SourceFault = SourceFault
of_build (build.BadLas source fault) = BadLas source fault
of_build (build.OutOfBounds source number) = OutOfBounds source number
of_build (build.TooManyPoints source) = TooManyPoints source
of_build build.NoBounds = NoBounds
of_build (build.SourceChanged source number) = SourceChanged source number
of_build build.TooManyNodes = TooManyNodes
of_build build.Memory = Memory
