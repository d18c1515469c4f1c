-- The refusals of workers as refusals of an insertion.
use Rattle.ept_work.specs.declared.error.WorkError.{WorkError}
use Rattle.ept_work.specs.declared.error.WorkError.TheVariants as work
use Rattle.ept_insert.specs.declared.error.InsertError.{InsertError}
use Rattle.ept_insert.specs.declared.error.InsertError.TheVariants.{SourceFault, SourceChanged, SpillFault, SpillDamaged, TooManyNodes, Memory}

abbrev pub of_work : WorkError → InsertError
of_work work.SourceFault = SourceFault
of_work (work.SourceChanged source number) = SourceChanged source number
of_work work.SpillFault = SpillFault
of_work (work.SpillDamaged kept found at) = SpillDamaged kept found at
of_work work.TooManyNodes = TooManyNodes
of_work work.Memory = Memory
