-- How the refusals of the layers below are reported.
use Rattle.ept_base.specs.declared.errors.PutError.{PutError}
use Rattle.ept_base.specs.declared.errors.PutError.TheVariants as put
use Rattle.ept_scan.specs.declared.scan_error.ScanError.{ScanError}
use Rattle.ept_scan.specs.declared.scan_error.ScanError.TheVariants as scan
use Rattle.ept_scan.specs.declared.read_error.ReadError.{ReadError}
use Rattle.ept_scan.specs.declared.read_error.ReadError.TheVariants as read
use Rattle.ept_insert.specs.declared.error.InsertError.{InsertError}
use Rattle.ept_insert.specs.declared.error.InsertError.TheVariants as insert
use Rattle.ept_save.specs.declared.error.SaveError.{SaveError}
use Rattle.ept_save.specs.declared.error.SaveError.TheVariants as save
use Rattle.ept_octree_ckpt.specs.declared.error.PhaseError.{PhaseError}
use Rattle.ept_octree_ckpt.specs.declared.error.PhaseError.TheVariants as phase
use Rattle.ept_publish.specs.declared.error.PublishError.{PublishError}
use Rattle.ept_publish.specs.declared.error.PublishError.TheVariants as publish
use Rattle.ept_plan.specs.declared.error.PlanError.{PlanError}
use Rattle.ept_plan.specs.declared.error.PlanError.TheVariants as plan
use Rattle.ept_build.specs.declared.error.BuildError.{BuildError}
use Rattle.ept_build.specs.declared.error.BuildError.TheVariants.{StoreFault, BadCheckpoint, TileDamaged, Differs, SourceFault, BadLas, OutOfBounds, TooManyPoints, NoBounds, SourceChanged, SpillFault, SpillDamaged, TooManyNodes, Memory}

abbrev pub of_scan : ScanError → BuildError
of_scan scan.SourceFault = SourceFault
of_scan (scan.BadLas source fault) = BadLas source fault
of_scan (scan.OutOfBounds source number) = OutOfBounds source number
of_scan (scan.TooManyPoints source) = TooManyPoints source
of_scan scan.NoBounds = NoBounds
of_scan scan.Memory = Memory

abbrev pub of_plan : PlanError → BuildError
of_plan (plan.Differs d) = Differs d.field d.kept d.given
of_plan (plan.Scan e) = of_scan e

abbrev pub of_read : ReadError → BuildError
of_read read.SourceFault = SourceFault
of_read (read.SourceChanged source number) = SourceChanged source number
of_read read.Memory = Memory

abbrev pub of_insert : InsertError → BuildError
of_insert insert.SourceFault = SourceFault
of_insert (insert.SourceChanged source number) = SourceChanged source number
of_insert insert.SpillFault = SpillFault
of_insert (insert.SpillDamaged kept found at) = SpillDamaged kept found at
of_insert insert.TooManyNodes = TooManyNodes
of_insert insert.Memory = Memory

abbrev pub of_save : SaveError → BuildError
of_save save.StoreFault = StoreFault
of_save (save.BadCheckpoint letter) = BadCheckpoint letter
of_save (save.TileDamaged key) = TileDamaged key
of_save save.Memory = Memory

abbrev pub of_phase : PhaseError → BuildError
of_phase (phase.Save e) = of_save e
of_phase phase.TooManyNodes = TooManyNodes
of_phase phase.SpillFault = SpillFault
of_phase (phase.SpillDamaged kept found at) = SpillDamaged kept found at

abbrev pub of_publish : PublishError → BuildError
of_publish publish.StoreFault = StoreFault
of_publish (publish.TileDamaged key) = TileDamaged key
of_publish publish.Memory = Memory

abbrev pub of_put : PutError → BuildError
of_put put.Failed = StoreFault
of_put put.Memory = Memory
