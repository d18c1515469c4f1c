use Rattle.std.proofs.Common.{◌∙◌}
use Rattle.ept_mem.specs.Named.{content_of}
use Rattle.ept_mem.specs.Objects.{store_disk}
use Rattle.ept_mem.proofs.Crashing.{crash_spares}
use Rattle.ept_mem.proofs.store.MemStore.crash.Goals as goal

pub returns-clause-image : goal.returns-clause-image
returns-clause-image c = λ name free.
    (c.crash_behind.ensures (content_of c.args.self.first.items)).reads name ∙ crash_spares c.args.how (store_disk c.args.self) name free
