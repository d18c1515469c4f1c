use Rattle.std.proofs.Common.{take, sym, subst}
use Rattle.std.specs.Option.{option_copied}
use Rattle.ept_mem.specs.Named.{content_of}
use Rattle.ept_mem.specs.Disk.{Disk, disk, Knows}
use Rattle.ept_mem.proofs.Calls.{disk_front}
use Rattle.ept_mem.proofs.store.latest.Goals as goal

pub loop-call-preserved : goal.loop-call-preserved
loop-call-preserved c =
    subst (λ (d : Disk). Knows d c.args.name.now (option_copied c.after_call-known.result.reads) (option_copied c.after_call-known.result.stable) c.after_call-known.result.is_touched)
    (sym (disk_front (content_of c.args.first.now) c.args.calls.now c.loop-call.call-index c.call-item.result c.loop-call-test.true c.call-item.is))
    (c.after_call-known.ensures (disk (content_of c.args.first.now) (take c.loop-call.call-index c.args.calls.now)) c.loop-call.invariant)
