use Rattle.std.proofs.Common.{take}
use Rattle.std.specs.Option.{option_copied}
use Rattle.ept_mem.specs.Named.{content_of}
use Rattle.ept_mem.specs.Disk.{disk, Knows}
use Rattle.ept_mem.proofs.store.latest.Given as goal

abbrev pub invariant-loop-call : goal.invariant-loop-call
invariant-loop-call l =
    Knows (disk (content_of l.first) (take l.call-index l.calls)) l.name (option_copied l.known.reads) (option_copied l.known.stable) l.known.is_touched
