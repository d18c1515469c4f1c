use Rattle.ept_mem.proofs.Pieces.{piece_is}
use Rattle.ept_mem.proofs.source.MemSourceSource.read.Goals as goal

pub returns-clause-bytes : goal.returns-clause-bytes
returns-clause-bytes c =
    piece_is c.deref.result.now c.args.self.now.bytes.items c.args.into.now c.copy_from_slice.new.self c.args.self.now.place c.min-count.result c.deref.ensures.value c.min-count.ensures c.copy_from_slice.ensures.after
