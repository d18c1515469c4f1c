use Rattle.std.proofs.Common.{arith, lit<}
use Rattle.ept_filter.proofs.Parts.{length-part}
use Rattle.ept_filter.proofs.sifting.passes.Goals as goal

pub admits_class-requires : goal.admits_class-requires
admits_class-requires c =
    let same = c.part.ensures in
    rw same (length-part c.args.packed.now 8 (lit< tt) (omega arith))
