use Rattle.ept_filter.proofs.Parts.{part-is}
use Rattle.ept_filter.proofs.layout.Layout.part.Goals as goal

pub returns : goal.returns
returns c = part-is c.args.packed.now c.args.dim _ _ c.requires c.bounds-begin.ensures.begin c.bounds-begin.ensures.end
