use Rattle.std.proofs.Common.{◌∙◌, List, ap, get_or}
use Rattle.ept_ckpt.specs.declared.node_line.NodeLine.{NodeLine}
use Rattle.ept_merge.proofs.Loads.{first-root}
use Rattle.ept_merge.proofs.root.root_of.Goals as goal

pub returns : goal.returns
returns c =
    let line = c.index-as_slice-0.result in
    first-root c.args.part.now line (c.index-as_slice-0.is ∙ ap (λ (w : List NodeLine). get_or w 0 line) c.as_slice.ensures)
