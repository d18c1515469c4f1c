use Rattle.std.proofs.Common.{◌∙◌, ◌≤◌, ◌++◌, List, length, sym, ap, arith}
use Rattle.std.proofs.lemmas.List.{take_all}
use Rattle.ept_merge.specs.declared.joining.PartNode.{PartNode}
use Rattle.ept_merge.specs.Joining.{below_root, all_below}
use Rattle.ept_merge.proofs.Loads.{below-more}
use Rattle.ept_merge.proofs.joining.nodes_below.Goals as goal

pub loop-part-preserved : goal.loop-part-preserved
loop-part-preserved c =
    let i = c.loop-part in
    c.in_ok-append_below.ensures
    ∙ (ap (λ (w : List PartNode). w ++ below_root c.part-item.result) i.invariant ∙ sym (below-more c.args.parts.now i.part-index c.part-item.result c.loop-part-test.true c.part-item.is))

pub returns : goal.returns
returns c =
    let i = c.loop-part in
    let end : length c.args.parts.now ≤ i.part-index = omega arith in
    i.invariant ∙ ap all_below (take_all i.part-index c.args.parts.now end)
