use Rattle.std.proofs.Common.{◌≤◌, List, length, ap, subst, arith}
use Rattle.std.proofs.lemmas.List.{take_all}
use Rattle.ept_merge.specs.declared.bodies.PartBody.{PartBody}
use Rattle.ept_merge.specs.declared.joining.PartNode.{PartNode}
use Rattle.ept_merge.specs.Joining.{IsUnion}
use Rattle.ept_merge.proofs.Unions.{union-none, union-more}
use Rattle.ept_merge.proofs.root.open_octants.Goals as goal

pub loop-part-init : goal.loop-part-init
loop-part-init c = union-none

pub loop-part-preserved : goal.loop-part-preserved
loop-part-preserved c =
    let i = c.loop-part in
    union-more c.args.parts.now i.part-index c.part-item.result c.loop-part-test.true c.part-item.is i.mask c.root_of-mask.result.line.mask (ap (λ (n : PartNode). n.line.mask) c.root_of-mask.ensures.is) i.invariant

pub returns : goal.returns
returns c =
    let i = c.loop-part in
    let end : length c.args.parts.now ≤ i.part-index = omega arith in
    subst (λ (w : List PartBody). IsUnion w i.mask) (take_all i.part-index c.args.parts.now end) i.invariant
