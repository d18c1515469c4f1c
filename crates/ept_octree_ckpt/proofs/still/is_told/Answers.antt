use Rattle.std.proofs.Common.{◌∙◌, List, ap, sym, subst}
use Rattle.std.specs.Option.{option_copied}
use Rattle.ept_sample.specs.Members.{IsMember}
use Rattle.ept_table.specs.Octree.{Branch}
use Rattle.ept_octree_ckpt.proofs.Stillness.{told-by-count, told-by-mask}
use Rattle.ept_octree_ckpt.proofs.still.is_told.Goals as goal

pub count-count-requires : goal.count-count-requires
count-count-requires g c =
    (c.requires.0, subst (λ (w : List Branch). IsMember c.requires.0 w) (sym c.open_mask-mask.ensures.same) c.requires.1, c.requires.2)

pub returns-then-line-mask-clause-value : goal.returns-then-line-mask-clause-value
returns-then-line-mask-clause-value g c = λ b member at.
    let again : IsMember b _ = subst (λ (w : List Branch). IsMember b w) (sym c.open_mask-mask.ensures.same) member in
    told-by-count c.args.saved.now.current c.args.key.now b.1.mask b.1.points c.in-Some.line.now (sym c.line.ensures ∙ ap option_copied c.in-Some.is) c.open_mask-mask.result (c.open_mask-mask.ensures.mask b member at) c.if-line-mask.true c.count-count.result (c.count-count.ensures.count b again at)

pub returns-else-line-mask-clause-value : goal.returns-else-line-mask-clause-value
returns-else-line-mask-clause-value g c = λ b member at.
    told-by-mask c.args.saved.now.current c.args.key.now b.1.mask b.1.points c.in-Some.line.now (sym c.line.ensures ∙ ap option_copied c.in-Some.is) c.open_mask-mask.result (c.open_mask-mask.ensures.mask b member at) c.if-line-mask.false
