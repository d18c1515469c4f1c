use Rattle.std.proofs.Common.{rules, ◌∙◌}
use Rattle.std.proofs.lemmas.List.Sorted.{answers_always}
use Rattle.ept_ckpt.specs.declared.node_line.NodeLine.{NodeLine}
use Rattle.ept_ckpt.proofs.KeySearch.{searched}
use Rattle.ept_ckpt.proofs.whole_octree.has_key.Goals as goal

pub returns : goal.returns
returns c =
    let found = c.binary_search_by_key in
    c.is_ok.ensures.value ∙ searched c.args.nodes.now c.args.key.now found.result c.requires found.ensures.bound (found.ensures.position (λ (line : NodeLine). line.key) (answers_always _ _ _ (λ f a r g called. search rules)))
