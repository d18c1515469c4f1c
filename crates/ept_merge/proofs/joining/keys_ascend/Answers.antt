use Rattle.std.proofs.Common.{rules}
use Rattle.std.proofs.lemmas.List.Sorted.{answers_always}
use Rattle.std.specs.Ordering.{is_lt}
use Rattle.ept_space.specs.VoxelKey.{key_cmp}
use Rattle.ept_space.proofs.Ascending.{ascend-tested}
use Rattle.ept_merge.specs.declared.joining.PartNode.{PartNode}
use Rattle.ept_merge.proofs.joining.keys_ascend.Goals as goal

pub returns : goal.returns
returns c =
    ascend-tested (λ (node : PartNode). node.line.key) c.args.nodes.now c.is_sorted_by.result (c.is_sorted_by.ensures.cases (λ (a b : PartNode). is_lt (key_cmp a.line.key b.line.key)) (answers_always _ _ _ (λ f a r g called. search rules)))
