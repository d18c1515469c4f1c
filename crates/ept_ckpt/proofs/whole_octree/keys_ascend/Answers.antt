use Rattle.std.proofs.Common.{rules}
use Rattle.std.proofs.lemmas.List.Sorted.{answers_always}
use Rattle.std.specs.Ordering.{is_lt}
use Rattle.ept_space.specs.VoxelKey.{key_cmp}
use Rattle.ept_space.proofs.Ascending.{ascend-tested}
use Rattle.ept_ckpt.specs.declared.node_line.NodeLine.{NodeLine}
use Rattle.ept_ckpt.proofs.whole_octree.keys_ascend.Goals as goal

pub returns : goal.returns
returns c =
    ascend-tested (λ (line : NodeLine). line.key) c.args.nodes.now c.is_sorted_by.result (c.is_sorted_by.ensures.cases (λ (a b : NodeLine). is_lt (key_cmp a.key b.key)) (answers_always _ _ _ (λ f a r g called. search rules)))
