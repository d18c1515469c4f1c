use Rattle.std.proofs.Common.{rules}
use Rattle.std.proofs.lemmas.List.Sorted.{answers_always}
use Rattle.std.specs.Ordering.{is_lt}
use Rattle.ept_space.specs.VoxelKey.{key_cmp}
use Rattle.ept_space.proofs.Ascending.{ascend-tested}
use Rattle.ept_hier.specs.Hierarchy.{Node, KeysAscend}
use Rattle.ept_hier.proofs.order.keys_ascend.Goals as goal

pub returns : goal.returns
unfolding KeysAscend
returns c = record {
  ascend = ascend-tested (λ (n : Node). n.0) c.args.nodes.now c.is_sorted_by.result (c.is_sorted_by.ensures.cases (λ (a b : Node). is_lt (key_cmp a.0 b.0)) (answers_always _ _ _ (λ f a r g called. search rules)));
}
