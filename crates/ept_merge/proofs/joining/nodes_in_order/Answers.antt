use Rattle.std.proofs.Common.{◌≡◌, ◌∙◌, List, sym, subst, rules}
use Rattle.std.specs.List.Sorted.{IsPermutation}
use Rattle.std.proofs.lemmas.Bool.{false≢true}
use Rattle.std.proofs.lemmas.List.Sorted.{answers_always}
use Rattle.ept_space.specs.VoxelKey.{AreAscending}
use Rattle.ept_merge.specs.declared.joining.PartNode.{PartNode}
use Rattle.ept_merge.specs.Joining.{all_below, keys_of}
use Rattle.ept_merge.proofs.Sorted.{sorted-ascend, distinct-permuted}
use Rattle.ept_merge.proofs.joining.nodes_in_order.Goals as goal

pub returns-then-keys_ascend-clause-order : goal.returns-then-keys_ascend-clause-order
returns-then-keys_ascend-clause-order c =
    let sorted = c.sort_unstable_by_key.new.self.items in
    record {
      same = subst (λ (w : List PartNode). IsPermutation w sorted) c.in_ok-nodes.ensures c.sort_unstable_by_key.ensures.permutation;
      ascend = subst (λ (w : List PartNode). AreAscending (keys_of w)) c.deref.ensures.value (c.keys_ascend.ensures.0 c.if-keys_ascend.true);
    }

pub returns-else-keys_ascend-clause-twice : goal.returns-else-keys_ascend-clause-twice
returns-else-keys_ascend-clause-twice c = λ is once.
    let sorted = c.sort_unstable_by_key.new.self.items in
    let same : IsPermutation (all_below c.args.parts.now) sorted = subst (λ (w : List PartNode). IsPermutation w sorted) c.in_ok-nodes.ensures c.sort_unstable_by_key.ensures.permutation in
    let ascend = sorted-ascend sorted (c.sort_unstable_by_key.ensures.sorted (λ (n : PartNode). n.line.key) (answers_always _ (λ a r. r ≡ a.0.now.line.key) _ (λ f a r g k. search rules))) (distinct-permuted (all_below c.args.parts.now) sorted same once) in
    let all = c.keys_ascend.ensures.1 (subst (λ (w : List PartNode). AreAscending (keys_of w)) (sym c.deref.ensures.value) ascend) in
    absurd (false≢true (sym c.if-keys_ascend.false ∙ all))
