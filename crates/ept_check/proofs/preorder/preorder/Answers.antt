use Rattle.std.proofs.Common.{◌≡◌, List, rules, sym, subst}
use Rattle.std.specs.List.Sorted.{IsPermutation}
use Rattle.std.proofs.lemmas.List.Sorted.{answers_always}
use Rattle.ept_hier.specs.Hierarchy.{Node}
use Rattle.ept_fit.specs.Walk.{path}
use Rattle.ept_check.specs.Walking.{padded}
use Rattle.ept_check.proofs.Padded.{preordered}
use Rattle.ept_check.proofs.preorder.preorder.Goals as goal

pub returns-clause-order : goal.returns-clause-order
returns-clause-order c =
    let same : c.in_ok-order.order.items ≡ c.args.nodes.now = search rules in
    preordered c.args.nodes.now c.sort_by_key.new.self.items c.requires.ascend c.requires.are_keys
    (subst (λ (w : List Node). IsPermutation w c.sort_by_key.new.self.items) same c.in_ok-sort_by_key.ensures.permutation)
    (c.in_ok-sort_by_key.ensures.sorted (λ (n : Node). padded 32 (path n.0)) (answers_always _ (λ a r. r ≡ padded 32 (path a.0.now.0)) _ (λ f a r g k. search rules)))
