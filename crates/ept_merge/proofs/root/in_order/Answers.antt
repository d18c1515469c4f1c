use Rattle.std.proofs.Common.{◌≡◌, rules}
use Rattle.std.proofs.lemmas.List.Sorted.{answers_always}
use Rattle.ept_point.specs.Order.{id}
use Rattle.ept_sample.proofs.IdLaws.{sorted-in_id_order}
use Rattle.ept_merge.proofs.root.in_order.Goals as goal

pub returns-clause-same : goal.returns-clause-same
returns-clause-same c = c.in_ok-sort_by_key.ensures.permutation

pub returns-clause-order : goal.returns-clause-order
returns-clause-order c = λ distinct.
    sorted-in_id_order c.args.points.items c.sort_by_key.new.self.items distinct c.in_ok-sort_by_key.ensures.permutation (c.in_ok-sort_by_key.ensures.sorted id (answers_always _ (λ a r. r ≡ id a.0.now) _ (λ f a r g k. search rules)))
