use Rattle.std.proofs.Common.{◌≡◌, subst, rules}
use Rattle.std.proofs.lemmas.List.Sorted.{answers_always}
use Rattle.ept_point.specs.Order.{id}
use Rattle.ept_sample.specs.Ids.{HasDistinctIds, in_id_order}
use Rattle.ept_sample.proofs.IdLaws.{sorted-in_id_order}
use Rattle.ept_grid.specs.Outgoing.{Leaving}
use Rattle.ept_grid.proofs.outgoing.Lane.sort.Goals as goal

pub returns-clause-sorted : goal.returns-clause-sorted
returns-clause-sorted c =
    subst (λ (l : Leaving). HasDistinctIds l.points → c.sort_unstable_by_key.new.self.items ≡ in_id_order l.points) c.self.view_is (λ once. sorted-in_id_order c.self.inside.points.items c.sort_unstable_by_key.new.self.items once c.sort_unstable_by_key.ensures.permutation (c.sort_unstable_by_key.ensures.sorted id (answers_always _ (λ a r. r ≡ id a.0.now) _ (λ f a r g k. search rules))))
