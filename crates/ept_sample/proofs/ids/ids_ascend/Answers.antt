use Rattle.std.proofs.Common.{◌≡◌, rules}
use Rattle.std.proofs.lemmas.Bool.{OnTrue_from}
use Rattle.std.proofs.lemmas.List.Sorted.{answers_always}
use Rattle.ept_sample.specs.Ids.{comes_before, HasDistinctIds}
use Rattle.ept_sample.proofs.IdLaws.{ascending-told, HasDistinctIds-IsAscending}
use Rattle.ept_sample.proofs.ids.ids_ascend.Goals as goal

pub returns-clause-ascend : goal.returns-clause-ascend
returns-clause-ascend c =
    ascending-told c.args.points.now c.is_sorted_by.result (c.is_sorted_by.ensures.cases comes_before (answers_always _ (λ a r. r ≡ comes_before a.0.now a.1.0.now) _ (λ f a r g k. search rules)))

pub returns-clause-distinct : goal.returns-clause-distinct
returns-clause-distinct c =
    OnTrue_from c.is_sorted_by.result (HasDistinctIds c.args.points.now) (λ told. HasDistinctIds-IsAscending c.args.points.now ((ascending-told c.args.points.now c.is_sorted_by.result (c.is_sorted_by.ensures.cases comes_before (answers_always _ (λ a r. r ≡ comes_before a.0.now a.1.0.now) _ (λ f a r g k. search rules)))).0 told))
