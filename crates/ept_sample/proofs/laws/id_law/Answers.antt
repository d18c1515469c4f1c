use Rattle.ept_sample.specs.Ids.{in_id_order}
use Rattle.ept_sample.proofs.IdLaws.{same_id-id, id-same_id, IsBefore-comes_before, comes_before-IsBefore, IsPermutation-in_id_order, IsRising-in_id_order, IsAscending-IsRising, IsRising-IsAscending, HasDistinctIds-IsAscending, in_id_order-IsRising}
use Rattle.ept_sample.proofs.laws.id_law.Goals as goal

pub returns-clause-tests : goal.returns-clause-tests
returns-clause-tests c = λ p q. ((same_id-id p q, id-same_id p q), (IsBefore-comes_before p q, comes_before-IsBefore p q))

pub returns-clause-same_points : goal.returns-clause-same_points
returns-clause-same_points c = IsPermutation-in_id_order

pub returns-clause-ascend : goal.returns-clause-ascend
returns-clause-ascend c = λ points once. IsAscending-IsRising (in_id_order points) (IsRising-in_id_order points once)

pub returns-clause-ordered : goal.returns-clause-ordered
returns-clause-ordered c =
    λ points up. (HasDistinctIds-IsAscending points up, in_id_order-IsRising points (IsRising-IsAscending points up))
