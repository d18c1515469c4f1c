use Rattle.ept_space.specs.OctreeCube.{InBox, InCube}
use Rattle.ept_sample.specs.Place.{place}
use Rattle.ept_sample.specs.Sampling.{sampling}
use Rattle.ept_sample.proofs.Members.{All-members, all-member}
use Rattle.ept_sample.proofs.IdLaws.{IsAscending-IsRising}
use Rattle.ept_sample.proofs.SamplingLaws.{IsRising-sampling, IsMember-sampling, given-IsMember, given-InBox}
use Rattle.ept_sample.proofs.NodeLaws.{IsPermutation-sampled, sampled-IsPermutation}
use Rattle.ept_sample.proofs.laws.point_law.Goals as goal

pub returns-clause-one_node : goal.returns-clause-one_node
returns-clause-one_node c = λ rules points can. IsPermutation-sampled rules points can.cube can.inside can.distinct

pub returns-clause-no_order : goal.returns-clause-no_order
returns-clause-no_order c =
    λ rules ps qs can h. sampled-IsPermutation rules ps qs can.cube can.inside can.distinct h

pub returns-clause-in_boxes : goal.returns-clause-in_boxes
returns-clause-in_boxes c =
    λ rules points key can. All-members (λ p. InBox rules.cube key (place p)) (sampling rules points key) (λ p m.
    let g = (IsMember-sampling rules points key p m).0 in
    given-InBox rules points key p can.cube (all-member (λ q. InCube rules.cube (place q)) p points can.inside (given-IsMember rules points key p g)) g)

pub returns-clause-ascend : goal.returns-clause-ascend
returns-clause-ascend c =
    λ rules points key once. IsAscending-IsRising (sampling rules points key) (IsRising-sampling rules points key once)
