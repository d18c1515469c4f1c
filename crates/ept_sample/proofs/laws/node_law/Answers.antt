use Rattle.ept_sample.specs.Nodes.{node_keys}
use Rattle.ept_sample.proofs.Members.{IsMember-contains, contains-IsMember}
use Rattle.ept_sample.proofs.KeyOrder.{AllPairs-IsRising}
use Rattle.ept_sample.proofs.SamplingLaws.{is_node-root, is_node-parent, node-depth, node-points, node-IsKey}
use Rattle.ept_sample.proofs.NodeLaws.{IsMember-node_keys, node_keys-IsMember, IsRising-node_keys}
use Rattle.ept_sample.proofs.MorePoints.{is_node-among, length-node_keys-among}
use Rattle.ept_sample.proofs.laws.node_law.Goals as goal

pub returns-clause-keys : goal.returns-clause-keys
returns-clause-keys c = λ rules points key can. (
  (λ h. IsMember-node_keys rules points key (IsMember-contains key (node_keys rules points) h)),
  (λ h. contains-IsMember key (node_keys rules points) (node_keys-IsMember rules points key can.cube can.inside h)),
)

pub returns-clause-ascend : goal.returns-clause-ascend
returns-clause-ascend c = λ rules points. AllPairs-IsRising (node_keys rules points) (IsRising-node_keys rules points)

pub returns-clause-root : goal.returns-clause-root
returns-clause-root c = is_node-root

pub returns-clause-parents : goal.returns-clause-parents
returns-clause-parents c = λ rules points key is deep. is_node-parent rules points key deep is

pub returns-clause-have_points : goal.returns-clause-have_points
returns-clause-have_points c = node-points

pub returns-clause-have_keys : goal.returns-clause-have_keys
returns-clause-have_keys c = λ rules points key can is. node-IsKey rules points key can.cube can.inside is

pub returns-clause-shallow : goal.returns-clause-shallow
returns-clause-shallow c = node-depth

pub returns-clause-stay_nodes : goal.returns-clause-stay_nodes
returns-clause-stay_nodes c =
    λ rules ps qs key once among. is_node-among rules ps qs key once (λ p m. IsMember-contains p qs (among p (contains-IsMember p ps m)))

pub returns-clause-more_nodes : goal.returns-clause-more_nodes
returns-clause-more_nodes c =
    λ rules ps qs once can among. length-node_keys-among rules ps qs can.cube can.inside once (λ p m. IsMember-contains p qs (among p (contains-IsMember p ps m)))
