use Rattle.ept_sample.specs.Sampling.{given}
use Rattle.ept_sample.proofs.Members.{IsMember-contains}
use Rattle.ept_node_bound.proofs.Given.{node-more, given-once}
use Rattle.ept_node_bound.proofs.Few.{depth-few, nodes-few, tiles-few}
use Rattle.ept_node_bound.proofs.laws.few_nodes_law.Goals as goal

pub returns-clause-given : goal.returns-clause-given
returns-clause-given c = node-more

pub returns-clause-once : goal.returns-clause-once
returns-clause-once c = λ rules points j k p can m n level. given-once rules points j k p can (IsMember-contains p (given rules points j) m) (IsMember-contains p (given rules points k) n) level

pub returns-clause-each_depth : goal.returns-clause-each_depth
returns-clause-each_depth c = depth-few

pub returns-clause-few : goal.returns-clause-few
returns-clause-few c = nodes-few

pub returns-clause-few_tiles : goal.returns-clause-few_tiles
returns-clause-few_tiles c = tiles-few
