use Rattle.ept_query.proofs.Listed.{everywhere-met, nodes-once, root-there, nodes-octree, plan-not-called, plan-called-once, nodes-got, complete-nodes}
use Rattle.ept_query.proofs.laws.nodes_law.Goals as goal

pub returns-clause-met : goal.returns-clause-met
returns-clause-met c = everywhere-met

pub returns-clause-once : goal.returns-clause-once
returns-clause-once c = nodes-once

pub returns-clause-root : goal.returns-clause-root
returns-clause-root c = root-there

pub returns-clause-complete : goal.returns-clause-complete
returns-clause-complete c = complete-nodes c.reading_law.ensures.files c.output_once_law.ensures.sampled

pub returns-clause-in_octree : goal.returns-clause-in_octree
returns-clause-in_octree c = nodes-octree

pub returns-clause-uncalled : goal.returns-clause-uncalled
returns-clause-uncalled c = plan-not-called

pub returns-clause-called_once : goal.returns-clause-called_once
returns-clause-called_once c = plan-called-once

pub returns-clause-got : goal.returns-clause-got
returns-clause-got c = nodes-got
