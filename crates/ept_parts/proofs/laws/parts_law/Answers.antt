use Rattle.ept_parts.proofs.Below.{part-root, part-nodes, part-no_other}
use Rattle.ept_parts.proofs.Joined.{roots-join}
use Rattle.ept_parts.proofs.laws.parts_law.Goals as goal

pub returns-clause-root : goal.returns-clause-root
returns-clause-root c = part-root

pub returns-clause-nodes : goal.returns-clause-nodes
returns-clause-nodes c = part-nodes

pub returns-clause-no_other : goal.returns-clause-no_other
returns-clause-no_other c = part-no_other

pub returns-clause-roots : goal.returns-clause-roots
returns-clause-roots c = roots-join
