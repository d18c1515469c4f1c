use Rattle.ept_node.proofs.Bridges.{absent-stands}
use Rattle.ept_node.proofs.node.Node.begin.Goals as goal

pub returns-clause-absent : goal.returns-clause-absent
returns-clause-absent g c = absent-stands c.args.key c.args.rules.now
