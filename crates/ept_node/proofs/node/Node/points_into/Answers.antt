use Rattle.std.proofs.Common.{rules}
use Rattle.ept_node.specs.Shown.{node_of}
use Rattle.ept_node.proofs.Bridges.{none-in-order}
use Rattle.ept_node.proofs.Filings.{added-none}
use Rattle.ept_node.proofs.node.Node.points_into.Goals as goal

pub returns-in-Begun-clause-appended : goal.returns-in-Begun-clause-appended
returns-in-Begun-clause-appended g c =
    added-none (node_of g.F.SpillFile.held c.args.self.now) c.args.out.now.items (search rules)

pub returns-in-Begun-clause-in_order : goal.returns-in-Begun-clause-in_order
returns-in-Begun-clause-in_order g c = search (rules, none-in-order)
