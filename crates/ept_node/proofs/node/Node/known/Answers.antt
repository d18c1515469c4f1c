use Rattle.std.proofs.Common.{rules}
use Rattle.ept_node.specs.Shown.{node_of}
use Rattle.ept_node.proofs.Bridges.{seen-stands, empty-tile}
use Rattle.ept_node.proofs.node.Node.known.Goals as goal

pub returns-in-Begun-clause-seen : goal.returns-in-Begun-clause-seen
returns-in-Begun-clause-seen g c = seen-stands _

pub returns-in-Begun-clause-tile : goal.returns-in-Begun-clause-tile
returns-in-Begun-clause-tile g c = λ resident once. empty-tile (node_of g.F.SpillFile.held c.args.self.now) (search rules) (search rules)

pub returns-in-Resident-clause-seen : goal.returns-in-Resident-clause-seen
returns-in-Resident-clause-seen g c = seen-stands _

pub returns-in-Spilled-clause-seen : goal.returns-in-Spilled-clause-seen
returns-in-Spilled-clause-seen g c = seen-stands _
