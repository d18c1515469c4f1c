use Rattle.std.proofs.Common.{◌≡◌, take, None}
use Rattle.std.specs.List.{All}
use Rattle.ept_node.specs.Shown.{fault_of}
use Rattle.ept_forest.proofs.forest.Forest.fault.Given as goal

abbrev pub invariant-loop-node : goal.invariant-loop-node
invariant-loop-node g l = All (λ node. fault_of node ≡ None) (take l.node-index l.self.nodes.items)
