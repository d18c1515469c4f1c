use Rattle.std.proofs.Common.{◌≡◌, ◌≤◌, take}
use Rattle.ept_forest.specs.Slots.{residents_of}
use Rattle.ept_forest.proofs.forest.Forest.residents.Given as goal

abbrev pub invariant-loop-node : goal.invariant-loop-node
invariant-loop-node g l = (l.count ≡ residents_of (take l.node-index l.self.nodes.items)) × (l.count ≤ l.node-index)
