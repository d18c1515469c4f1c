-- What a forest is once the node that it lent is returned.
use Rattle.std.specs.Prelude.{ℕ, ◌-◌}
use Rattle.std.specs.Borrow.{Lends, MutBor, Fml, RattleType}
use Rattle.std.specs.Vec.{with_item}
use Rattle.ept_node.specs.declared.node.Node.{Node}
use Rattle.ept_node.specs.contracts.node.Node as node
use Rattle.ept_forest.specs.declared.forest.Forest.{Forest}
use Rattle.ept_forest.specs.contracts.forest.Forest as forest

-- the forest with this node in a slot
abbrev pub with_node : {F : Type 0} → Forest F → ℕ → Node F → Forest F
with_node it slot n = record it { nodes = with_item it.nodes (slot - 1) n }

-- the forest ends with the node of a slot as the caller leaves it
abbrev pub LendsNode : (F : RattleType) → MutBor (Forest F.Denot) → ℕ → MutBor (Node F.Denot) → Fml
LendsNode F it slot lent = Lends (forest.the_row F) (node.the_row F) it lent (with_node it.now slot)
