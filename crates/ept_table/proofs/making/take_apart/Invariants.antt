use Rattle.std.proofs.Common.{◌≡◌, ◌+◌, ◌≤◌, List, ◌++◌, map, reverse, length, vec_len, vec_capacity}
use Rattle.ept_node.specs.declared.node.Node as node
use Rattle.ept_table.specs.declared.item.Item.TheVariants.{Node}
use Rattle.ept_table.specs.Row.{items_of}
use Rattle.ept_table.proofs.making.take_apart.Given as goal

abbrev pub invariant-loop-item : goal.invariant-loop-item
invariant-loop-item g l = (rest : List (node.Node g.row.F.Denot)) × (l.fn.laid.items.items ≡ items_of l.reader (l.nodes.items ++ rest)) × (reverse l.items.items ≡ map Node rest) × (length l.nodes.items + length rest ≤ vec_capacity l.nodes)

abbrev pub decreases-loop-item : goal.decreases-loop-item
decreases-loop-item g l = vec_len l.items
