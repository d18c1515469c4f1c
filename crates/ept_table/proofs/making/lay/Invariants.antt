use Rattle.std.proofs.Common.{◌≡◌, ◌+◌, ◌≤◌, ◌++◌, map, reverse, length, vec_len, vec_capacity}
use Rattle.ept_table.specs.declared.item.Item.TheVariants.{Node}
use Rattle.ept_table.specs.Row.{items_of}
use Rattle.ept_table.proofs.making.lay.Given as goal

abbrev pub invariant-loop-node : goal.invariant-loop-node
invariant-loop-node g l = record {
  order : items_of l.fn.reader l.fn.nodes.items ≡ l.items.items ++ map Node (reverse l.nodes.items);
  room : vec_len l.items + vec_len l.nodes ≤ vec_capacity l.items;
  spare : length l.fn.nodes.items ≤ vec_capacity l.nodes;
}

abbrev pub decreases-loop-node : goal.decreases-loop-node
decreases-loop-node g l = vec_len l.nodes
