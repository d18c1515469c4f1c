-- The reader and the nodes as they lie in the slots of a table.
use Rattle.std.specs.Prelude.{ℕ, List, ◌∷◌, map, Option}
use Rattle.ept_scan.specs.declared.second_reading.Reader.{Reader}
use Rattle.ept_node.specs.declared.node.Node.{Node}
use Rattle.ept_table.specs.declared.item.Item as item
use Rattle.ept_table.specs.declared.item.Item.TheVariants as items
use Rattle.ept_table.specs.declared.taken.Taken.{Taken}
use Rattle.ept_table.specs.Item.{seen}

-- the reader in slot 0, and the nodes in the slots from 1 on
abbrev pub items_of : {F S : Type 0} → Reader S → List (Node F) → List (item.Item F S)
items_of reader nodes = items.Reader reader ∷ map items.Node nodes

-- the same as plain data
abbrev pub row : {F S : Type 0} → (F → Option (List ℕ)) → (S → Option (List ℕ)) → Reader S → List (Node F) → List Taken
row held whole reader nodes = map (seen held whole) (items_of reader nodes)
