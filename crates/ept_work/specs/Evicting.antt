-- Nodes that are evicted.
use Rattle.std.specs.Prelude.{ℕ, ◌<◌}
use Rattle.ept_table.specs.declared.table.NodeTable.{NodeTable}
use Rattle.ept_table.specs.Table.{slots_of}

-- the slot of a node
abbrev pub IsNodeSlot : {F S J : Type 0} → NodeTable F S J → ℕ → Type 0
IsNodeSlot table slot = (0 < slot) × (slot < slots_of table)
