-- Permits: each node whose points are in memory takes one as it lies in its slot.
use Rattle.std.specs.Prelude.{ℕ, ◌+◌, if◌then◌else◌}
use Rattle.ept_slots.specs.declared.view.View as slots
use Rattle.ept_slots.specs.Views.{held_weight}
use Rattle.ept_node.specs.Shown.{is_here}
use Rattle.ept_table.specs.declared.item.Item as item
use Rattle.ept_table.specs.declared.item.Item.TheVariants as items
use Rattle.ept_table.specs.declared.note.Note.{Note}

-- how many permits an item takes
abbrev pub weight_of : {F S : Type 0} → item.Item F S → ℕ
weight_of (items.Node node) = if is_here node then 1 else 0
weight_of (items.Reader r) = 0

-- the permits that a seat has, and those that come with what it holds
abbrev pub spare_of : {F S : Type 0} → slots.View (item.Item F S) Note → ℕ
spare_of v = v.permits + held_weight weight_of v.hold
