-- What lies in a slot.
use Rattle.std.specs.Prelude.{ℕ, Bool, false, List, [], length, slice_index}
use Rattle.ept_point.specs.declared.point.Point.{Point}
use Rattle.ept_grid.specs.Node.{is_open_in}
use Rattle.ept_core.specs.declared.node.Node as core
use Rattle.ept_core.specs.State.{blank}
use Rattle.ept_node.specs.Batch.{seen}
use Rattle.ept_table.specs.declared.taken.Taken.{Taken}
use Rattle.ept_table.specs.declared.taken.Taken.TheVariants.{Blank, Standing, Reading}

-- the points of the node
abbrev pub points_of : Taken → List Point
points_of Blank = []
points_of (Standing c) = c.node.points
points_of (Reading r) = []

-- how many points it has
abbrev pub count_of : Taken → ℕ
count_of x = length (points_of x)

-- an octant of the node is open
abbrev pub is_open_at : Taken → ℕ → Bool
is_open_at Blank o = false
is_open_at (Standing c) o = is_open_in c.node o
is_open_at (Reading r) o = false

-- the slot of the child of an octant, or 0
abbrev pub slot_at : Taken → ℕ → ℕ
slot_at Blank o = 0
slot_at (Standing c) o = slice_index c.children o
slot_at (Reading r) o = 0

-- the node as the machine has it
abbrev pub as_node : Taken → core.Node
as_node Blank = blank
as_node (Standing c) = seen c.node
as_node (Reading r) = blank
