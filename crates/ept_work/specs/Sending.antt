-- The flights of the points that leave a node.
use Rattle.std.specs.Prelude.{ℕ, List, slice_index}
use Rattle.std.specs.List.{flat_map}
use Rattle.ept_space.specs.VoxelKey.{child}
use Rattle.ept_sample.specs.Arrivals.{all_octants}
use Rattle.ept_grid.specs.Outgoing.{Leaving, points_at}
use Rattle.ept_table.specs.declared.note.Carried.{Carried}
use Rattle.ept_table.specs.declared.taken.Cell.{Cell}
use Rattle.ept_table.specs.Steps.{carried_to}

-- the flight of the points that leave for an octant, by the slot of its child
abbrev pub sent_to : ℕ → Cell → List Leaving → ℕ → List Carried
sent_to actor c out o = carried_to actor (slice_index c.children o) (child c.node.key o) (points_at out o)

-- the flights of all octants, in octant order
abbrev pub sent_on : ℕ → Cell → List Leaving → List Carried
sent_on actor c out = flat_map (sent_to actor c out) all_octants
