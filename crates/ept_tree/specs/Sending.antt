-- Points that are sent to a node.
use Rattle.std.specs.Prelude.{List, map}
use Rattle.std.specs.List.{flat_map}
use Rattle.ept_point.specs.declared.point.Point.{Point}
use Rattle.ept_space.specs.VoxelKey.{VoxelKey, child}
use Rattle.ept_sample.specs.Arrivals.{all_octants}
use Rattle.ept_grid.specs.Outgoing.{Leaving, points_at}
use Rattle.ept_tree.specs.declared.arrival.Arrival.{Arrival}

-- a point on its way to the node of a key
abbrev pub arrival_at : VoxelKey → Point → Arrival
arrival_at key p = record { key = key; point = p }

-- points on their way to the node of a key
abbrev pub arrivals_to : VoxelKey → List Point → List Arrival
arrivals_to key points = map (arrival_at key) points

-- the points that leave a node, on their way to its children
abbrev pub sending : VoxelKey → List Leaving → List Arrival
sending key leaving = flat_map (λ o. arrivals_to (child key o) (points_at leaving o)) all_octants
