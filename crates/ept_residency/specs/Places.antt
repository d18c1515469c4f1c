-- Where the points of nodes are.
use Rattle.std.specs.Prelude.{Bool, List, map, if◌then◌else◌}
use Rattle.ept_space.specs.VoxelKey.{VoxelKey, same_key}
use Rattle.ept_core.specs.declared.node.Node.{Node}
use Rattle.ept_core.specs.State.{State, Entry}

-- the node, with its points in memory or in its file
abbrev pub kept_where : Bool → Node → Node
kept_where here n = record { points = n.points; opened = n.opened; is_resident = here }

-- the nodes, those of some keys in memory and the others in their files
abbrev pub placed_nodes : (VoxelKey → Bool) → List Entry → List Entry
placed_nodes here nodes = map (λ (e : Entry). (e.0, kept_where (here e.0) e.1)) nodes

-- the state with its nodes in these places
abbrev pub placed : (VoxelKey → Bool) → State → State
placed here s = record { left = s.left; flights = s.flights; nodes = placed_nodes here s.nodes }

-- the same keys, except one
abbrev pub but_for : VoxelKey → Bool → (VoxelKey → Bool) → VoxelKey → Bool
but_for key there here k = if same_key key k then there else here k
