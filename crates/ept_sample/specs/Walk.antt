-- The nodes of a subtree, as a walk from the top down comes to them.
use Rattle.std.specs.Prelude.{ℕ, zero, suc, List, [], ◌∷◌, ◌++◌, if◌then◌else◌}
use Rattle.std.specs.BTreeMap.{insert_entry}
use Rattle.ept_point.specs.declared.point.Point.{Point}
use Rattle.ept_space.specs.declared.cube.Rules.{Rules}
use Rattle.ept_space.specs.VoxelKey.{VoxelKey, child, key_cmp}
use Rattle.ept_sample.specs.declared.tiles.Tile.{Tile}
use Rattle.ept_sample.specs.Arrivals.{losers, overflows, kept, none_open}

-- the key of a node, and its points
abbrev pub Node : Type 0
Node = VoxelKey × List Point

-- the node of a key that was given these points
abbrev pub node_of : Rules → VoxelKey → List Point → Node
node_of rules key given = (key, kept rules key.depth none_open given)

-- the nodes below the first octants of a key, up to a number: if an octant overflows, the nodes of its child
unfoldable pub nodes_of_octants : (VoxelKey → List Point → List Node) → Rules → VoxelKey → List Point → ℕ → List Node
nodes_of_octants below rules key given zero = []
nodes_of_octants below rules key given (suc o) =
    nodes_of_octants below rules key given o ++ (if overflows rules key.depth given o then below (child key o) (losers rules key.depth given o) else [])

-- the nodes of a key that was given these points, and of the keys below it, down to that number of depths
unfoldable pub nodes_below : Rules → ℕ → VoxelKey → List Point → List Node
nodes_below rules zero key given = node_of rules key given ∷ []
nodes_below rules (suc depths) key given =
    node_of rules key given ∷ nodes_of_octants (nodes_below rules depths) rules key given 8

-- a map of nodes with these nodes put into it, one after another
abbrev pub with_nodes : List Node → List Node → List Node
with_nodes map [] = map
with_nodes map (n ∷ nodes) = with_nodes (insert_entry key_cmp map n.0 n.1) nodes

-- a node as a tile
abbrev pub tile_of : Node → Tile
tile_of n = record { key = n.0; points = n.1 }
