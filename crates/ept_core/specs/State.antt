-- The states of the core.
use Rattle.std.specs.Prelude.{◌≡◌, ℕ, Bool, true, false, ◌⊎◌, List, [], ◌∷◌, ◌++◌, map, slice_index_or, if◌then◌else◌}
use Rattle.std.specs.List.{flat_map, list_any}
use Rattle.ept_sample.specs.declared.tiles.Tile.{Tile}
use Rattle.ept_sample.specs.Members.{IsMember}
use Rattle.ept_point.specs.declared.point.Point.{Point}
use Rattle.ept_space.specs.VoxelKey.{VoxelKey, same_key, is_within}
use Rattle.ept_core.specs.declared.flight.Flight.{Flight}
use Rattle.ept_core.specs.declared.node.Node.{Node}

-- a node and its key
abbrev pub Entry : Type 0
Entry = VoxelKey × Node

-- the points that are left, the flights, and the nodes
pub record State : Type 0 where
  pub left : List Point
  pub flights : List Flight
  pub nodes : List Entry

-- the value for a key of no node: no point, and no open octant
abbrev pub blank : Node
blank = record { points = []; opened = []; is_resident = true }

-- the node of a key
unfoldable pub node_at : List Entry → VoxelKey → Node
node_at [] key = blank
node_at (e ∷ nodes) key = if same_key e.0 key then e.1 else node_at nodes key

-- the key is that of a node
unfoldable pub has_node : List Entry → VoxelKey → Bool
has_node nodes key = list_any (λ (e : Entry). same_key e.0 key) nodes

-- the keys of the nodes
abbrev pub keys_of : List Entry → List VoxelKey
keys_of nodes = map (λ (e : Entry). e.0) nodes

-- an octant of the node is open
unfoldable pub has_open : Node → ℕ → Bool
has_open n o = slice_index_or n.opened o false

-- a point is on its way to the node of the key
abbrev pub IsFlying : List Flight → VoxelKey → Point → Type 0
IsFlying flights key p = (f : Flight) × IsMember f flights × (f.key ≡ key) × IsMember p f.points

-- a point is held at a key: it is in the node, or on its way there
abbrev pub IsHeld : State → VoxelKey → Point → Type 0
IsHeld s key p = IsMember p (node_at s.nodes key).points ⊎ IsFlying s.flights key p

-- a point is held at a key or below it
abbrev pub IsHeldWithin : State → VoxelKey → Point → Type 0
IsHeldWithin s top p = (key : VoxelKey) × (is_within top key ≡ true) × IsHeld s key p

-- the points on their way
abbrev pub flown : List Flight → List Point
flown flights = flat_map (λ (f : Flight). f.points) flights

-- all points that are held
abbrev pub held : State → List Point
held s = flat_map (λ (e : Entry). e.1.points) s.nodes ++ flown s.flights

-- the node as a tile
abbrev pub tile_of : Entry → Tile
tile_of e = record { key = e.0; points = e.1.points }
