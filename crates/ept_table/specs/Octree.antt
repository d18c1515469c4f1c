-- The nodes of an octree by their keys, and their slots while nothing flies.
use Rattle.std.specs.Prelude.{◌≡◌, ◌⊎◌, ℕ, ◌+◌, ◌<◌, ◌≤◌, true, false, List, [], ◌∷◌, map, length}
use Rattle.std.specs.List.{flat_map}
use Rattle.ept_point.specs.declared.point.Point.{Point}
use Rattle.ept_space.specs.declared.cube.Rules.{Rules}
use Rattle.ept_space.specs.VoxelKey.{VoxelKey, root, child, AreAscending}
use Rattle.ept_sample.specs.declared.tiles.Tile.{Tile}
use Rattle.ept_sample.specs.Members.{IsMember}
use Rattle.ept_sample.specs.Nodes.{sampled}
use Rattle.ept_sample.specs.Sampling.{is_node}
use Rattle.ept_grid.specs.Mask.{opened}
use Rattle.ept_grid.specs.Node as grid
use Rattle.ept_grid.specs.Node.{is_open_in}
use Rattle.ept_core.specs.State.{Entry, keys_of, node_at, has_node, has_open}
use Rattle.ept_node.specs.Batch.{seen}
use Rattle.ept_table.specs.declared.taken.Cell.{Cell}
use Rattle.ept_table.specs.declared.taken.Taken.{Taken}
use Rattle.ept_table.specs.declared.taken.Taken.TheVariants.{Blank, Standing, Reading}
use Rattle.ept_table.specs.At.{At}
use Rattle.ept_table.specs.Taken.{slot_at}

-- ---- nodes by their keys

-- a node and its key
abbrev pub Branch : Type 0
Branch = VoxelKey × grid.Node

abbrev pub key_of : Branch → VoxelKey
key_of b = b.0

-- the node as one of the machine, in memory
abbrev pub entry_of : Branch → Entry
entry_of b = (b.0, seen b.1)

-- the node as a tile
abbrev pub tile_of : Branch → Tile
tile_of b = record { key = b.0; points = b.1.points }

-- all points of the nodes
abbrev pub points_in : List Branch → List Point
points_in nodes = flat_map (λ (b : Branch). b.1.points) nodes

-- each node has the key under which it is listed, and the rules of the octree
abbrev pub AreNodes : Rules → List Branch → Type 0
AreNodes rules nodes = (b : Branch) → IsMember b nodes → (b.1.key ≡ b.0) × (b.1.rules ≡ rules)

-- The nodes are those of the sampling of some points. They have its tiles, and an octant is open if, and only if, its
-- child is a node.
pub record AreSampled (rules : Rules) (points : List Point) (nodes : List Branch) : Type 0 where
  pub tiles : map tile_of nodes ≡ sampled rules points
  pub opens : (b : Branch) (o : ℕ) → IsMember b nodes → o < 8 → opened b.1.mask o ≡ is_node rules points (child b.0 o)

-- ---- which nodes there are, whatever points they have

-- the key is that of an octant of a node, which is open there
pub record IsBelowOpen (entries : List Entry) (key : VoxelKey) : Type 0 where
  pub above : VoxelKey
  pub octant : ℕ
  pub low : octant < 8
  pub is_child : key ≡ child above octant
  pub is_open : has_open (node_at entries above) octant ≡ true

-- The keys of the nodes ascend, and the root is one of them. Each further node is below an open octant, and below each
-- open octant is a node.
pub record AreWhole (entries : List Entry) : Type 0 where
  pub ascend : AreAscending (keys_of entries)
  pub rooted : has_node entries root ≡ true
  pub below_open : (key : VoxelKey) → has_node entries key ≡ true → (key ≡ root) ⊎ IsBelowOpen entries key
  pub open_leads : (key : VoxelKey) (o : ℕ) → o < 8 → has_open (node_at entries key) o ≡ true → has_node entries (child key o) ≡ true

-- each node is still there
abbrev pub KeepsNodes : List Entry → List Entry → Type 0
KeepsNodes old new = (key : VoxelKey) → has_node old key ≡ true → has_node new key ≡ true

-- ---- nodes in slots

-- the keys of the nodes that are in the slots, in the order of these
abbrev pub key_in : Taken → List VoxelKey
key_in Blank = []
key_in (Standing c) = c.node.key ∷ []
key_in (Reading r) = []

abbrev pub keys_in : List Taken → List VoxelKey
keys_in items = flat_map key_in items

-- the node of a slot, by its key
abbrev pub branch_of : Cell → Branch
branch_of c = (c.node.key, c.node)

-- The slots from 1 to the last that is used have nodes, the root in slot 1, and no further slot has one.
pub record FillSlots (most used : ℕ) (items : List Taken) : Type 0 where
  pub size : length items ≡ most + 1
  pub few : used ≤ most
  pub top : (c : Cell) × At items 1 (Standing c) × (c.node.key ≡ root)
  pub stands : (k : ℕ) (x : Taken) → At items k x → 0 < k → k ≤ used → (c : Cell) × (x ≡ Standing c)
  pub blank : (k : ℕ) (x : Taken) → At items k x → used < k → x ≡ Blank

-- each key has one slot
abbrev pub HaveOneSlot : List Taken → Type 0
HaveOneSlot items =
    (j k : ℕ) (c d : Cell) → At items j (Standing c) → At items k (Standing d) → c.node.key ≡ d.node.key → j ≡ k

-- The child slot of an open octant has the node of the child, and a closed octant has no child slot.
pub record AreLinked (items : List Taken) : Type 0 where
  pub child_slot : (k : ℕ) (c : Cell) (o : ℕ) → At items k (Standing c) → o < 8 → is_open_in c.node o ≡ true → (d : Cell) × At items (slot_at (Standing c) o) (Standing d) × (d.node.key ≡ child c.node.key o)
  pub none : (k : ℕ) (c : Cell) (o : ℕ) → At items k (Standing c) → o < 8 → is_open_in c.node o ≡ false → slot_at (Standing c) o ≡ 0

-- These are the nodes that are in the slots, in key order, each once.
pub record AreStanding (items : List Taken) (nodes : List Branch) : Type 0 where
  pub ascend : AreAscending (map key_of nodes)
  pub by_key : (k : ℕ) (c : Cell) → At items k (Standing c) → IsMember (branch_of c) nodes
  pub in_slot : (b : Branch) → IsMember b nodes → (k : ℕ) × (c : Cell) × At items k (Standing c) × (branch_of c ≡ b)
