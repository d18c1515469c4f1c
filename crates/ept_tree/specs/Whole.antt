-- Which nodes an octree has while points are on their way, whatever points the nodes have.
use Rattle.std.specs.Prelude.{◌≡◌, ◌⊎◌, ℕ, ◌<◌, true, List, length, map}
use Rattle.ept_space.specs.VoxelKey.{VoxelKey, root, child, AreAscending}
use Rattle.ept_sample.specs.Members.{IsMember}
use Rattle.ept_grid.specs.Mask.{opened}
use Rattle.ept_grid.specs.Outgoing.{Leaving, points_at}
use Rattle.ept_core.specs.State.{Entry, keys_of, node_at, has_node, has_open}
use Rattle.ept_table.specs.Octree.{Branch, entry_of, IsBelowOpen, KeepsNodes}
use Rattle.ept_tree.specs.declared.arrival.Arrival.{Arrival}

-- the key is that of a node, or a point is on its way there
abbrev pub IsKnown : List Arrival → List Entry → VoxelKey → Type 0
IsKnown arrivals entries key = (has_node entries key ≡ true) ⊎ ((a : Arrival) × IsMember a arrivals × (a.key ≡ key))

-- The keys of the nodes ascend, and the root is one of them. Each further node is below an open octant, and below each
-- open octant is a node. A point on its way to a node counts as the node.
pub record AreWholeWith (arrivals : List Arrival) (entries : List Entry) : Type 0 where
  pub ascend : AreAscending (keys_of entries)
  pub rooted : has_node entries root ≡ true
  pub below_open : (key : VoxelKey) → IsKnown arrivals entries key → (key ≡ root) ⊎ IsBelowOpen entries key
  pub open_leads : (key : VoxelKey) (o : ℕ) → o < 8 → has_open (node_at entries key) o ≡ true → IsKnown arrivals entries (child key o)

-- nodes that were whole with the first arrivals on their way are whole with the second, and no node is lost
abbrev pub StaysWhole : List Arrival → List Branch → List Arrival → List Branch → Type 0
StaysWhole arrivals nodes arrivals' nodes' =
    AreWholeWith arrivals (map entry_of nodes) → AreWholeWith arrivals' (map entry_of nodes') × KeepsNodes (map entry_of nodes) (map entry_of nodes')

-- Open octants of a node stay open. A point leaves for each octant that opens, and no point leaves for an octant that
-- is closed.
pub record HasOpened (mask mask' : ℕ) (leaving : List Leaving) : Type 0 where
  pub stays : (o : ℕ) → o < 8 → opened mask o ≡ true → opened mask' o ≡ true
  pub opens : (o : ℕ) → o < 8 → opened mask' o ≡ true → (opened mask o ≡ true) ⊎ (0 < length (points_at leaving o))
  pub leave : (o : ℕ) → o < 8 → 0 < length (points_at leaving o) → opened mask' o ≡ true
