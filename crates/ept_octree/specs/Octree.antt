-- An octree, as its callers see it.
use Rattle.std.specs.Prelude.{◌≡◌, ℕ, ◌≤◌, List, map, length, Option, None}
use Rattle.std.specs.List.{All, AllZip}
use Rattle.ept_point.specs.declared.point.Point.{Point}
use Rattle.ept_space.specs.declared.cube.Rules.{Rules}
use Rattle.ept_space.specs.VoxelKey.{VoxelKey}
use Rattle.ept_sample.specs.Members.{IsMember}
use Rattle.ept_node.specs.Shown.{file_of, fault_of, AgreesWithFile, IsAlike}
use Rattle.ept_forest.specs.declared.forest.Forest.{Forest}
use Rattle.ept_forest.specs.Slots as forest
use Rattle.ept_table.specs.Octree.{Branch, entry_of, points_in, keys_in, AreNodes, AreWhole, KeepsNodes, AreLinked}
use Rattle.ept_octree.specs.declared.octree.Octree.{Octree}
use Rattle.ept_octree.specs.Index.{in_slots, taken_in, branches}

module _ {F : Type 0} where
  -- the forest in whose slots its nodes are
  abbrev pub forest_of : Octree F → Forest F
  forest_of octree = octree.forest

  -- the rules of its sampling
  abbrev pub rules_of : Octree F → Rules
  rules_of octree = octree.rules

  -- the limit of its number of nodes
  abbrev pub most_of : Octree F → ℕ
  most_of octree = length (forest.nodes_of (forest_of octree))

  -- how many of them may be in memory at a time
  abbrev pub cache_of : Octree F → ℕ
  cache_of octree = octree.cache

  -- how many of them are in memory
  abbrev pub residents_of : Octree F → ℕ
  residents_of octree = forest.residents_of (forest.nodes_of (forest_of octree))

  -- the spill files of its slots
  abbrev pub files_of : Octree F → List F
  files_of octree = map file_of (forest.nodes_of (forest_of octree))

  -- no node is broken
  abbrev pub IsUnbroken : Octree F → Type 0
  IsUnbroken octree = All (λ node. fault_of node ≡ None) (forest.nodes_of (forest_of octree))

  -- each node agrees with its file
  abbrev pub AgreesWithFiles : (F → Option (List ℕ)) → (F → ℕ) → (F → ℕ) → Octree F → Type 0
  AgreesWithFiles held faults keeps octree = All (AgreesWithFile held faults keeps) (forest.nodes_of (forest_of octree))

module _ {F : Type 0} (held : F → Option (List ℕ)) where
  -- its nodes by their keys, in key order: a node in its file has the points that are visible in the file
  abbrev pub nodes_of : Octree F → List Branch
  nodes_of octree = branches (in_slots held (forest.nodes_of (forest_of octree))) octree.slots.entries

  -- the points of all its nodes
  abbrev pub points_of : Octree F → List Point
  points_of octree = points_in (nodes_of octree)

  -- the keys of its nodes in the order of their slots: the nodes that are there when a table is made of it
  abbrev pub begun_of : Octree F → List VoxelKey
  begun_of octree = keys_in (taken_in held (forest.nodes_of (forest_of octree)))

  -- each node has its key and the octree's rules
  abbrev pub HasOwnNodes : Octree F → Type 0
  HasOwnNodes octree = AreNodes (rules_of octree) (nodes_of octree)

  -- none of its nodes is deeper than the greatest depth
  abbrev pub IsShallow : Octree F → Type 0
  IsShallow octree = (b : Branch) → IsMember b (nodes_of octree) → b.0.depth ≤ (rules_of octree).cube.depth

  -- its nodes are a whole octree, whatever points they have
  abbrev pub IsWhole : Octree F → Type 0
  IsWhole octree = AreWhole (map entry_of (nodes_of octree))

  -- each open octant has the slot of its child
  abbrev pub IsLinked : Octree F → Type 0
  IsLinked octree = AreLinked (taken_in held (forest.nodes_of (forest_of octree)))

  -- an octree that was whole is whole, and no node is gone
  abbrev pub GrowsWhole : Octree F → Octree F → Type 0
  GrowsWhole old new =
      IsWhole old → IsWhole new × KeepsNodes (map entry_of (nodes_of old)) (map entry_of (nodes_of new))

-- the same nodes except for which points each has: the same number
abbrev pub AreAlike : List Branch → List Branch → Type 0
AreAlike old new = AllZip (λ (a b : Branch). (b.0 ≡ a.0) × IsAlike a.1 b.1) old new
