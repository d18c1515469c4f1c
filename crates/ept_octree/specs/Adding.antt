-- A node that is added.
use Rattle.std.specs.Prelude.{◌≡◌, ◌⊎◌, ◌-◌, ◌<◌, ◌≤◌, ℕ, List, [], ◌∷◌}
use Rattle.ept_point.specs.declared.point.Point.{Point}
use Rattle.ept_space.specs.declared.cube.Rules.{Rules}
use Rattle.ept_space.specs.VoxelKey.{VoxelKey, root}
use Rattle.ept_sample.specs.Members.{IsMember}
use Rattle.ept_grid.specs.Node as grid
use Rattle.ept_grid.specs.declared.error.GridError.{GridError}
use Rattle.ept_grid.specs.declared.error.GridError.TheVariants as faults
use Rattle.ept_node.specs.declared.node.Node.{Node}
use Rattle.ept_node.specs.declared.state.NodeState.TheVariants.{Resident}
use Rattle.ept_node.specs.Shown.{state_of}
use Rattle.ept_table.specs.At.{At}
use Rattle.ept_table.specs.Octree.{Branch}
use Rattle.ept_octree.specs.declared.octree.Octree.{Octree}
use Rattle.ept_octree.specs.Octree.{residents_of, cache_of}
use Rattle.ept_octree.specs.declared.error.AddError.{AddError}
use Rattle.ept_octree.specs.declared.error.AddError.TheVariants as errors

-- the node of a key with these points and open octants
abbrev pub filled : VoxelKey → Rules → ℕ → List Point → grid.Node
filled key rules mask points = record { key = key; rules = rules; points = points; mask = mask; room = grid.no_room }

-- no node has the key, or it is the root and there is no other node and no point
abbrev pub IsFree : VoxelKey → List Branch → Type 0
IsFree key nodes =
    ((b : Branch) → IsMember b nodes → b.0 ≡ key → ⊥) ⊎ ((key ≡ root) × (g : grid.Node) × (nodes ≡ (let b : Branch = (root, g) in b) ∷ []) × (g.points ≡ []))

-- the key is the root's, or one node more may be in memory
abbrev pub HasRoomFor : {F : Type 0} → VoxelKey → Octree F → Type 0
HasRoomFor key octree = (key ≡ root) ⊎ (residents_of octree < cache_of octree)

-- the node of a slot is in memory, and not broken
pub record IsInMemory {F : Type 0} (slot : ℕ) (nodes : List (Node F)) : Type 0 where
  pub node : Node F
  pub some : 1 ≤ slot
  pub at : At nodes (slot - 1) node
  pub state : state_of node ≡ Resident

-- out of memory, or what is wrong with the tile
abbrev pub of_grid : GridError → AddError
of_grid faults.Memory = errors.Memory
of_grid (faults.Outside at) = errors.Damaged (faults.Outside at)
of_grid (faults.OpenLoser at) = errors.Damaged (faults.OpenLoser at)
of_grid (faults.TooMany o) = errors.Damaged (faults.TooMany o)
of_grid faults.Deep = errors.Damaged faults.Deep
