-- The nodes of an octree one at a time.
use Rattle.std.specs.Prelude.{◌≡◌, List}
use Rattle.ept_space.specs.VoxelKey.{VoxelKey}
use Rattle.ept_sample.specs.Members.{IsMember}
use Rattle.ept_grid.specs.Node as grid
use Rattle.ept_table.specs.Octree.{Branch}

-- some node has the key
abbrev pub HasKey : List Branch → VoxelKey → Type 0
HasKey nodes key = (b : Branch) × IsMember b nodes × (b.0 ≡ key)

-- this holds of the node of the key
abbrev pub IfNodeAt : List Branch → VoxelKey → (grid.Node → Type 0) → Type 0
IfNodeAt nodes key fact = (b : Branch) → IsMember b nodes → b.0 ≡ key → fact b.1
