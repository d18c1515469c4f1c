-- The nodes in preorder: a node before its children, and children by octant.
use Rattle.std.specs.Prelude.{ℕ, zero, suc, List, [], ◌∷◌, ◌++◌}
use Rattle.std.specs.Ordering.{nat_cmp}
use Rattle.std.specs.Cmp.Lexicographic.{slice_cmp}
use Rattle.std.specs.List.Sorted.{IsPermutation, IsSortedByKey}
use Rattle.ept_space.specs.VoxelKey.{VoxelKey, parent, octant_of}
use Rattle.ept_sample.specs.declared.tiles.Tile.{Tile}

-- the octants of the last steps on the way down to a key, that many
abbrev pub last_steps : ℕ → VoxelKey → List ℕ
last_steps zero key = []
last_steps (suc depth) key = last_steps depth (parent key) ++ (octant_of key ∷ [])

-- the octants on the way from the root down to a key
unfoldable pub path : VoxelKey → List ℕ
path key = last_steps key.depth key

-- the nodes are in preorder, which is the order of their paths
abbrev pub InPreorder : List Tile → Type 0
InPreorder walk = IsSortedByKey (λ (node : Tile). path node.key) (slice_cmp nat_cmp) walk

-- the walk has the same nodes, in preorder
pub record IsWalk (nodes walk : List Tile) : Type 0 where
  pub each : IsPermutation nodes walk
  pub order : InPreorder walk
