-- The sampling of a list of points.
use Rattle.std.specs.Prelude.{ℕ, zero, suc, Bool, ◌||◌, nat_lt, List, [], length, if◌then◌else◌}
use Rattle.ept_point.specs.declared.point.Point.{Point}
use Rattle.ept_space.specs.declared.cube.Rules.{Rules}
use Rattle.ept_space.specs.VoxelKey.{VoxelKey, root, same_key, parent, octant_of}
use Rattle.ept_sample.specs.Ids.{in_id_order}
use Rattle.ept_sample.specs.Arrivals.{none_open, kept, sent}

-- the points given to the node of a key of that depth. The root is given all of them, in id order. A child is given
-- those that its parent sends to its octant.
unfoldable pub given_at : Rules → List Point → ℕ → VoxelKey → List Point
given_at rules points zero key = if same_key key root then in_id_order points else []
given_at rules points (suc depth) key =
    sent rules depth none_open (given_at rules points depth (parent key)) (octant_of key)

-- the same at the key's own depth
abbrev pub given : Rules → List Point → VoxelKey → List Point
given rules points key = given_at rules points key.depth key

-- the sampling: at each key the points given to it that stay there, in id order
unfoldable pub sampling : Rules → List Point → VoxelKey → List Point
sampling rules points key = kept rules key.depth none_open (given rules points key)

-- the keys of the sampling: the root, and each key that is given a point
unfoldable pub is_node : Rules → List Point → VoxelKey → Bool
is_node rules points key = same_key key root || nat_lt 0 (length (given rules points key))
