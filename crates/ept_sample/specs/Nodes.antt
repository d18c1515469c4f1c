-- The sampling as a list of tiles, in key order.
use Rattle.std.specs.Prelude.{ℕ, zero, suc, List, [], ◌∷◌, ◌++◌, map, filter}
use Rattle.std.specs.List.{flat_map}
use Rattle.std.specs.Ordering.{match_ordering}
use Rattle.ept_point.specs.declared.point.Point.{Point}
use Rattle.ept_space.specs.declared.cube.Rules.{Rules}
use Rattle.ept_space.specs.VoxelKey.{VoxelKey, root, key_cmp}
use Rattle.ept_space.specs.Place.{Place}
use Rattle.ept_space.specs.OctreeCube.{OctreeCube, key_at}
use Rattle.ept_sample.specs.declared.tiles.Tile.{Tile}
use Rattle.ept_sample.specs.Place.{place}
use Rattle.ept_sample.specs.Sampling.{sampling, is_node}

-- the keys of the boxes that a place lies in, from the root's down to that of a depth
abbrev pub keys_down_to : OctreeCube → ℕ → Place → List VoxelKey
keys_down_to cube zero at = key_at cube 0 at ∷ []
keys_down_to cube (suc depth) at = keys_down_to cube depth at ++ key_at cube (suc depth) at ∷ []

-- a key at its place in an ascending list, which holds it once
abbrev pub with_key : VoxelKey → List VoxelKey → List VoxelKey
with_key key [] = key ∷ []
with_key key (k ∷ keys) = match_ordering (key_cmp key k) (key ∷ k ∷ keys) (k ∷ keys) (k ∷ with_key key keys)

-- the keys in key order, each once
abbrev pub in_key_order : List VoxelKey → List VoxelKey
in_key_order [] = []
in_key_order (key ∷ keys) = with_key key (in_key_order keys)

-- the root, and the keys of the boxes that points lie in
abbrev pub candidate_keys : OctreeCube → List Point → List VoxelKey
candidate_keys cube points = root ∷ flat_map (λ p. keys_down_to cube cube.depth (place p)) points

-- the keys of the sampling, in key order: those of them that are nodes
unfoldable pub node_keys : Rules → List Point → List VoxelKey
node_keys rules points = in_key_order (filter (is_node rules points) (candidate_keys rules.cube points))

-- the tile of a key
abbrev pub tile_at : Rules → List Point → VoxelKey → Tile
tile_at rules points key = record { key = key; points = sampling rules points key }

-- the tiles of the sampling, in key order
unfoldable pub sampled : Rules → List Point → List Tile
sampled rules points = map (tile_at rules points) (node_keys rules points)
