-- The text of a key (Entwine Point Tile 1.1.0, "Keys").
use Rattle.std.specs.Prelude.{ℕ, List, ◌++◌, codes, decimal}
use Rattle.ept_space.specs.VoxelKey.{VoxelKey}

-- `D-X-Y-Z` in decimal
unfoldable pub key_text : VoxelKey → List ℕ
key_text key =
    decimal key.depth ++ codes "-" ++ decimal key.x ++ codes "-" ++ decimal key.y ++ codes "-" ++ decimal key.z
