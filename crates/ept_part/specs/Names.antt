-- The names of a part's files, in a folder of its own.
use Rattle.std.specs.Prelude.{◌≡◌, ℕ, ◌+◌, List, ◌++◌, codes, map, filter}
use Rattle.ept_space.specs.VoxelKey.{VoxelKey}
use Rattle.ept_space.specs.KeyText.{key_text}
use Rattle.ept_sample.specs.Arrivals.{all_octants}
use Rattle.ept_grid.specs.Mask.{opened}
use Rattle.ept_ckpt.specs.declared.node_line.NodeLine.{NodeLine}

-- the octants of a set as digits, in ascending order
unfoldable pub digits : ℕ → List ℕ
digits octants = map (λ o. 48 + o) (filter (opened octants) all_octants)

-- the folder of the part
unfoldable pub part_folder : ℕ → List ℕ
part_folder octants = codes "ept-work/part-" ++ digits octants

-- its gate, which is open once the part is whole
unfoldable pub part_gate : ℕ → List ℕ
part_gate octants = part_folder octants ++ codes "/gate"

-- its body, as a checkpoint's
unfoldable pub part_body : ℕ → List ℕ
part_body octants = part_folder octants ++ codes "/body"

-- its tile of a key
unfoldable pub part_tile : ℕ → VoxelKey → List ℕ
part_tile octants key = part_folder octants ++ (codes "/" ++ (key_text key ++ codes ".bin"))

abbrev pub part_tile_of : ℕ → NodeLine → List ℕ
part_tile_of octants line = part_tile octants line.key

-- the name is in the folder of the part
unfoldable pub IsPartName : ℕ → List ℕ → Type 0
IsPartName octants name = (rest : List ℕ) × (name ≡ part_folder octants ++ (codes "/" ++ rest))
