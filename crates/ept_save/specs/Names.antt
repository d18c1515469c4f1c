-- The names of the work files, in the folder `ept-work/`.
use Rattle.std.specs.Prelude.{◌≡◌, ◌⊎◌, ℕ, List, ◌++◌, codes}
use Rattle.ept_space.specs.VoxelKey.{VoxelKey}
use Rattle.ept_space.specs.KeyText.{key_text}
use Rattle.ept_ckpt.specs.declared.letter.Letter.{Letter}
use Rattle.ept_ckpt.specs.declared.letter.Letter.TheVariants.{A, B}

-- the other one of the two letters
abbrev pub other : Letter → Letter
other A = B
other B = A

-- the gate of a letter
abbrev pub gate_name : Letter → List ℕ
gate_name A = codes "ept-work/gate-a"
gate_name B = codes "ept-work/gate-b"

-- its body
abbrev pub body_name : Letter → List ℕ
body_name A = codes "ept-work/body-a"
body_name B = codes "ept-work/body-b"

-- the folder of its tiles
abbrev pub folder : Letter → List ℕ
folder A = codes "ept-work/a/"
folder B = codes "ept-work/b/"

-- its tile of a key
unfoldable pub work_tile_name : Letter → VoxelKey → List ℕ
work_tile_name letter key = folder letter ++ key_text key ++ codes ".bin"

-- the done gate
abbrev pub done_name : List ℕ
done_name = codes "ept-work/done-2"

-- the name is that of a gate, a body or a tile of a checkpoint
abbrev pub IsSavedName : List ℕ → Type 0
IsSavedName name =
    ((letter : Letter) × (name ≡ gate_name letter)) ⊎ ((letter : Letter) × (name ≡ body_name letter))
    ⊎ ((letter : Letter) × (key : VoxelKey) × (name ≡ work_tile_name letter key))
