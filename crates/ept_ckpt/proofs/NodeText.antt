-- The bytes of a node, one field after another.
use Rattle.std.proofs.Common.{◌≡◌, ◌∙◌, ◌++◌, ℕ, List, [], ◌∷◌, ap}
use Rattle.byteorder.specs.Endian.{little_bytes}
use Rattle.ept_space.specs.VoxelKey.{VoxelKey}
use Rattle.ept_ckpt.specs.declared.node_line.NodeLine.{NodeLine}
use Rattle.ept_ckpt.specs.Body.{node_bytes, letter_code}
use Rattle.ept_ckpt.proofs.Appending.{six_written}

-- the node with this key, and this code of its letter
node_with : NodeLine → VoxelKey → ℕ → List ℕ
node_with line key code =
    (key.depth ∷ [])
    ++ little_bytes 4 key.x
    ++ little_bytes 4 key.y
    ++ little_bytes 4 key.z
    ++ little_bytes 8 line.count
    ++ (line.mask ∷ code ∷ [])

pub node_written : (line : NodeLine) (key : VoxelKey) (code : ℕ) (start t0 t1 t2 t3 t4 end : List ℕ) → key ≡ line.key → code ≡ letter_code line.letter
    → t0 ≡ start ++ (key.depth ∷ []) → t1 ≡ t0 ++ little_bytes 4 key.x → t2 ≡ t1 ++ little_bytes 4 key.y → t3 ≡ t2 ++ little_bytes 4 key.z → t4 ≡ t3 ++ little_bytes 8 line.count
    → end ≡ t4 ++ (line.mask ∷ code ∷ []) → end ≡ start ++ node_bytes line
unfolding node_bytes node_with
node_written line key code start t0 t1 t2 t3 t4 end key_is code_is e0 e1 e2 e3 e4 e5 =
    six_written start (key.depth ∷ []) (little_bytes 4 key.x) (little_bytes 4 key.y) (little_bytes 4 key.z) (little_bytes 8 line.count) (line.mask ∷ code ∷ []) t0 t1 t2 t3 t4 end e0 e1 e2 e3 e4 e5
    ∙ ap (λ k. start ++ node_with line k code) key_is
    ∙ ap (λ n. start ++ node_with line line.key n) code_is
