-- Nodes that are written read back.
use Rattle.std.proofs.Common.{◌≡◌, ℕ, ◌-◌, ◌^◌, ◌<◌, ◌≤◌, List, ◌∷◌, ◌++◌, Ok, refl, arith}
use Rattle.std.proofs.Math.Nat.{pow-le-pow_right}
use Rattle.byteorder.specs.Endian.{little_bytes}
use Rattle.ept_space.specs.VoxelKey.{VoxelKey, IsKey}
use Rattle.ept_ckpt.specs.declared.node_line.NodeLine.{NodeLine}
use Rattle.ept_ckpt.specs.declared.letter.Letter.{Letter}
use Rattle.ept_ckpt.specs.declared.letter.Letter.TheVariants.{A, B}
use Rattle.ept_ckpt.specs.Body.{letter_code, node_bytes}
use Rattle.ept_ckpt.specs.Fields.{number}
use Rattle.ept_ckpt.specs.Forms.{index, key_form, node_form, letter_of}
use Rattle.ept_ckpt.proofs.WrittenNumbers.{read_then, within_read, byte_within, byte_written, number_written}

-- an index on an axis
index_written : (total depth n : ℕ) (rest : List ℕ) → depth ≤ 31 → n < 2 ^ depth → index depth total (little_bytes 4 n ++ rest) ≡ Ok (n, rest)
unfolding index
index_written total depth n rest shallow small =
    let most : 2 ^ depth ≤ 2 ^ 31 = pow-le-pow_right {n = 2} (omega arith) {i = depth} {j = 31} shallow in
    within_read 0 (2 ^ depth - 1) (number 4) total _ rest n (number_written total 4 n rest (omega (arith, small, most))) (omega arith) (omega (arith, small))

-- the depth of a key, and its index on each axis
key_bytes : VoxelKey → List ℕ
key_bytes key = key.depth ∷ little_bytes 4 key.x ++ little_bytes 4 key.y ++ little_bytes 4 key.z

key_written : (total most : ℕ) (key : VoxelKey) (rest : List ℕ) → IsKey key → key.depth ≤ most → key_form most total (key_bytes key ++ rest) ≡ Ok (key, rest)
unfolding key_form key_bytes
key_written total most key rest is deep =
    let z : List ℕ = little_bytes 4 key.z ++ rest in
    let y : List ℕ = little_bytes 4 key.y ++ z in
    let x : List ℕ = little_bytes 4 key.x ++ y in
    read_then _ (byte_within total 0 most key.depth x (omega arith) deep)
    (read_then _ (index_written total key.depth key.x y is.shallow is.x_in)
    (read_then _ (index_written total key.depth key.y z is.shallow is.y_in)
    (read_then _ (index_written total key.depth key.z rest is.shallow is.z_in) refl)))

letter_of-code : (letter : Letter) → letter_of (letter_code letter) ≡ letter
letter_of-code A = refl
letter_of-code B = refl

letter-most : (letter : Letter) → letter_code letter ≤ 1
letter-most A = omega arith
letter-most B = omega arith

pub line_written : (total most : ℕ) (line : NodeLine) (rest : List ℕ) → IsKey line.key → line.key.depth ≤ most → line.count < 2 ^ 64 → node_form most total (node_bytes line ++ rest) ≡ Ok (line, rest)
unfolding node_form node_bytes key_bytes
line_written total most line rest is deep few =
    let code : List ℕ = letter_code line.letter ∷ rest in
    let mask : List ℕ = line.mask ∷ code in
    let count : List ℕ = little_bytes 8 line.count ++ mask in
    read_then _ (key_written total most line.key count is deep)
    (read_then _ (number_written total 8 line.count mask (omega (arith, few)))
    (read_then _ (byte_written total line.mask code)
    (read_then _ (byte_within total 0 1 (letter_code line.letter) rest (omega arith) (letter-most line.letter)) (rw (letter_of-code line.letter) refl))))
