-- Parents, children and octants of keys.
use Rattle.std.proofs.Common.{◌≡◌, ℕ, zero, suc, ◌+◌, ◌-◌, ◌*◌, ◌/◌, ◌%◌, ◌^◌, ◌<◌, refl, ap, ◌∙◌, arith, add-one}
use Rattle.std.proofs.Math.Nat.{pow-suc}
use Rattle.ept_space.specs.VoxelKey.{VoxelKey, IsKey, root, child, parent, octant_of}

-- keys with equal parts are one
pub same-parts : (a b : VoxelKey) → a.depth ≡ b.depth → a.x ≡ b.x → a.y ≡ b.y → a.z ≡ b.z → a ≡ b
same-parts a b depth x y z = λ i. record { depth = depth i; x = x i; y = y i; z = z i }

pub parent-child : (key : VoxelKey) (octant : ℕ) → parent (child key octant) ≡ key
unfolding parent child
parent-child key octant =
    same-parts _ _ (omega arith) (omega arith) (omega arith) (omega arith)

pub octant_of-child : (key : VoxelKey) (octant : ℕ) → octant < 8 → octant_of (child key octant) ≡ octant
unfolding octant_of child
octant_of-child key octant h = omega arith

pub child-parent : (key : VoxelKey) → 0 < key.depth → child (parent key) (octant_of key) ≡ key
unfolding child parent octant_of
child-parent key h =
    same-parts _ _ (omega arith) (omega arith) (omega arith) (omega arith)

pub octant_of-below : (key : VoxelKey) → octant_of key < 8
unfolding octant_of
octant_of-below key = omega arith

pub depth-child : (key : VoxelKey) (octant : ℕ) → (child key octant).depth ≡ key.depth + 1
unfolding child
depth-child key octant = refl

pub depth-parent : (key : VoxelKey) → (parent key).depth ≡ key.depth - 1
unfolding parent
depth-parent key = refl

-- ---- keys

pub IsKey-child : (key : VoxelKey) (octant : ℕ) → IsKey key → key.depth < 31 → IsKey (child key octant)
unfolding child
IsKey-child key octant h shallow =
    record {
      shallow = omega arith;
      x_in = doubled key.x (octant % 2) h.x_in (omega arith);
      y_in = doubled key.y (octant / 2 % 2) h.y_in (omega arith);
      z_in = doubled key.z (octant / 4 % 2) h.z_in (omega arith);
    }
  where
    doubled : (n b : ℕ) → n < 2 ^ key.depth → b < 2 → 2 * n + b < 2 ^ (key.depth + 1)
    doubled n b small bit = let power : 2 ^ (key.depth + 1) ≡ 2 ^ key.depth * 2 = ap (λ k. 2 ^ k) (add-one key.depth) ∙ pow-suc 2 key.depth in omega arith

-- the key of depth 0 is the root
pub root-only : (key : VoxelKey) → IsKey key → key.depth ≡ 0 → key ≡ root
root-only key h top =
    same-parts key root top (least key.x h.x_in) (least key.y h.y_in) (least key.z h.z_in)
  where
    least : (n : ℕ) → n < 2 ^ key.depth → n ≡ 0
    least n small = let power : 2 ^ key.depth ≡ 1 = ap (λ k. 2 ^ k) top in omega arith

-- half an index is an index of the depth above
half-below : (n d : ℕ) → n < 2 ^ d → n / 2 < 2 ^ (d - 1)
half-below n zero small = omega arith
half-below n (suc d) small =
    let power : 2 ^ suc d ≡ 2 ^ d * 2 = pow-suc 2 d in
    let above : 2 ^ (suc d - 1) ≡ 2 ^ d = ap (λ k. 2 ^ k) (omega arith) in
    omega arith

pub IsKey-parent : (key : VoxelKey) → IsKey key → IsKey (parent key)
unfolding parent
IsKey-parent key h =
    record {
      shallow = omega arith;
      x_in = half-below key.x key.depth h.x_in;
      y_in = half-below key.y key.depth h.y_in;
      z_in = half-below key.z key.depth h.z_in;
    }
