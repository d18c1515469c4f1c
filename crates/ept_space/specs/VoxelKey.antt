-- Keys of nodes, `D-X-Y-Z` (Entwine Point Tile 1.1.0, "Keys").
use Rattle.std.specs.declared.cmp.Ordering.{Ordering}
use Rattle.std.specs.declared.cmp.Ordering.TheVariants.{Less}
use Rattle.std.specs.Ordering.{nat_cmp, ordering_then}
use Rattle.std.specs.Prelude.{◌≡◌, ℕ, ◌+◌, ◌-◌, ◌*◌, ◌/◌, ◌%◌, ◌^◌, ◌<◌, ◌≤◌, Bool, ◌&&◌, ◌⊎◌, ◌==◌, List, AllPairs, nat_le, nat_lt}

-- a depth, and the index of a box on each axis among the boxes of that depth
pub record VoxelKey : Type 0 where
  pub depth : ℕ
  pub x : ℕ
  pub y : ℕ
  pub z : ℕ

-- the depth is at most 31, and each index is one of the 2 ^ depth of its axis
pub record IsKey (key : VoxelKey) : Type 0 where
  pub shallow : key.depth ≤ 31
  pub x_in : key.x < 2 ^ key.depth
  pub y_in : key.y < 2 ^ key.depth
  pub z_in : key.z < 2 ^ key.depth

-- the key of the whole cube
abbrev pub root : VoxelKey
root = record { depth = 0; x = 0; y = 0; z = 0 }

-- two keys are the same
abbrev pub same_key : VoxelKey → VoxelKey → Bool
same_key a b = (a.depth == b.depth) && (a.x == b.x) && (a.y == b.y) && (a.z == b.z)

-- the key of an octant of a key's box. Bit 0 of the octant is the upper half of x, bit 1 of y, bit 2 of z.
unfoldable pub child : VoxelKey → ℕ → VoxelKey
child key octant = record {
  depth = key.depth + 1;
  x = 2 * key.x + octant % 2;
  y = 2 * key.y + octant / 2 % 2;
  z = 2 * key.z + octant / 4 % 2;
}

-- the key one depth above
unfoldable pub parent : VoxelKey → VoxelKey
parent key = record { depth = key.depth - 1; x = key.x / 2; y = key.y / 2; z = key.z / 2 }

-- which octant of its parent a key is
unfoldable pub octant_of : VoxelKey → ℕ
octant_of key = key.x % 2 + 2 * (key.y % 2) + 4 * (key.z % 2)

-- the key that is `steps` depths above
unfoldable pub ancestor : ℕ → VoxelKey → VoxelKey
ancestor steps key = record {
  depth = key.depth - steps;
  x = key.x / 2 ^ steps;
  y = key.y / 2 ^ steps;
  z = key.z / 2 ^ steps;
}

-- the key is `top`, or below it: `top` is the key's ancestor at its depth
unfoldable pub is_within : VoxelKey → VoxelKey → Bool
is_within top key = nat_le top.depth key.depth && same_key (ancestor (key.depth - top.depth) key) top

-- the key is below `top`: it is within it, and deeper
unfoldable pub is_below : VoxelKey → VoxelKey → Bool
is_below top key = nat_lt top.depth key.depth && is_within top key

-- ---- the order of keys: by depth, then x, y and z

-- a key comes before another
abbrev pub IsBefore : VoxelKey → VoxelKey → Type 0
IsBefore a b =
    (a.depth < b.depth) ⊎ ((a.depth ≡ b.depth) × ((a.x < b.x) ⊎ ((a.x ≡ b.x) × ((a.y < b.y) ⊎ ((a.y ≡ b.y) × (a.z < b.z))))))

-- what `cmp` of two keys returns
abbrev pub key_cmp : VoxelKey → VoxelKey → Ordering
key_cmp a b =
    ordering_then (nat_cmp a.depth b.depth) (ordering_then (nat_cmp a.x b.x) (ordering_then (nat_cmp a.y b.y) (nat_cmp a.z b.z)))

-- the keys ascend, each once
abbrev pub AreAscending : List VoxelKey → Type 0
AreAscending keys = AllPairs (λ a b. key_cmp a b ≡ Less) keys
