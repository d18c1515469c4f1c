-- What holds of all keys. Each statement is a clause of a function of `laws`.
use Rattle.std.specs.Prelude.{◌≡◌, ℕ, suc, zero, ◌+◌, ◌<◌, ◌≤◌, ◌↔◌, IsTrue}
use Rattle.ept_space.specs.VoxelKey.{VoxelKey, IsKey, root, child, parent, octant_of, is_within, is_below, same_key, IsBefore, key_cmp}
use Rattle.ept_space.specs.KeyText.{key_text}
use Rattle.std.specs.Cmp.{IsTotalOrder}
use Rattle.std.specs.declared.cmp.Ordering.TheVariants.{Less, Equal}

-- ---- parents and children

abbrev pub ChildHasParent : Type 0
ChildHasParent = (key : VoxelKey) (octant : ℕ) → parent (child key octant) ≡ key

abbrev pub ChildHasOctant : Type 0
ChildHasOctant = (key : VoxelKey) (octant : ℕ) → octant < 8 → octant_of (child key octant) ≡ octant

abbrev pub ParentHasChild : Type 0
ParentHasChild = (key : VoxelKey) → 0 < key.depth → child (parent key) (octant_of key) ≡ key

abbrev pub EightOctants : Type 0
EightOctants = (key : VoxelKey) → octant_of key < 8

abbrev pub ChildIsDeeper : Type 0
ChildIsDeeper = (key : VoxelKey) (octant : ℕ) → (child key octant).depth ≡ key.depth + 1

abbrev pub ChildIsKey : Type 0
ChildIsKey = (key : VoxelKey) (octant : ℕ) → IsKey key → key.depth < 31 → IsKey (child key octant)

abbrev pub ParentIsKey : Type 0
ParentIsKey = (key : VoxelKey) → IsKey key → IsKey (parent key)

-- the only key of depth 0
abbrev pub OneRoot : Type 0
OneRoot = (key : VoxelKey) → IsKey key → key.depth ≡ 0 → key ≡ root

-- ---- within and below

-- the key that is n parents above
abbrev pub parents : ℕ → VoxelKey → VoxelKey
parents zero key = key
parents (suc n) key = parent (parents n key)

-- a key is within another if and only if some number of parent steps reaches it
abbrev pub WithinByParents : Type 0
WithinByParents =
    (top key : VoxelKey) → IsTrue (is_within top key) ↔ ((n : ℕ) × (n ≤ key.depth) × (parents n key ≡ top))

-- a key is below another if and only if it is within it and deeper
abbrev pub BelowIsDeeper : Type 0
BelowIsDeeper =
    (top key : VoxelKey) → IsTrue (is_below top key) ↔ (IsTrue (is_within top key) × (top.depth < key.depth))

abbrev pub WithinItself : Type 0
WithinItself = (key : VoxelKey) → IsTrue (is_within key key)

abbrev pub WithinAndOn : Type 0
WithinAndOn = (a b c : VoxelKey) → IsTrue (is_within a b) → IsTrue (is_within b c) → IsTrue (is_within a c)

-- if a key is within two keys, the less deep of the two has the deeper one within it
abbrev pub WithinInOrder : Type 0
WithinInOrder =
    (a b key : VoxelKey) → IsTrue (is_within a key) → IsTrue (is_within b key) → a.depth ≤ b.depth → IsTrue (is_within a b)

-- so there is one key of each depth
abbrev pub OneOfEachDepth : Type 0
OneOfEachDepth =
    (a b key : VoxelKey) → IsTrue (is_within a key) → IsTrue (is_within b key) → a.depth ≡ b.depth → a ≡ b

abbrev pub RootHasAll : Type 0
RootHasAll = (key : VoxelKey) → IsKey key → IsTrue (is_within root key)

-- a key is below another if and only if it is within one of its children
abbrev pub BelowIsInAChild : Type 0
BelowIsInAChild =
    (key lower : VoxelKey) → IsTrue (is_below key lower) ↔ ((octant : ℕ) × (octant < 8) × IsTrue (is_within (child key octant) lower))

-- within one child only
abbrev pub ChildrenAreApart : Type 0
ChildrenAreApart =
    (key lower : VoxelKey) (a b : ℕ) → a < 8 → b < 8 → IsTrue (is_within (child key a) lower) → IsTrue (is_within (child key b) lower) → a ≡ b

-- and if and only if its parent is within it
abbrev pub BelowByParent : Type 0
BelowByParent =
    (top key : VoxelKey) → 0 < key.depth → IsTrue (is_below top key) ↔ IsTrue (is_within top (parent key))

-- the test of equality
abbrev pub SameKeyTells : Type 0
SameKeyTells = (a b : VoxelKey) → IsTrue (same_key a b) ↔ (a ≡ b)

-- ---- the order of keys

abbrev pub KeysAreOrdered : Type 0
KeysAreOrdered = IsTotalOrder key_cmp

abbrev pub LessIsBefore : Type 0
LessIsBefore = (a b : VoxelKey) → (key_cmp a b ≡ Less) ↔ IsBefore a b

abbrev pub EqualIsSame : Type 0
EqualIsSame = (a b : VoxelKey) → (key_cmp a b ≡ Equal) ↔ (a ≡ b)

-- a child comes after its parent
abbrev pub ParentIsBefore : Type 0
ParentIsBefore = (key : VoxelKey) (octant : ℕ) → IsBefore key (child key octant)

-- ---- texts

-- no two keys have the same text
abbrev pub OneSpelling : Type 0
OneSpelling = (a b : VoxelKey) → IsKey a → IsKey b → key_text a ≡ key_text b → a ≡ b
