-- The hierarchy of a dataset in files (Entwine Point Tile 1.1.0, "ept-hierarchy").
--
-- `step` is the number of depths in one file. With 0 all nodes are in the root's file.
use Rattle.std.specs.Prelude.{◌≡◌, ℕ, ◌+◌, ◌<◌, ◌%◌, ℤ, pos, negsuc, Bool, ◌&&◌, ◌||◌, ◌==◌, nat_le, nat_lt, List, ◌++◌, map, filter, if◌then◌else◌, codes, Contains}
use Rattle.std.specs.Fmt.{signed_decimal}
use Rattle.std.specs.List.{join_by}
use Rattle.ept_space.specs.VoxelKey.{VoxelKey, root, parent, same_key, is_within, AreAscending}
use Rattle.ept_space.specs.KeyText.{key_text}
use Rattle.ept_hier.specs.declared.file.HierFile.{HierFile}

-- ---- the text of a file

-- an entry of a file: a key and its number
abbrev pub Entry : Type 0
Entry = VoxelKey × ℤ

-- `"D-X-Y-Z":N`
unfoldable pub entry_text : Entry → List ℕ
entry_text e = codes "\"" ++ key_text e.0 ++ codes "\":" ++ signed_decimal e.1

-- the object of the entries, in their order and without white space
unfoldable pub hierarchy_text : List Entry → List ℕ
hierarchy_text entries = codes "{" ++ join_by entry_text (codes ",") entries ++ codes "}"

-- ---- which nodes are in which file

-- a node: its key, and the number of its points
abbrev pub Node : Type 0
Node = VoxelKey × ℕ

-- the keys of nodes
abbrev pub keys_of : List Node → List VoxelKey
keys_of nodes = map (λ (n : Node). n.0) nodes

-- whether a node has a file of its own: the root with step 0, otherwise each node whose depth is a multiple of the step
unfoldable pub has_file : ℕ → VoxelKey → Bool
has_file step key = if step == 0 then same_key key root else (key.depth % step == 0)

-- whether a node is in the file of `top`: it is `top` or below it, and at most `step` depths deeper
unfoldable pub stands_in : ℕ → VoxelKey → VoxelKey → Bool
stands_in step top key = is_within top key && ((step == 0) || nat_le key.depth (top.depth + step))

-- whether it is a link there: it is `step` depths deeper, and its count is in its own file
unfoldable pub is_link : ℕ → VoxelKey → VoxelKey → Bool
is_link step top key = nat_lt 0 step && (key.depth == top.depth + step)

-- the entry of a node in the file of `top`: its count, or -1 if it is a link
abbrev pub entry_in : ℕ → VoxelKey → Node → Entry
entry_in step top n = (n.0, if is_link step top n.0 then negsuc 0 else pos n.1)

-- the entries of the file of `top`, in the order of the nodes
unfoldable pub entries_of : ℕ → List Node → VoxelKey → List Entry
entries_of step nodes top = map (entry_in step top) (filter (λ (n : Node). stands_in step top n.0) nodes)

-- ---- the files

-- the file of a node
abbrev pub file_of : ℕ → List Node → Node → HierFile
file_of step nodes n = record { key = n.0; text = hierarchy_text (entries_of step nodes n.0) }

-- the files of nodes, in the order of the nodes
unfoldable pub hierarchy : ℕ → List Node → List HierFile
hierarchy step nodes = map (file_of step nodes) (filter (λ (n : Node). has_file step n.0) nodes)

-- ---- what holds of the nodes of an octree

-- the keys ascend
unfoldable pub KeysAscend : List Node → Type 0
KeysAscend nodes = AreAscending (keys_of nodes)

-- each node's parent is one of them, so that the root comes first
unfoldable pub HaveParents : List Node → Type 0
HaveParents nodes = (key : VoxelKey) → Contains (keys_of nodes) key → 0 < key.depth → Contains (keys_of nodes) (parent key)
