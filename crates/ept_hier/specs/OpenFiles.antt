-- The files while they are written.
use Rattle.std.specs.Prelude.{ℕ, ◌-◌, ◌*◌, ◌/◌, ◌==◌, nat_lt, ℤ, pos, negsuc, List, ◌++◌, map, filter, if◌then◌else◌, codes}
use Rattle.std.specs.declared.option.Option.{Option}
use Rattle.std.specs.declared.option.Option.TheVariants.{None, Some}
use Rattle.std.specs.List.{join_by}
use Rattle.std.specs.BTreeMap.{insert_entry}
use Rattle.ept_space.specs.VoxelKey.{VoxelKey, ancestor, same_key, key_cmp}
use Rattle.ept_hier.specs.Hierarchy.{Node, entry_text, has_file, entries_of, entry_in}
use Rattle.ept_hier.specs.declared.file.HierFile.{HierFile}

-- a key and the text of its file, without the brace that ends it
abbrev pub OpenFile : Type 0
OpenFile = VoxelKey × List ℕ

-- the number of a count, and of a link
abbrev pub number_of : Option ℕ → ℤ
number_of (Some count) = pos count
number_of None = negsuc 0

-- the depth of the file above a node of this depth, which has an entry of the node and is not its own
unfoldable pub file_depth : ℕ → ℕ → ℕ
file_depth step depth = if step == 0 then 0 else (depth - 1) / step * step

-- the key of that file
unfoldable pub file_above : ℕ → VoxelKey → VoxelKey
file_above step key = ancestor (key.depth - file_depth step key.depth) key

-- the text of a file up to the brace that ends it
unfoldable pub open_text : ℕ → List Node → VoxelKey → List ℕ
open_text step nodes top = codes "{" ++ join_by entry_text (codes ",") (entries_of step nodes top)

-- the files of the nodes so far
unfoldable pub open_files : ℕ → List Node → List OpenFile
open_files step nodes = map (λ (n : Node). (n.0, open_text step nodes n.0)) (filter (λ (n : Node). has_file step n.0) nodes)

-- an open file with one more entry, if it is the file above the node
unfoldable pub with_entry : ℕ → Node → OpenFile → OpenFile
with_entry step n d = (d.0, if same_key d.0 (file_above step n.0) then d.1 ++ codes "," ++ entry_text (entry_in step d.0 n) else d.1)

-- The open files with one more node. A node below the root is added to the file above it. A node with a file of its own
-- is added to that.
unfoldable pub with_node : ℕ → Node → List OpenFile → List OpenFile
with_node step n files =
    let above = if nat_lt 0 n.0.depth then map (with_entry step n) files else files in if has_file step n.0 then insert_entry key_cmp above n.0 (codes "{" ++ entry_text (n.0, pos n.1)) else above

-- an open file, with the brace that ends it
abbrev pub closed : OpenFile → HierFile
closed d = record { key = d.0; text = d.1 ++ codes "}" }
