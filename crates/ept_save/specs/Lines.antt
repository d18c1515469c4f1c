-- The lines for the next checkpoint.
use Rattle.std.specs.Prelude.{Bool, List, ◌∷◌, ◌++◌, filter, Option, Some, None}
use Rattle.std.specs.Ordering.{is_lt}
use Rattle.ept_space.specs.VoxelKey.{VoxelKey, key_cmp}
use Rattle.ept_ckpt.specs.declared.letter.Letter.{Letter}
use Rattle.ept_ckpt.specs.declared.letter.Letter.TheVariants.{A}
use Rattle.ept_ckpt.specs.declared.node_line.NodeLine.{NodeLine}
use Rattle.ept_ckpt.specs.Lookup.{line_of_key}
use Rattle.ept_save.specs.Names.{other}
use Rattle.ept_save.specs.Current.{Current}

-- the other version than the one that a line names, or a
abbrev pub free_of : Option NodeLine → Letter
free_of None = A
free_of (Some line) = other line.letter

-- the version under which the tile of a key is put: the one that the current checkpoint does not name for it, or a
abbrev pub free_letter : Current → VoxelKey → Letter
free_letter None key = A
free_letter (Some (letter, c)) key = free_of (line_of_key c.nodes key)

-- one key stands before another
abbrev pub is_before : VoxelKey → VoxelKey → Bool
is_before a b = is_lt (key_cmp a b)

-- the lines before this one, this one, and the lines after it
abbrev pub with_line : NodeLine → List NodeLine → List NodeLine
with_line line lines =
    filter (λ l. is_before l.key line.key) lines ++ line ∷ filter (λ l. is_before line.key l.key) lines
