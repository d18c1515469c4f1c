-- The line of a key.
use Rattle.std.specs.Prelude.{List, Option, find}
use Rattle.ept_space.specs.VoxelKey.{VoxelKey, same_key}
use Rattle.ept_ckpt.specs.declared.node_line.NodeLine.{NodeLine}

-- the line of a key, if there is one
abbrev pub line_of_key : List NodeLine → VoxelKey → Option NodeLine
line_of_key lines key = find (λ line. same_key line.key key) lines
