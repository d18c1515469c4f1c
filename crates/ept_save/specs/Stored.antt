-- How a `Saved` keeps its lines.
use Rattle.ept_space.specs.VoxelKey.{VoxelKey}
use Rattle.ept_ckpt.specs.declared.node_line.NodeLine.{NodeLine}
use Rattle.ept_save.specs.declared.saved.Line.{Line}

-- what is kept under a key, as a line
abbrev pub line_of : VoxelKey × Line → NodeLine
line_of entry = record { key = entry.0; count = entry.1.count; mask = entry.1.mask; letter = entry.1.letter }
