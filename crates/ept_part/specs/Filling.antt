-- A part is put: its tiles and its body while its gate is shut, and then the gate is opened.
use Rattle.std.specs.Prelude.{◌≡◌, ◌≢◌, ℕ, List, [], ◌∷◌, ◌++◌, length, map, All}
use Rattle.ept_base.specs.Files.{Files}
use Rattle.ept_point.specs.Packed.{tile}
use Rattle.ept_space.specs.VoxelKey.{IsKey, AreAscending}
use Rattle.ept_ckpt.specs.declared.letter.Letter.TheVariants.{A}
use Rattle.ept_ckpt.specs.declared.node_line.NodeLine.{NodeLine}
use Rattle.ept_ckpt.specs.declared.checkpoint.Checkpoint.{Checkpoint}
use Rattle.ept_ckpt.specs.Body.{body}
use Rattle.ept_ckpt.specs.Facts.{facts}
use Rattle.ept_meta.specs.Output.{File}
use Rattle.ept_table.specs.Octree.{Branch, key_of}
use Rattle.ept_part.specs.Names.{part_gate, part_body, part_tile, IsPartName}

-- the line of a node, with its tile under the letter a
abbrev pub line_for : Branch → NodeLine
line_for b = record { key = b.0; count = length b.1.points; mask = b.1.mask; letter = A }

-- the keys ascend, and are those of nodes
pub record HaveKeys (nodes : List Branch) : Type 0 where
  pub ascend : AreAscending (map key_of nodes)
  pub are_keys : All (λ (b : Branch). IsKey b.0) nodes

-- the tile of a node, as a file of the part
abbrev pub tile_file : ℕ → Branch → File
tile_file octants b = (part_tile octants b.0, tile b.1.points)

-- the body of a checkpoint, as a file of the part
abbrev pub body_file : ℕ → Checkpoint → File
body_file octants c = (part_body octants, body (facts c))

-- the files of a part but its gate
abbrev pub filling : ℕ → List Branch → Checkpoint → List File
filling octants nodes c = map (tile_file octants) nodes ++ body_file octants c ∷ []

-- no name but those of the part changes, and not its gate
abbrev pub Fills : ℕ → Files → Files → Type 0
Fills octants old new = (name : List ℕ) → ¬ ((name ≢ part_gate octants) × IsPartName octants name) → new name ≡ old name
