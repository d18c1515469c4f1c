-- The lines of the current checkpoint, as nodes of the output.
use Rattle.std.specs.Prelude.{ℕ, List, [], ◌∷◌, ◌++◌, map}
use Rattle.std.specs.List.{AllZip}
use Rattle.ept_base.specs.Files.{Files}
use Rattle.ept_point.specs.declared.layout.Layout.TheVariants.{New}
use Rattle.ept_sample.specs.declared.tiles.Tile.{Tile}
use Rattle.ept_config.specs.declared.kept.Kept.{Kept}
use Rattle.ept_ckpt.specs.declared.node_line.NodeLine.{NodeLine}
use Rattle.ept_hier.specs.Hierarchy.{Node, hierarchy}
use Rattle.ept_meta.specs.Output.{tile_name, hierarchy_file, metadata_name, manifest_name, build_file_name, names_of}
use Rattle.ept_save.specs.Current.{Current}
use Rattle.ept_save.specs.Opening.{lines_of}
use Rattle.ept_save.specs.Sound.{IsSavedAs}

-- the node that a line counts
abbrev pub counted_by : NodeLine → Node
counted_by line = (line.key, line.count)

-- the name of its tile in the output
abbrev pub named_by : NodeLine → List ℕ
named_by line = tile_name line.key

-- The names of the output's files: of each tile, of the hierarchy, and of three texts. They follow from what is kept and
-- from the lines.
abbrev pub output_names : Kept → List NodeLine → List (List ℕ)
output_names kept lines =
    map named_by lines ++ names_of (map hierarchy_file (hierarchy kept.step (map counted_by lines)))
    ++ metadata_name ∷ manifest_name ∷ build_file_name ∷ []

-- The current checkpoint's lines name these tiles, in the new layout. Each line has the key and the number of points of
-- a tile, and the file that it names is that tile.
abbrev pub NamesTiles : Files → Current → List Tile → Type 0
NamesTiles files current tiles = AllZip (IsSavedAs New files) tiles (lines_of current)
