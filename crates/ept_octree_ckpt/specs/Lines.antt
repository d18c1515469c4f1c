-- The nodes of an octree, and the lines of a checkpoint that describe them.
use Rattle.std.specs.Prelude.{◌≡◌, List, length}
use Rattle.std.specs.List.{AllZip}
use Rattle.ept_base.specs.Files.{Files}
use Rattle.ept_point.specs.declared.layout.Layout.{Layout}
use Rattle.ept_ckpt.specs.declared.node_line.NodeLine.{NodeLine}
use Rattle.ept_save.specs.Current.{tile_of_line}
use Rattle.ept_save.specs.Tiles.{HasTileUnder}
use Rattle.ept_table.specs.Octree.{Branch}

-- a line describes a node: its key, its open octants, and how many points it has
pub record TellsNode (b : Branch) (line : NodeLine) : Type 0 where
  pub key : line.key ≡ b.0
  pub mask : line.mask ≡ b.1.mask
  pub count : line.count ≡ length b.1.points

-- the lines describe the nodes, one line for each
abbrev pub TellNodes : List Branch → List NodeLine → Type 0
TellNodes nodes lines = AllZip TellsNode nodes lines

-- the file that a line names is the tile of a node, in a layout
abbrev pub NamesTile : Layout → Files → Branch → NodeLine → Type 0
NamesTile layout files b line = HasTileUnder layout (tile_of_line line) b.1.points files

-- each line names the tile of its node
abbrev pub NameTiles : Layout → Files → List Branch → List NodeLine → Type 0
NameTiles layout files nodes lines = AllZip (NamesTile layout files) nodes lines
