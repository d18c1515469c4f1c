-- When the files of a build are sound: what the current checkpoint states is so, for the scans on a shelf.
use Rattle.std.specs.Prelude.{◌≡◌, ℕ, List, length, take, Some, None}
use Rattle.std.specs.List.{AllZip}
use Rattle.ept_base.specs.Files.{Files}
use Rattle.ept_point.specs.declared.point.Point.{Point}
use Rattle.ept_point.specs.declared.layout.Layout.{Layout}
use Rattle.ept_point.specs.declared.layout.Layout.TheVariants.{New}
use Rattle.ept_sample.specs.Nodes.{sampled}
use Rattle.ept_sample.specs.declared.tiles.Tile.{Tile}
use Rattle.ept_scan.specs.Scans.{IsScan}
use Rattle.ept_ckpt.specs.declared.node_line.NodeLine.{NodeLine}
use Rattle.ept_ckpt.specs.declared.checkpoint.Checkpoint.{Checkpoint}
use Rattle.ept_ckpt.specs.Versions.{layout_of}
use Rattle.ept_meta.specs.Output.{File, IsOutput, IsOutsideWork, rules_of}
use Rattle.ept_save.specs.Current.{Current, HasCurrent, tile_of_line}
use Rattle.ept_save.specs.Done.{IsDone}
use Rattle.ept_save.specs.Complete.{HasAllOf, HasNoOther}
use Rattle.ept_save.specs.Tiles.{HasTileUnder}

-- ---- what a checkpoint states

-- the inputs of the checkpoint have these points, within its bounds and with its counts
abbrev pub HasPointsOf : Files → Checkpoint → List Point → Type 0
HasPointsOf shelf c points =
    IsScan shelf c.kept.scale (Some c.kept.bounds) c.kept.inputs 0 points (record { counts = c.counts; bounds = c.kept.bounds })

-- the line is of this node, and its file by a rule of names is the node's tile in a layout. The mask follows from the keys of all lines.
pub record IsSavedUnder (layout : Layout) (name_of : NodeLine → List ℕ) (files : Files) (node : Tile) (line : NodeLine) : Type 0 where
  pub key : line.key ≡ node.key
  pub count : line.count ≡ length node.points
  pub has_tile : HasTileUnder layout (name_of line) node.points files

-- it is so by the names of a checkpoint's tiles
abbrev pub IsSavedAs : Layout → Files → Tile → NodeLine → Type 0
IsSavedAs layout files node line = IsSavedUnder layout tile_of_line files node line

-- the inputs have these points, and the nodes are the sampling of those that are inserted, with their tiles in the layout of the checkpoint
pub record IsSaved (shelf files : Files) (c : Checkpoint) (points : List Point) : Type 0 where
  pub scan : HasPointsOf shelf c points
  pub nodes : AllZip (IsSavedAs (layout_of c.version) files) (sampled (rules_of c.kept) (take c.inserted points)) c.nodes

-- all points are inserted, their nodes are in tiles of the newest layout, and their output is all there
pub record IsWhole (c : Checkpoint) (points : List Point) (output : List File) (files : Files) : Type 0 where
  pub inserted : c.inserted ≡ length points
  pub newest : layout_of c.version ≡ New
  pub there : HasAllOf output files

-- outside a build's own folders there are only files of the output of these points, and all of them where the done gate is open
pub record HasAtMost (c : Checkpoint) (points : List Point) (files : Files) : Type 0 where
  pub output : List File
  pub is_output : IsOutput c.kept points output
  pub no_other : HasNoOther output files
  pub whole : IsDone files → IsWhole c points output files

-- ---- sound files

-- what the current checkpoint states is so; if there is none, nothing is done
abbrev pub IsSoundFor : Files → Files → Current → Type 0
IsSoundFor shelf files None = ¬ IsDone files × ((name : List ℕ) → IsOutsideWork name → files name ≡ None)
IsSoundFor shelf files (Some (letter, c)) = (points : List Point) × IsSaved shelf files c points × HasAtMost c points files

-- the files are sound for the scans on the shelf
pub record IsSound (shelf files : Files) : Type 0 where
  pub current : Current
  pub has_current : HasCurrent current files
  pub sound : IsSoundFor shelf files current
