-- Folders of before: what a build left that packed points in the old layout. As long as the done gate of now is not there, such a folder is sound.
use Rattle.std.specs.Prelude.{◌≡◌, ℕ, List, length, take, codes, Some, None, IsSome, All}
use Rattle.std.specs.List.{AllZip}
use Rattle.ept_base.specs.Files.{Files}
use Rattle.ept_point.specs.declared.point.Point.{Point}
use Rattle.ept_point.specs.Packed.{old_tile}
use Rattle.ept_sample.specs.Nodes.{sampled}
use Rattle.ept_sample.specs.declared.tiles.Tile.{Tile}
use Rattle.ept_ckpt.specs.declared.node_line.NodeLine.{NodeLine}
use Rattle.ept_ckpt.specs.declared.checkpoint.Checkpoint.{Checkpoint}
use Rattle.ept_ckpt.specs.declared.version.BodyVersion.TheVariants.{V1}
use Rattle.ept_meta.specs.Output.{File, IsOutput, IsOutsideWork, rules_of, names_of}
use Rattle.ept_save.specs.Names.{done_name}
use Rattle.ept_save.specs.Gates.{IsOpen}
use Rattle.ept_save.specs.Current.{Current, HasCurrent, tile_of_line}
use Rattle.ept_save.specs.Complete.{HasNoOther}
use Rattle.ept_save.specs.Sound.{HasPointsOf, IsSound}

-- the done gate of before, which is neither read nor written any more
abbrev pub done_name_before : List ℕ
done_name_before = codes "ept-work/done"

abbrev pub WasDone : Files → Type 0
WasDone files = IsOpen files done_name_before

-- the line is of this node, and its file is the node's tile in the old layout
pub record WasSavedAs (files : Files) (node : Tile) (line : NodeLine) : Type 0 where
  pub key : line.key ≡ node.key
  pub count : line.count ≡ length node.points
  pub has_tile : files (tile_of_line line) ≡ Some (old_tile node.points)

-- the body has version 1; the inputs have these points, and the nodes are the sampling of those that are inserted, with their tiles
pub record WasSaved (shelf files : Files) (c : Checkpoint) (points : List Point) : Type 0 where
  pub version : c.version ≡ V1
  pub scan : HasPointsOf shelf c points
  pub nodes : AllZip (WasSavedAs files) (sampled (rules_of c.kept) (take c.inserted points)) c.nodes

-- all points are inserted, and each name of their output is there
pub record WasWhole (c : Checkpoint) (points : List Point) (output : List File) (files : Files) : Type 0 where
  pub inserted : c.inserted ≡ length points
  pub there : All (λ name. IsSome (files name)) (names_of output)

-- outside a build's own folders there are only names of the output of these points; all of them, if the gate of before is open
pub record HadAtMost (c : Checkpoint) (points : List Point) (files : Files) : Type 0 where
  pub output : List File
  pub is_output : IsOutput c.kept points output
  pub no_other : HasNoOther output files
  pub whole : WasDone files → WasWhole c points output files

-- what the current checkpoint says is so; without one, nothing was done
abbrev pub WasSoundFor : Files → Files → Current → Type 0
WasSoundFor shelf files None = ¬ WasDone files × ((name : List ℕ) → IsOutsideWork name → files name ≡ None)
WasSoundFor shelf files (Some (letter, c)) = (points : List Point) × WasSaved shelf files c points × HadAtMost c points files

-- the files were sound for the scans on the shelf
pub record WasSound (shelf files : Files) : Type 0 where
  pub current : Current
  pub has_current : HasCurrent current files
  pub sound : WasSoundFor shelf files current

-- a folder of before is sound, as long as the done gate of now is not there
abbrev pub BeforeIsSound : Type 0
BeforeIsSound = (shelf files : Files) → WasSound shelf files → files done_name ≡ None → IsSound shelf files
