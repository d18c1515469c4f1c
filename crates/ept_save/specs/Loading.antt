-- Loading a node of the current checkpoint: what is found, and why its tile is damaged.
use Rattle.std.specs.Prelude.{◌≡◌, ◌≢◌, ◌⊎◌, ℕ, ◌*◌, List, ◌++◌, length, Option, Some, None, IsSome, IsSomeAnd, Ok, Err}
use Rattle.ept_base.specs.Files.{Files, Tells}
use Rattle.ept_point.specs.declared.point.Point.{Point}
use Rattle.ept_point.specs.declared.tile.TileError.{TileError}
use Rattle.ept_point.specs.Dimensions.{packed_width}
use Rattle.ept_point.specs.Order.{IsAscending}
use Rattle.ept_point.specs.declared.layout.Layout.{Layout}
use Rattle.ept_point.specs.Tile.{ReadsIn}
use Rattle.ept_space.specs.VoxelKey.{VoxelKey}
use Rattle.ept_space.specs.declared.cube.Rules.{Rules}
use Rattle.ept_grid.specs.declared.error.GridError.{GridError}
use Rattle.ept_grid.specs.Tile.{IsTile, IsTileFault}
use Rattle.ept_grid.specs.Node.{Node, IsNodeOf}
use Rattle.ept_ckpt.specs.declared.node_line.NodeLine.{NodeLine}
use Rattle.ept_ckpt.specs.declared.checkpoint.Checkpoint.{Checkpoint}
use Rattle.ept_ckpt.specs.Versions.{layout_of}
use Rattle.ept_ckpt.specs.Lookup.{line_of_key}
use Rattle.ept_meta.specs.Output.{rules_of}
use Rattle.ept_save.specs.Current.{Current, tile_of_line}
use Rattle.ept_save.specs.Tiles.{HasTileUnder}

-- ---- the line of a key

-- the current checkpoint's line of a key, if there is one
abbrev pub current_line : Current → VoxelKey → Option NodeLine
current_line None key = None
current_line (Some (letter, c)) key = line_of_key c.nodes key

-- the current checkpoint has a line of the key
abbrev pub HasLine : Current → VoxelKey → Type 0
HasLine current key = IsSome (current_line current key)

-- of the checkpoint and that line of it this holds
abbrev pub OfLine : Current → VoxelKey → (Checkpoint → NodeLine → Type 0) → Type 0
OfLine None key fact = ⊥
OfLine (Some (letter, c)) key fact = IsSomeAnd (line_of_key c.nodes key) (fact c)

-- ---- what is found

-- The number of points is the line's count, and their ids ascend. With the line's open octants they are those of a node of its key.
pub record AreOfLine (rules : Rules) (line : NodeLine) (points : List Point) : Type 0 where
  pub counted : length points ≡ line.count
  pub ascend : IsAscending points
  pub fits : IsTile line.key rules line.mask points

-- whatever the files are, such are the points that are found
abbrev pub AreFound : Current → VoxelKey → List Point → Type 0
AreFound current key points = OfLine current key (λ c line. AreOfLine (rules_of c.kept) line points)

-- the file that the line names is the tile of these points, in the layout of the checkpoint
abbrev pub HasTile : Current → VoxelKey → List Point → Files → Type 0
HasTile current key points files = OfLine current key (λ c line. HasTileUnder (layout_of c.version) (tile_of_line line) points files)

-- the node has the line's key and open octants, and the rules that are kept
abbrev pub IsNodeFound : Current → VoxelKey → Node → Type 0
IsNodeFound current key node = OfLine current key (λ c line. IsNodeOf key (rules_of c.kept) line.mask node.points node)

-- points are appended, and are those that were found; of files that are known they are the tile's
pub record AppendsFound (current : Current) (key : VoxelKey) (files : Option Files) (old new : List Point) : Type 0 where
  pub points : List Point
  pub appended : new ≡ old ++ points
  pub are_found : AreFound current key points
  pub has_tile : Tells (HasTile current key points) files

-- the file that the line names has these bytes
abbrev pub HasBytes : Current → VoxelKey → List ℕ → Files → Type 0
HasBytes current key bytes files = OfLine current key (λ c line. files (tile_of_line line) ≡ Some bytes)

-- their number is that of the points which the line's count takes in the new layout
abbrev pub HasLength : Current → VoxelKey → List ℕ → Type 0
HasLength current key bytes = OfLine current key (λ c line. length bytes ≡ packed_width * line.count)

-- ---- why it is damaged

-- The bytes are no tile of the layout, or one with another number of points. Or its points are those of no node with this key and these open octants.
abbrev pub IsWrong : Layout → Rules → NodeLine → List ℕ → Type 0
IsWrong layout rules line bytes =
    ((fault : TileError) × ReadsIn layout bytes (Err fault))
    ⊎ ((points : List Point) × ReadsIn layout bytes (Ok points) × (length points ≢ line.count))
    ⊎ ((points : List Point) × ReadsIn layout bytes (Ok points) × ((fault : GridError) × IsTileFault line.key rules line.mask points fault))

-- the file of this name, which is to be the tile of the line, is missing, or wrong
abbrev pub IsDamagedUnder : Layout → Rules → List ℕ → NodeLine → Files → Type 0
IsDamagedUnder layout rules name line files =
    (files name ≡ None) ⊎ ((bytes : List ℕ) × (files name ≡ Some bytes) × IsWrong layout rules line bytes)

-- the file that the line names is missing, or wrong
abbrev pub IsDamagedLine : Layout → Rules → NodeLine → Files → Type 0
IsDamagedLine layout rules line files = IsDamagedUnder layout rules (tile_of_line line) line files

-- so it is with the line of the key, by the layout and the rules of the checkpoint
abbrev pub IsDamaged : Current → VoxelKey → Files → Type 0
IsDamaged current key files = OfLine current key (λ c line. IsDamagedLine (layout_of c.version) (rules_of c.kept) line files)

-- the file of this name is missing, or has another length than the points that the line counts take in the new layout
abbrev pub IsOfOtherLengthUnder : List ℕ → NodeLine → Files → Type 0
IsOfOtherLengthUnder name line files =
    (files name ≡ None) ⊎ ((bytes : List ℕ) × (files name ≡ Some bytes) × (length bytes ≢ packed_width * line.count))

-- so it is with the file that the line of the key names
abbrev pub IsOfOtherLength : Current → VoxelKey → Files → Type 0
IsOfOtherLength current key files = OfLine current key (λ c line. IsOfOtherLengthUnder (tile_of_line line) line files)

-- no tile that the current checkpoint names is damaged
abbrev pub HasNoDamage : Current → Files → Type 0
HasNoDamage current files = (key : VoxelKey) → HasLine current key → ¬ IsDamaged current key files
