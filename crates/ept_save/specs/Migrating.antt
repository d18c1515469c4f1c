-- Taking over a checkpoint of the old layout: the same points, in tiles of the new one.
use Rattle.std.specs.Prelude.{◌≡◌, ◌⊎◌, ℕ, ◌+◌, false, List, map, Some}
use Rattle.std.specs.List.{AllByRecursion}
use Rattle.ept_base.specs.Files.{Files}
use Rattle.ept_point.specs.declared.point.Point.{Point}
use Rattle.ept_point.specs.declared.layout.Layout.TheVariants.{Old, New}
use Rattle.ept_ckpt.specs.declared.letter.Letter.{Letter}
use Rattle.ept_ckpt.specs.declared.node_line.NodeLine.{NodeLine}
use Rattle.ept_ckpt.specs.declared.checkpoint.Checkpoint.{Checkpoint}
use Rattle.ept_ckpt.specs.declared.version.BodyVersion.TheVariants.{V3}
use Rattle.ept_save.specs.Names.{other, IsSavedName}
use Rattle.ept_save.specs.Current.{IsCurrent, Keeps, tile_of_line}
use Rattle.ept_save.specs.Tiles.{HasTileUnder}
use Rattle.ept_save.specs.View.{View}

-- the line, with its tile under the other version
abbrev pub turned : NodeLine → NodeLine
turned line = record line { letter = other line.letter }

-- the next checkpoint is of the same points, in tiles of the newest version under the other versions
pub record IsTurnOf (c next : Checkpoint) : Type 0 where
  pub version : next.version ≡ V3
  pub generation : next.generation ≡ c.generation + 1
  pub kept_is : next.kept ≡ c.kept
  pub counts_are : next.counts ≡ c.counts
  pub inserted_is : next.inserted ≡ c.inserted
  pub turned_are : next.nodes ≡ map turned c.nodes

-- the points that the file of the line has at the start, in the old layout, are in the new one under its other version
pub record IsPutAgain (start now : Files) (line : NodeLine) : Type 0 where
  pub points : List Point
  pub was : HasTileUnder Old (tile_of_line line) points start
  pub put : HasTileUnder New (tile_of_line (turned line)) points now

-- the tiles of these lines are put again
abbrev pub ArePutAgain : Files → Files → List NodeLine → Type 0
ArePutAgain start now lines = AllByRecursion (IsPutAgain start now) lines

-- The current checkpoint is kept with its tiles, or the next one is the current one, and the tiles of the start are put again. What is no checkpoint's stays.
pub record Migrates (letter : Letter) (c next : Checkpoint) (start old new : Files) : Type 0 where
  pub either : Keeps (Some (letter, c)) old new ⊎ (IsCurrent new (other letter) next × ArePutAgain start new c.nodes)
  pub apart : (name : List ℕ) → ¬ IsSavedName name → new name ≡ old name

-- the next checkpoint is noted as the current one, with its lines for the one after it
pub record HasMigrated (old new : View) : Type 0 where
  pub letter : Letter
  pub c : Checkpoint
  pub was : old.current ≡ Some (letter, c)
  pub next : Checkpoint
  pub turns : IsTurnOf c next
  pub view_is : new ≡ record { current = Some (other letter, next); lines = next.nodes; begun = false }
