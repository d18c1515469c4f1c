-- The files of tiles, in either layout.
use Rattle.std.specs.Prelude.{◌≡◌, ℕ, List, Some, None}
use Rattle.std.specs.List.{AllByRecursion}
use Rattle.ept_base.specs.Files.{Files}
use Rattle.ept_point.specs.declared.point.Point.{Point}
use Rattle.ept_point.specs.declared.layout.Layout.{Layout}
use Rattle.ept_point.specs.declared.layout.Layout.TheVariants.{Old, New}
use Rattle.ept_point.specs.Packed.{tile, old_tile}
use Rattle.ept_point.specs.Layout.{FitsIn}
use Rattle.ept_ckpt.specs.Versions.{layout_of}
use Rattle.ept_save.specs.Current.{Current}

-- the file of this name is the tile of these points in a layout, which has each of their numbers
abbrev pub HasTileUnder : Layout → List ℕ → List Point → Files → Type 0
HasTileUnder Old name points files = (files name ≡ Some (old_tile points)) × AllByRecursion (FitsIn Old) points
HasTileUnder New name points files = files name ≡ Some (tile points)

-- the tiles that the current checkpoint names are of this layout
abbrev pub IsOfLayout : Layout → Current → Type 0
IsOfLayout layout None = ⊥
IsOfLayout layout (Some (letter, c)) = layout_of c.version ≡ layout
