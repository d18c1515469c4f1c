-- When a part in files is sound: what its body states is so, for the scans on a shelf.
use Rattle.std.specs.Prelude.{◌≡◌, ℕ, List, length, Some, All}
use Rattle.std.specs.List.{AllZip}
use Rattle.ept_base.specs.Files.{Files}
use Rattle.ept_point.specs.declared.point.Point.{Point}
use Rattle.ept_point.specs.declared.layout.Layout.TheVariants.{New}
use Rattle.ept_grid.specs.Mask.{opened}
use Rattle.ept_ckpt.specs.declared.letter.Letter.TheVariants.{A}
use Rattle.ept_ckpt.specs.declared.node_line.NodeLine.{NodeLine}
use Rattle.ept_ckpt.specs.declared.checkpoint.Checkpoint.{Checkpoint}
use Rattle.ept_ckpt.specs.declared.version.BodyVersion.TheVariants.{V3}
use Rattle.ept_ckpt.specs.Body.{body}
use Rattle.ept_ckpt.specs.Facts.{facts}
use Rattle.ept_meta.specs.Output.{rules_of}
use Rattle.ept_save.specs.Gates.{IsOpen}
use Rattle.ept_save.specs.Sound.{HasPointsOf, IsSavedUnder}
use Rattle.ept_parts.specs.Parts.{part_of}
use Rattle.ept_parts.specs.MergeLaws.{part_nodes}
use Rattle.ept_part.specs.Names.{part_gate, part_body, part_tile_of, IsPartName}

-- The body is that of this checkpoint, as builds write it, of the inputs with these points. Inserted are the points of the part, the lines
-- are those of the nodes of their sampling, and the tiles are next to the body.
pub record HasPart (shelf files : Files) (octants : ℕ) (c : Checkpoint) (points : List Point) : Type 0 where
  pub body : files (part_body octants) ≡ Some (body (facts c))
  pub newest : c.version ≡ V3
  pub first : c.generation ≡ 1
  pub scan : HasPointsOf shelf c points
  pub inserted : c.inserted ≡ length (part_of (rules_of c.kept) (opened octants) points)
  pub nodes : AllZip (IsSavedUnder New (part_tile_of octants) files) (part_nodes (rules_of c.kept) (opened octants) points) c.nodes
  pub letters : All (λ (line : NodeLine). line.letter ≡ A) c.nodes

-- the part is sound: it is there if its gate is open
abbrev pub IsPartSound : Files → Files → ℕ → Type 0
IsPartSound shelf files octants = IsOpen files (part_gate octants) → (c : Checkpoint) × (points : List Point) × HasPart shelf files octants c points

-- no name but those of the part changes
abbrev pub ChangesPart : ℕ → Files → Files → Type 0
ChangesPart octants old new = (name : List ℕ) → ¬ IsPartName octants name → new name ≡ old name
