-- A part depends on its own names.
use Rattle.std.proofs.Common.{◌≡◌, ◌≢◌, ◌∙◌, ℕ, List, [], ◌∷◌, sym}
use Rattle.std.specs.List.{AllZip}
use Rattle.ept_base.specs.Files.{Files}
use Rattle.ept_point.specs.declared.point.Point.{Point}
use Rattle.ept_point.specs.declared.layout.Layout.TheVariants.{New}
use Rattle.ept_sample.specs.declared.tiles.Tile.{Tile}
use Rattle.ept_ckpt.specs.declared.node_line.NodeLine.{NodeLine}
use Rattle.ept_ckpt.specs.declared.checkpoint.Checkpoint.{Checkpoint}
use Rattle.ept_meta.specs.Output.{rules_of}
use Rattle.ept_grid.specs.Mask.{opened}
use Rattle.ept_save.specs.Sound.{IsSavedUnder}
use Rattle.ept_parts.specs.MergeLaws.{part_nodes}
use Rattle.ept_part.specs.Names.{part_gate, part_body, part_tile_of, IsPartName}
use Rattle.ept_part.specs.Files.{HasPart, IsPartSound}
use Rattle.ept_part.proofs.PartNames.{gate-named, body-named, tile-named, body-gate, tile-gate}

-- each name of the part but its gate reads as before
abbrev pub SameFilling : ℕ → Files → Files → Type 0
SameFilling octants old new = (name : List ℕ) → IsPartName octants name → name ≢ part_gate octants → new name ≡ old name

tiles-same : (octants : ℕ) (old new : Files) (tiles : List Tile) (lines : List NodeLine) → SameFilling octants old new → AllZip (IsSavedUnder New (part_tile_of octants) old) tiles lines → AllZip (IsSavedUnder New (part_tile_of octants) new) tiles lines
tiles-same octants old new [] [] same all = tt
tiles-same octants old new [] (l ∷ ls) same all = absurd all
tiles-same octants old new (t ∷ ts) [] same all = absurd all
tiles-same octants old new (t ∷ ts) (l ∷ ls) same all = (
  record { key = all.0.key; count = all.0.count; has_tile = same (part_tile_of octants l) (tile-named octants l.key) (tile-gate octants l.key) ∙ all.0.has_tile },
  tiles-same octants old new ts ls same all.1,
)

pub part-same : (shelf old new : Files) (octants : ℕ) (c : Checkpoint) (points : List Point) → SameFilling octants old new → HasPart shelf old octants c points → HasPart shelf new octants c points
part-same shelf old new octants c points same has = record {
  body = same (part_body octants) (body-named octants) (body-gate octants) ∙ has.body;
  newest = has.newest;
  first = has.first;
  scan = has.scan;
  inserted = has.inserted;
  nodes = tiles-same octants old new (part_nodes (rules_of c.kept) (opened octants) points) c.nodes same has.nodes;
  letters = has.letters;
}

pub own-names : (shelf old new : Files) (octants : ℕ) → ((name : List ℕ) → IsPartName octants name → new name ≡ old name) → IsPartSound shelf old octants → IsPartSound shelf new octants
own-names shelf old new octants same sound is_it =
    let it = sound (sym (same (part_gate octants) (gate-named octants)) ∙ is_it) in
    (it.0, it.1, part-same shelf old new octants it.0 it.1 (λ name part no_gate. same name part) it.2)
