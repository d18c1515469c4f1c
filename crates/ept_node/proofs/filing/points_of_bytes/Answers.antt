use Rattle.std.proofs.Common.{◌∙◌, List, ◌++◌, sym, ap}
use Rattle.ept_point.specs.declared.point.Point.{Point}
use Rattle.ept_node.proofs.Filings.{tile-read-in}
use Rattle.ept_node.proofs.filing.points_of_bytes.Goals as goal

pub returns-in-Ok-clause-points : goal.returns-in-Ok-clause-points
returns-in-Ok-clause-points c =
    let read = c.in-Ok.ensures.ok in
    tile-read-in c.args.filed.now c.args.bytes.items c.requires c.tile_length_law.ensures.length read.0 (sym c.as_slice.ensures.value ∙ read.1.0, read.1.1) c.read_tile.new.out.items (read.2 ∙ ap (λ (w : List Point). w ++ read.0) c.new-points.ensures.items)
