use Rattle.std.proofs.Common.{◌∙◌, ap}
use Rattle.ept_space.specs.Place.{Place}
use Rattle.ept_space.specs.OctreeCube.{cell_at}
use Rattle.ept_grid.proofs.Spots.{level-code}
use Rattle.ept_grid.proofs.spot.level_of.Goals as goal

pub returns : goal.returns
returns c =
    level-code c.args.rules.now c.args.depth c.args.point.now c.cell.result (c.cell.ensures.cell ∙ ap (λ (p : Place). cell_at c.args.rules.now.cube c.args.depth p) c.place_of.ensures)
