use Rattle.std.proofs.Common.{◌∙◌, ap}
use Rattle.ept_space.specs.Place.{Place}
use Rattle.ept_space.specs.OctreeCube.{cell_at}
use Rattle.ept_grid.proofs.Spots.{spot-code}
use Rattle.ept_grid.proofs.spot.spot_of.Goals as goal

pub returns-clause-spot : goal.returns-clause-spot
returns-clause-spot c =
    spot-code c.args.rules.now c.args.depth c.args.point.now c.cell-cell.result c.column_of.result (c.cell-cell.ensures.cell ∙ ap (λ (p : Place). cell_at c.args.rules.now.cube c.args.depth p) c.place_of.ensures) c.column_of.ensures.value
