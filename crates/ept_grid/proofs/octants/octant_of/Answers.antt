use Rattle.std.proofs.Common.{◌≡◌, ◌∙◌, ap, subst, arith, ◌-◌}
use Rattle.ept_space.specs.Place.{Place}
use Rattle.ept_space.specs.OctreeCube.{IsCube, cell_at}
use Rattle.ept_space.specs.declared.cube.Rules.{Rules}
use Rattle.ept_sample.specs.Place.{place}
use Rattle.ept_grid.proofs.OctantLaws.{octant-cell}
use Rattle.ept_grid.proofs.octants.octant_of.Goals as goal

pub returns-clause-value : goal.returns-clause-value
returns-clause-value c =
    let cube : IsCube c.args.rules.now.cube = subst (λ (r : Rules). IsCube r.cube) c.rules.view_is c.rules.invariant in
    let shift : c.from-shift.result ≡ c.args.rules.now.cube.s - 1 = c.from-shift.ensures ∙ ap (λ (r : Rules). r.cube.s - 1) c.rules.view_is in
    octant-cell c.args.rules.now.cube c.args.depth (place c.args.point.now) c.cell-cell.result c.from-shift.result c.upper.result c.upper-2.result c.upper-3.result cube.span_low (omega (arith, c.requires.low, cube.cells_whole)) shift (c.cell-cell.ensures.cell ∙ ap (λ (p : Place). cell_at c.args.rules.now.cube c.args.depth p) c.place_of.ensures) c.upper.ensures.value c.upper-2.ensures.value c.upper-3.ensures.value
