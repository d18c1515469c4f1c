use Rattle.std.proofs.Common.{◌<◌, ◌*◌, ◌^◌, sym, ap, subst}
use Rattle.ept_grid.proofs.Spots.{column-low, column-code}
use Rattle.ept_grid.proofs.spot.column_of.Goals as goal

pub returns-clause-value : goal.returns-clause-value
returns-clause-value c =
    column-code c.args.cube.now c.args.x c.args.y c.cube.inside.s (ap (λ v. v.s) c.cube.view_is) c.cube.invariant.span_high

pub returns-clause-low : goal.returns-clause-low
returns-clause-low c =
    let is = returns-clause-value c in
    subst (λ n. n < 2 ^ (2 * c.args.cube.now.s)) (sym is) (column-low c.args.cube.now c.args.x c.args.y)
