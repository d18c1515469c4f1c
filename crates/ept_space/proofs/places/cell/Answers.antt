use Rattle.std.proofs.Common.{ap, arith}
use Rattle.ept_space.proofs.Shifts.{cell-code}
use Rattle.ept_space.proofs.places.cell.Goals as goal

pub returns : goal.returns
returns c =
    let seen = c.cube.view_is in
    record { cell = cell-code c.args.cube.now c.args.depth c.args.place _ _ _ _ c.from_corner-above.ensures.along_x c.from_corner-above.ensures.along_y c.from_corner-above.ensures.along_z (omega (arith, ap (λ v. v.e) seen, ap (λ v. v.s) seen)) }
