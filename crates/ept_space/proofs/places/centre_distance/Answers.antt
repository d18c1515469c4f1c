use Rattle.std.proofs.Common.{ap, arith}
use Rattle.ept_space.proofs.Shifts.{distance-code}
use Rattle.ept_space.proofs.places.centre_distance.Goals as goal

pub returns : goal.returns
returns c =
    let seen = c.cube.view_is in
    let above = c.from_corner-above.ensures in
    record { distance = distance-code c.args.cube.now c.args.depth c.args.place _ _ _ _ c.requires.in_cube above.along_x above.along_y above.along_z (omega (arith, c.from-shift.ensures, ap (λ v. v.e) seen, ap (λ v. v.s) seen)) _ _ _ c.off_centre_squared.ensures.value c.off_centre_squared-2.ensures.value c.off_centre_squared-3.ensures.value }
