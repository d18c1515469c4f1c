use Rattle.std.proofs.Common.{FitsSigned, ap, rules, w32}
use Rattle.ept_space.specs.Place.{coordinate}
use Rattle.ept_space.specs.OctreeCube.{InCube}
use Rattle.ept_space.proofs.Shifts.{cast-code}
use Rattle.ept_space.proofs.places.from_corner.Goals as goal

pub overflow_cast-result : goal.overflow_cast-result
unfolding InCube
overflow_cast-result c =
    let fits : FitsSigned w32 (coordinate c.args.place 0) = search rules in
    cast-code _ _ _ c.cube.invariant.corner_x fits c.from.ensures (rw (ap (λ v. coordinate v.corner 0) c.cube.view_is) c.requires.x.0)

pub overflow_cast-result-2 : goal.overflow_cast-result-2
unfolding InCube
overflow_cast-result-2 c =
    let fits : FitsSigned w32 (coordinate c.args.place 1) = search rules in
    cast-code _ _ _ c.cube.invariant.corner_y fits c.from-2.ensures (rw (ap (λ v. coordinate v.corner 1) c.cube.view_is) c.requires.y.0)

pub overflow_cast-result-3 : goal.overflow_cast-result-3
unfolding InCube
overflow_cast-result-3 c =
    let fits : FitsSigned w32 (coordinate c.args.place 2) = search rules in
    cast-code _ _ _ c.cube.invariant.corner_z fits c.from-3.ensures (rw (ap (λ v. coordinate v.corner 2) c.cube.view_is) c.requires.z.0)
