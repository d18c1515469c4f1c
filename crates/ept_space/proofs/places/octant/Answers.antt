use Rattle.std.proofs.Common.{ap, subst, arith}
use Rattle.ept_space.specs.VoxelKey.{IsKey}
use Rattle.ept_space.proofs.PlaceKeys.{InCube-box}
use Rattle.ept_space.proofs.Shifts.{octant-code}
use Rattle.ept_space.proofs.places.octant.Goals as goal

pub from_corner-above-requires : goal.from_corner-above-requires
from_corner-above-requires c =
    let seen = c.cube.view_is in
    InCube-box c.args.cube.now c.args.key.now c.args.place (subst IsKey c.key.view_is c.key.invariant) (omega (arith, ap (λ v. v.e) seen, ap (λ v. v.depth) seen)) c.requires.in_box

pub returns-clause-value : goal.returns-clause-value
returns-clause-value c =
    let seen = c.cube.view_is in
    octant-code c.args.cube.now c.args.key.now.depth c.args.place _ _ _ _ c.from_corner-above.ensures.along_x c.from_corner-above.ensures.along_y c.from_corner-above.ensures.along_z (omega (arith, c.from-shift.ensures, ap (λ v. v.e) seen, ap (λ v. v.depth) c.key.view_is))
