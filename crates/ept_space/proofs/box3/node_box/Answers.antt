use Rattle.std.proofs.Common.{ap, rules, arith}
use Rattle.ept_space.proofs.Intervals.{near-code, read-interval, node_box-code}
use Rattle.ept_space.proofs.box3.node_box.Goals as goal

pub of-x-requires-clause-near : goal.of-x-requires-clause-near
of-x-requires-clause-near c =
    let cube = c.cube.view_is in
    let key = c.key.view_is in
    near-code _ c.key.inside.depth c.cube.inside.e _ c.key.invariant.x_in c.from-shift.ensures (omega (arith, ap (λ v. v.depth) cube, ap (λ v. v.depth) key)) c.cube.invariant.side_high

pub of-y-requires-clause-near : goal.of-y-requires-clause-near
of-y-requires-clause-near c =
    let cube = c.cube.view_is in
    let key = c.key.view_is in
    near-code _ c.key.inside.depth c.cube.inside.e _ c.key.invariant.y_in c.from-shift.ensures (omega (arith, ap (λ v. v.depth) cube, ap (λ v. v.depth) key)) c.cube.invariant.side_high

pub of-z-requires-clause-near : goal.of-z-requires-clause-near
of-z-requires-clause-near c =
    let cube = c.cube.view_is in
    let key = c.key.view_is in
    near-code _ c.key.inside.depth c.cube.inside.e _ c.key.invariant.z_in c.from-shift.ensures (omega (arith, ap (λ v. v.depth) cube, ap (λ v. v.depth) key)) c.cube.invariant.side_high

pub returns : goal.returns
returns c =
    record { places = node_box-code _ _ _ _ _ c.from-shift.result c.cube.view_is c.key.view_is c.from-shift.ensures (read-interval c.of-x.result.least c.of-x.result.greatest _ _ _ (search rules) (search rules) c.cube.invariant.corner_x c.of-x.ensures) (read-interval c.of-y.result.least c.of-y.result.greatest _ _ _ (search rules) (search rules) c.cube.invariant.corner_y c.of-y.ensures) (read-interval c.of-z.result.least c.of-z.result.greatest _ _ _ (search rules) (search rules) c.cube.invariant.corner_z c.of-z.ensures) }
