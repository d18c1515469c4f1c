use Rattle.std.proofs.Common.{◌∙◌, ◌^◌, pos, ℕ, ap}
use Rattle.ept_space.specs.OctreeCube.{OctreeCube}
use Rattle.ept_meta.specs.Units.{far_corner}
use Rattle.ept_meta.proofs.Near.{far_corner_is}
use Rattle.ept_meta.proofs.units.far_corner.Goals as goal

pub returns-clause-corner : goal.returns-clause-corner
returns-clause-corner c =
    let cube : OctreeCube = record { corner = c.cube.inside.corner; e = c.cube.inside.e; s = c.cube.inside.s; depth = c.cube.inside.depth } in
    far_corner_is cube c.cube.invariant c.pow-side.result (c.pow-side.ensures ∙ ap (λ (k : ℕ). pos (2 ^ k)) c.from.ensures) ∙ ap far_corner c.cube.view_is
