use Rattle.std.proofs.Common.{sym, subst}
use Rattle.ept_space.specs.Place.{Place}
use Rattle.ept_space.specs.VoxelKey.{root}
use Rattle.ept_space.specs.OctreeCube.{InBox}
use Rattle.ept_space.proofs.PlaceKeys.{InBox-root}
use Rattle.ept_sample.specs.Place.{place}
use Rattle.ept_part.proofs.sampling.is_of_part.Goals as goal

pub octant-requires-clause-in_box : goal.octant-requires-clause-in_box
octant-requires-clause-in_box c =
    let cube = c.args.rules.now.cube in
    subst (λ (at : Place). InBox cube root at) (sym c.place_of.ensures) (InBox-root cube (place c.args.point.now) c.requires.inside)
