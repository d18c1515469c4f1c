-- The set for the facts of a ghost field.
use Rattle.std.proofs.Props as below
use Rattle.ept_space.specs.VoxelKey.{VoxelKey}
use Rattle.ept_space.specs.Place.{Place}
use Rattle.ept_space.specs.OctreeCube.{OctreeCube, InBox}

pub InBox-prop : (cube : OctreeCube) (key : VoxelKey) (place : Place) → IsProp (InBox cube key place)
unfolding InBox
InBox-prop cube key place = Prim.hlevel below.props

pub ruleset props = (below.props, InBox-prop)
