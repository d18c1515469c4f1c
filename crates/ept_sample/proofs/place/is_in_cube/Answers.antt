use Rattle.ept_space.specs.ClosedBox.{IsIn}
use Rattle.ept_sample.specs.Place.{place}
use Rattle.ept_sample.proofs.SamplingLaws.{in_cube_test}
use Rattle.ept_sample.proofs.place.is_in_cube.Goals as goal

pub returns : goal.returns
returns c =
    in_cube_test c.args.cube.now (place c.args.point.now) c.place_of.result c.contains.result (IsIn c.node_box.result) c.place_of.ensures c.contains.ensures.inside c.node_box.ensures.places
