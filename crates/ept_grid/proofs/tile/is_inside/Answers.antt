use Rattle.ept_space.specs.ClosedBox.{IsIn}
use Rattle.ept_sample.specs.Place.{place}
use Rattle.ept_grid.proofs.Boxes.{in-box-test}
use Rattle.ept_grid.proofs.tile.is_inside.Goals as goal

pub returns : goal.returns
returns c =
    in-box-test c.args.rules.now.cube c.args.key.now (place c.args.point.now) c.place_of.result c.contains.result (IsIn c.node_box.result) c.place_of.ensures c.contains.ensures.inside c.node_box.ensures.places
