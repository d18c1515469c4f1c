use Rattle.ept_node.proofs.Filings.{unfit-first}
use Rattle.ept_node.proofs.filing.points_in_box.Goals as goal

pub returns-in-Some-clause-wrong : goal.returns-in-Some-clause-wrong
returns-in-Some-clause-wrong c =
    let has = c.in_ok-points.ensures.points in
    unfit-first c.args.filed.now c.args.bytes.items c.requires c.tile_length_law.ensures.length c.in_ok-points.points.items (has.bytes_are, has.ascend) c.damaged_at.result c.as_slice.result.now c.in-Some.at c.as_slice.ensures.value c.in-Some.ensures c.damaged_at.ensures
