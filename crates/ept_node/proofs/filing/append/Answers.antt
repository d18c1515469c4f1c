use Rattle.std.proofs.Common.{refl}
use Rattle.ept_node.proofs.filing.append.Goals as goal

pub returns-clause-appended : goal.returns-clause-appended
returns-clause-appended c = record {
  added = c.args.grid.now.points;
  grows = c.in_ok-points_into.ensures.ok;
  count = refl;
  in_order = c.in_ok-points_into.ensures.in_order;
  inside = c.known.ensures.inside;
}
