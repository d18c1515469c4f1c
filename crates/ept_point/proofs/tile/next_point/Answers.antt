use Rattle.std.proofs.Common.{refl}
use Rattle.ept_point.proofs.TileLaws.{not_after}
use Rattle.ept_point.proofs.tile.next_point.Goals as goal

pub returns-then-not-is_before-clause-fault : goal.returns-then-not-is_before-clause-fault
returns-then-not-is_before-clause-fault c =
    (refl, (c.in-Some.point, c.in-Some.ensures.point, not_after c.args.last c.in-Some-last.last c.id.result c.in-Some.point c.is_before.result c.in-Some-last.is c.id.ensures c.if-not-is_before.true c.is_before.ensures.1))
