use Rattle.ept_space.proofs.Shifts.{child-code}
use Rattle.ept_space.proofs.key.child.Goals as goal

pub returns : goal.returns
returns c =
    record { key = child-code _ _ c.args.octant _ _ _ c.key.view_is c.from.ensures c.from-2.ensures c.from-3.ensures }
