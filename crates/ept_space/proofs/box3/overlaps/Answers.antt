use Rattle.std.proofs.Common.{rules}
use Rattle.ept_space.proofs.Intervals.{overlap-code}
use Rattle.ept_space.proofs.box3.overlaps.Goals as goal

pub returns : goal.returns
returns c =
    overlap-code c.args.a_min c.args.a_max c.args.b_min c.args.b_max c.max.result c.min.result c.ranges.a_min c.ranges.a_max c.ranges.b_min c.ranges.b_max (search rules) (search rules) c.max.ensures.value c.min.ensures.value
