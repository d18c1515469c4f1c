use Rattle.ept_space.proofs.Intervals.{interval-code}
use Rattle.ept_space.proofs.box3.Interval.of.Goals as goal

pub returns : goal.returns
returns c = λ at.
    interval-code c.args.corner at c.from.result c.args.index c.args.shift c.requires.corner_in_range c.requires.short c.from.ensures c.requires.near
