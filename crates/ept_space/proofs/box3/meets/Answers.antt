use Rattle.std.proofs.Common.{rules}
use Rattle.ept_space.proofs.Intervals.{meets-code, read-overlap}
use Rattle.ept_space.proofs.box3.meets.Goals as goal

pub returns : goal.returns
returns c =
    record { meet = meets-code c.args.a.now c.args.b.now _ _ _ (read-overlap _ _ _ _ _ (search rules) (search rules) (search rules) (search rules) c.overlaps-x.ensures) (read-overlap _ _ _ _ _ (search rules) (search rules) (search rules) (search rules) c.overlaps-y.ensures) (read-overlap _ _ _ _ _ (search rules) (search rules) (search rules) (search rules) c.overlaps-z.ensures) }
