use Rattle.std.proofs.Common.{rules}
use Rattle.ept_space.proofs.Intervals.{contains-code, read-between}
use Rattle.ept_space.proofs.box3.contains.Goals as goal

pub returns : goal.returns
returns c =
    record { inside = contains-code c.args.a.now c.args.place _ _ _ (read-between _ _ _ _ (search rules) (search rules) (search rules) c.is_between-x.ensures) (read-between _ _ _ _ (search rules) (search rules) (search rules) c.is_between-y.ensures) (read-between _ _ _ _ (search rules) (search rules) (search rules) c.is_between-z.ensures) }
