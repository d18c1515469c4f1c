use Rattle.std.proofs.Common.{rules}
use Rattle.ept_scan.proofs.Spans.{plain_between, within_code}
use Rattle.ept_scan.proofs.extent.is_within.Goals as goal

pub returns : goal.returns
returns c p lies =
    within_code c.args.bounds.now p c.args.place _ _ _ lies (plain_between _ _ _ _ (search rules) (search rules) (search rules) c.is_between-x.ensures) (plain_between _ _ _ _ (search rules) (search rules) (search rules) c.is_between-y.ensures)
    (plain_between _ _ _ _ (search rules) (search rules) (search rules) c.is_between-z.ensures)
