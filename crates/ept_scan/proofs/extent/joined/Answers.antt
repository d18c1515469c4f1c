use Rattle.std.proofs.Common.{rules}
use Rattle.ept_scan.proofs.Spans.{plain_least, plain_greatest, extent_joined}
use Rattle.ept_scan.proofs.extent.joined.Goals as goal

pub returns : goal.returns
returns c xs ys =
    extent_joined xs ys c.args.a.now c.args.b.now _ _ _ _ _ _
    (plain_least _ _ _ (search rules) (search rules) (search rules) c.least.ensures) (plain_least _ _ _ (search rules) (search rules) (search rules) c.least-2.ensures) (plain_least _ _ _ (search rules) (search rules) (search rules) c.least-3.ensures)
    (plain_greatest _ _ _ (search rules) (search rules) (search rules) c.greatest.ensures) (plain_greatest _ _ _ (search rules) (search rules) (search rules) c.greatest-2.ensures) (plain_greatest _ _ _ (search rules) (search rules) (search rules) c.greatest-3.ensures)
