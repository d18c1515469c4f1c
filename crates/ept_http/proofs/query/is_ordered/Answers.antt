use Rattle.std.proofs.Common.{rules}
use Rattle.ept_http.proofs.QueryLemmas.{ordered-code, read-at_most}
use Rattle.ept_http.proofs.query.is_ordered.Goals as goal

pub returns : goal.returns
returns c =
    ordered-code c.args.area.now _ _ _ (read-at_most _ _ _ (search rules) (search rules) c.is_at_most-x.ensures) (read-at_most _ _ _ (search rules) (search rules) c.is_at_most-y.ensures) (read-at_most _ _ _ (search rules) (search rules) c.is_at_most-z.ensures)
