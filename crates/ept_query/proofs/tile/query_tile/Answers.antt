use Rattle.std.proofs.Common.{subst}
use Rattle.std.proofs.lemmas.Result.{err_from_is_err_and}
use Rattle.ept_hier.specs.Hierarchy.{Node}
use Rattle.ept_query.specs.declared.query_error.QueryFile.TheVariants.{Tile}
use Rattle.ept_query.specs.Damage.{HasNoTile, RefusesReading}
use Rattle.ept_query.proofs.tile.query_tile.Goals as goal

pub returns-in_err-bytes-clause-refused : goal.returns-in_err-bytes-clause-refused
returns-in_err-bytes-clause-refused g c =
    let p = err_from_is_err_and c.from_residual.result c.from_residual.ensures.1 in
    rw (p.1, p.2) (subst (λ (n : Node). RefusesReading (Tile n.0) (λ all. HasNoTile all n.0 n.1) (g.T.Store.files c.args.store.now) c.in_err-bytes.field-0.0) c.node-key.ensures c.in_err-bytes.ensures.refused)
