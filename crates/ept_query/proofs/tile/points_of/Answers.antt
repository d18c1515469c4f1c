use Rattle.std.proofs.Common.{arith, refl, sym, subst}
use Rattle.ept_query.specs.declared.query_error.QueryError.{QueryError}
use Rattle.ept_query.specs.Damage.{RefusesBytes}
use Rattle.ept_query.proofs.Tiles.{IsNoTile, refuses-tile, miscounted}
use Rattle.ept_query.proofs.tile.points_of.Goals as goal

pub returns-in-Err-clause-refused : goal.returns-in-Err-clause-refused
returns-in-Err-clause-refused c =
    subst (λ (e : QueryError). RefusesBytes c.args.file (IsNoTile c.args.bytes.now c.args.count) e) (sym c.told_of.ensures) (refuses-tile c.args.file c.args.bytes.now c.args.count c.in-Err.error c.new-points.result.items c.read_tile.new.out.items c.in-Err.ensures.exact)

pub returns-else-len-count-clause-refused : goal.returns-else-len-count-clause-refused
returns-else-len-count-clause-refused c =
    (refl, miscounted c.args.bytes.now c.args.count c.new-points.result.items c.read_tile.new.out.items c.in-Ok.ensures.exact c.new-points.ensures.items (λ e. c.if-len-count.false (let len = c.len.ensures in let size = c.read_tile.new.out.ok in omega (arith, len, size.0, e))))
