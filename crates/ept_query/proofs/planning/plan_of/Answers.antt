use Rattle.std.proofs.lemmas.Result.{err_from_is_err_and}
use Rattle.ept_query.proofs.Refusing.{walk-plan, found-plan, gets-plan}
use Rattle.ept_query.proofs.planning.plan_of.Goals as goal

pub returns-in_err-tiles-clause-refused : goal.returns-in_err-tiles-clause-refused
returns-in_err-tiles-clause-refused g c =
    let p = err_from_is_err_and c.from_residual-in_err-tiles.result c.from_residual-in_err-tiles.ensures.1 in
    rw (p.1, p.2) (walk-plan c.args.area.now c.args.depths.0 c.args.depths.1 c.in_ok-search.search (g.T.Store.files c.args.store.now) (g.T.Store.files c.search_at.new.store) c.in_ok-search.ensures.found c.in_ok-search.ensures.any_moment.reads c.in_err-tiles.field-0.0 c.in_err-tiles.ensures.refused)

pub returns-in_err-tiles-clause-gets : goal.returns-in_err-tiles-clause-gets
returns-in_err-tiles-clause-gets g c =
    gets-plan c.args.area.now c.args.depths.0 c.args.depths.1 c.in_ok-search.search (g.T.Store.files c.args.store.now) (g.T.Store.files c.search_at.new.store) c.in_ok-search.ensures.found c.in_ok-search.ensures.any_moment.reads
    (g.T.Store.gets c.args.store.now) (g.T.Store.gets c.search_at.new.store) (g.T.Store.gets c.tiles_of.new.store) c.in_ok-search.ensures.gets c.in_err-tiles.ensures.gets

pub returns-clause-plan : goal.returns-clause-plan
returns-clause-plan g c =
    found-plan c.args.area.now c.args.depths.0 c.args.depths.1 c.in_ok-search.search (g.T.Store.files c.args.store.now) (g.T.Store.files c.search_at.new.store) c.in_ok-search.ensures.found c.in_ok-search.ensures.any_moment.reads
    (record { area = c.args.area.now; tiles = c.in_ok-tiles.tiles.items }) c.in_ok-tiles.ensures.plan

pub returns-clause-gets : goal.returns-clause-gets
returns-clause-gets g c =
    gets-plan c.args.area.now c.args.depths.0 c.args.depths.1 c.in_ok-search.search (g.T.Store.files c.args.store.now) (g.T.Store.files c.search_at.new.store) c.in_ok-search.ensures.found c.in_ok-search.ensures.any_moment.reads
    (g.T.Store.gets c.args.store.now) (g.T.Store.gets c.search_at.new.store) (g.T.Store.gets c.tiles_of.new.store) c.in_ok-search.ensures.gets c.in_ok-tiles.ensures.gets
