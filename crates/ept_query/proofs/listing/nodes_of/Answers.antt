use Rattle.std.proofs.lemmas.Result.{err_from_is_err_and}
use Rattle.ept_query.specs.declared.listing.TheConstants.{EVERYWHERE}
use Rattle.ept_query.proofs.Refusing.{walk-plan, found-plan, gets-plan}
use Rattle.ept_query.proofs.Listed.{found-nodes}
use Rattle.ept_query.proofs.listing.nodes_of.Goals as goal

pub returns-in_err-nodes-clause-refused : goal.returns-in_err-nodes-clause-refused
returns-in_err-nodes-clause-refused g c =
    let p = err_from_is_err_and c.from_residual-in_err-nodes.result c.from_residual-in_err-nodes.ensures.1 in
    rw (p.1, p.2) (walk-plan EVERYWHERE 0 32 c.in_ok-search.search (g.T.Store.files c.args.store.now) (g.T.Store.files c.search_at.new.store) c.in_ok-search.ensures.found c.in_ok-search.ensures.any_moment.reads c.in_err-nodes.field-0.0 c.in_err-nodes.ensures.refused)

pub returns-in_err-nodes-clause-gets : goal.returns-in_err-nodes-clause-gets
returns-in_err-nodes-clause-gets g c =
    gets-plan EVERYWHERE 0 32 c.in_ok-search.search (g.T.Store.files c.args.store.now) (g.T.Store.files c.search_at.new.store) c.in_ok-search.ensures.found c.in_ok-search.ensures.any_moment.reads
    (g.T.Store.gets c.args.store.now) (g.T.Store.gets c.search_at.new.store) (g.T.Store.gets c.tiles_of.new.store) c.in_ok-search.ensures.gets c.in_err-nodes.ensures.gets

pub returns-clause-nodes : goal.returns-clause-nodes
returns-clause-nodes g c =
    rw c.rules.ensures (found-nodes c.in_ok-search.search (g.T.Store.files c.args.store.now) c.in_ok-nodes.nodes.items c.in_ok-search.ensures.found
    (found-plan EVERYWHERE 0 32 c.in_ok-search.search (g.T.Store.files c.args.store.now) (g.T.Store.files c.search_at.new.store) c.in_ok-search.ensures.found c.in_ok-search.ensures.any_moment.reads
    (record { area = EVERYWHERE; tiles = c.in_ok-nodes.nodes.items }) c.in_ok-nodes.ensures.plan))

pub returns-clause-gets : goal.returns-clause-gets
returns-clause-gets g c =
    gets-plan EVERYWHERE 0 32 c.in_ok-search.search (g.T.Store.files c.args.store.now) (g.T.Store.files c.search_at.new.store) c.in_ok-search.ensures.found c.in_ok-search.ensures.any_moment.reads
    (g.T.Store.gets c.args.store.now) (g.T.Store.gets c.search_at.new.store) (g.T.Store.gets c.tiles_of.new.store) c.in_ok-search.ensures.gets c.in_ok-nodes.ensures.gets
