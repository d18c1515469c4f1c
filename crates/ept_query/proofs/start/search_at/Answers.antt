use Rattle.ept_query.proofs.Refusing.{found-start, done-found}
use Rattle.ept_query.proofs.start.search_at.Goals as goal

pub returns-clause-found : goal.returns-clause-found
returns-clause-found g c =
    found-start c.args.area.now c.args.depths.0 c.args.depths.1 c.in_ok-kept.kept c.of.result (g.T.Store.files c.args.store.now) (g.T.Store.files c.is_done.new.store) c.of.ensures
    (done-found c.in_ok-is_done.field-0 (g.T.Store.files c.args.store.now) c.if-not-branch.false c.in_ok-is_done.ensures.done)
    c.in_ok-is_done.ensures.any_moment.reads c.in_ok-kept.ensures.found
