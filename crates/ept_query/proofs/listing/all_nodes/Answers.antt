use Rattle.ept_query.proofs.Listed.{nodes-comes}
use Rattle.ept_query.proofs.listing.all_nodes.Goals as goal

pub returns-clause-comes : goal.returns-clause-comes
returns-clause-comes g c =
    nodes-comes (g.T.Store.files c.args.store.now) c.nodes_of.result c.nodes_of.ensures.nodes c.nodes_of.ensures.refused
