use Rattle.ept_check.proofs.Once.{answer-comes, folder-called, complete-answer}
use Rattle.ept_check.proofs.checking.check.Goals as goal

pub returns-clause-answers : goal.returns-clause-answers
returns-clause-answers g c =
    folder-called c.complete_law.ensures.once c.fit_law.ensures.sampled c.nodes_law.ensures.in_octree c.nodes_law.ensures.root (g.T.Store.files c.args.store.now) c.judge.result c.judge.ensures.answers

pub returns-clause-comes : goal.returns-clause-comes
returns-clause-comes g c =
    answer-comes c.complete_law.ensures.once c.fit_law.ensures.fit c.nodes_law.ensures.once c.nodes_law.ensures.in_octree c.nodes_law.ensures.uncalled c.nodes_law.ensures.called_once (g.T.Store.files c.args.store.now) c.judge.result
    (folder-called c.complete_law.ensures.once c.fit_law.ensures.sampled c.nodes_law.ensures.in_octree c.nodes_law.ensures.root (g.T.Store.files c.args.store.now) c.judge.result c.judge.ensures.answers)

pub returns-clause-complete : goal.returns-clause-complete
returns-clause-complete g c = λ kept points all is whole.
    complete-answer c.complete_law.ensures.once c.fit_law.ensures.fit c.fit_law.ensures.sampled c.output_once_law.ensures.sampled c.point_law.ensures.one_node c.nodes_law.ensures.complete kept points all whole
    c.nodes_law.ensures.once c.nodes_law.ensures.in_octree c.nodes_law.ensures.uncalled c.nodes_law.ensures.called_once c.complete_law.ensures.plan (g.T.Store.files c.args.store.now) c.judge.result is
    (folder-called c.complete_law.ensures.once c.fit_law.ensures.sampled c.nodes_law.ensures.in_octree c.nodes_law.ensures.root (g.T.Store.files c.args.store.now) c.judge.result c.judge.ensures.answers)
