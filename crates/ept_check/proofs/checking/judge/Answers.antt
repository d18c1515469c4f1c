use Rattle.std.proofs.Common.{◌≡◌, Some}
use Rattle.ept_query.specs.declared.listing.TheConstants.{EVERYWHERE}
use Rattle.ept_query.specs.Listed.{HasNodes}
use Rattle.ept_query.specs.Planning.{GetsFiles, GetsAll}
use Rattle.ept_check.proofs.Told.{tells-from, told}
use Rattle.ept_check.proofs.Backs.{folder-from}
use Rattle.ept_check.proofs.checking.judge.Goals as goal

pub returns-clause-answers : goal.returns-clause-answers
returns-clause-answers g c =
    folder-from c.in_ok-all.all.rules c.in_ok-all.all.nodes.items (g.T.Store.files c.args.store.now) (g.T.Store.files c.all_nodes.new.store) c.judge_nodes.result c.in_ok-all.ensures.nodes c.all_nodes.ensures.any_moment.reads c.judge_nodes.ensures.answers

pub returns-clause-gets : goal.returns-clause-gets
returns-clause-gets g c =
    let files = g.T.Store.files c.args.store.now in
    tells-from (GetsAll EVERYWHERE 0 32 (g.T.Store.gets c.args.store.now) (g.T.Store.gets c.judge_nodes.new.store)) files (λ all is.
    c.nodes_law.ensures.got all c.in_ok-all.all.rules c.in_ok-all.all.nodes.items (g.T.Store.gets c.args.store.now) (g.T.Store.gets c.all_nodes.new.store) (g.T.Store.gets c.judge_nodes.new.store)
    (told (HasNodes c.in_ok-all.all.rules c.in_ok-all.all.nodes.items) files all is c.in_ok-all.ensures.nodes)
    (told (GetsFiles EVERYWHERE 0 32 (g.T.Store.gets c.args.store.now) (g.T.Store.gets c.all_nodes.new.store)) files all is c.in_ok-all.ensures.gets)
    c.judge_nodes.ensures.gets)
