use Rattle.ept_hier.specs.Hierarchy.{keys_of}
use Rattle.ept_mem_infallible.specs.Objects.{store_files_of}
use Rattle.ept_trial.proofs.Nodes.{trial-found}
use Rattle.ept_trial.proofs.tallying.tallied.Goals as goal

pub returns : goal.returns
returns c =
    let h = c.requires in
    let can = c.output_once_law.ensures.sampled h.kept h.points h.complete.points_are.inside (c.id_law.ensures.ordered h.points h.complete.points_are.ascend).0 in
    trial-found c.args.points (store_files_of c.args.store.now) (store_files_of c.nodes.new.store) h c.nodes.ensures.files
    c.node_law.ensures.keys c.node_law.ensures.ascend c.node_law.ensures.have_keys c.node_law.ensures.shallow can
    (keys_of c.in_ok-plan.plan.tiles) (c.in_ok-plan.ensures.keys h) c.tally.result c.tally.ensures.points c.tally.ensures.tally
