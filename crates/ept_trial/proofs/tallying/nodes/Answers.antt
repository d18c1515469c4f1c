use Rattle.std.proofs.Common.{◌≡◌, ◌∙◌, ⊎_elim, Err, refl, ap}
use Rattle.ept_mem_infallible.specs.Objects.{store_files_of}
use Rattle.ept_query.specs.declared.query_error.QueryError.{QueryError}
use Rattle.ept_query.specs.declared.query_error.QueryError.TheVariants.{StoreFault, Memory}
use Rattle.ept_trial.proofs.Faults.{no-fault}
use Rattle.ept_trial.proofs.Nodes.{plan-keys}
use Rattle.ept_trial.proofs.tallying.nodes.Goals as goal

pub only_memory-requires : goal.only_memory-requires
only_memory-requires c =
    ⊎_elim (λ (is : c.in-Err.error ≡ StoreFault). absurd (no-fault StoreFault c.query_plan.result c.query_plan.ensures.cause (c.in-Err.is ∙ ap (λ (e : QueryError). Err e) is)))
    (λ (is : c.in-Err.error ≡ Memory). is)
    (c.in-Err.ensures.complete c.requires.kept c.requires.points (store_files_of c.args.store.now) refl c.requires.complete).1

pub returns-in-Ok-clause-keys : goal.returns-in-Ok-clause-keys
returns-in-Ok-clause-keys c = λ is.
    let can = c.output_once_law.ensures.sampled is.kept is.points is.complete.points_are.inside (c.id_law.ensures.ordered is.points is.complete.points_are.ascend).0 in
    plan-keys is.kept is.points is.rules_are c.node_law.ensures.keys c.node_law.ensures.ascend c.node_law.ensures.have_keys c.node_law.ensures.shallow can c.in-Ok.plan.tiles
    (c.in-Ok.ensures.complete is.kept is.points (store_files_of c.args.store.now) refl is.complete).0
