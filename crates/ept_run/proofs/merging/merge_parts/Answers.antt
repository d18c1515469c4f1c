use Rattle.std.proofs.Common.{◌⊎◌, ◌∙◌, ap, sym, subst, Err}
use Rattle.std.specs.Prelude.{Result, IsOk}
use Rattle.ept_base.specs.Files.{Tells}
use Rattle.ept_merge.specs.declared.error.MergeError.{MergeError}
use Rattle.ept_merge.specs.Merging as merging
use Rattle.ept_command.specs.declared.refusal.MergeRefusal.{MergeRefusal}
use Rattle.ept_run.specs.Merges.{of_merge, FailsMerge, ReportsMerge, IsFaultOfParts, IsEarlyMerge}
use Rattle.ept_run.proofs.Ready.{merged_as, merging_ready, merging_comes}
use Rattle.ept_run.proofs.Merged.{never_parts, before_tiles}
use Rattle.ept_run.proofs.merging.merge_parts.Goals as goal

pub returns-in-Err-clause-own : goal.returns-in-Err-clause-own
returns-in-Err-clause-own g c = λ all start told stored own fault.
    never_parts c.in-Err.error (c.in-Err.ensures.own all start told stored own) (subst (λ (r : MergeRefusal). IsFaultOfParts r) c.merge_refusal_of.ensures fault)

pub returns-in-Err-clause-early : goal.returns-in-Err-clause-early
returns-in-Err-clause-early g c = λ early.
    c.in-Err.ensures.early (before_tiles c.in-Err.error (subst (λ (r : MergeRefusal). IsEarlyMerge r) c.merge_refusal_of.ensures early))

pub returns-in-Ok-clause-ready : goal.returns-in-Ok-clause-ready
returns-in-Ok-clause-ready g c =
    subst (λ (r : Result (Unit {0}) MergeRefusal). Tells (λ all. Tells (λ start. merging.AreReady all start c.args.config.now c.args.parts.now → IsOk r ⊎ FailsMerge r) (g.T.Store.files c.args.store.now)) (g.H.Shelf.files c.args.shelf.now)) (ap merged_as c.in-Ok.is)
    (merging_ready c.merge.result (g.H.Shelf.files c.args.shelf.now) (g.T.Store.files c.args.store.now) c.args.config.now c.args.parts.now c.merge.ensures.ready)

pub returns-in-Err-clause-ready : goal.returns-in-Err-clause-ready
returns-in-Err-clause-ready g c =
    subst (λ (r : Result (Unit {0}) MergeRefusal). Tells (λ all. Tells (λ start. merging.AreReady all start c.args.config.now c.args.parts.now → IsOk r ⊎ FailsMerge r) (g.T.Store.files c.args.store.now)) (g.H.Shelf.files c.args.shelf.now)) (ap merged_as c.in-Err.is ∙ ap (λ (r : MergeRefusal). Err r) (sym c.merge_refusal_of.ensures))
    (merging_ready c.merge.result (g.H.Shelf.files c.args.shelf.now) (g.T.Store.files c.args.store.now) c.args.config.now c.args.parts.now c.merge.ensures.ready)

pub returns-in-Ok-clause-comes : goal.returns-in-Ok-clause-comes
returns-in-Ok-clause-comes g c =
    subst (λ (r : Result (Unit {0}) MergeRefusal). Tells (λ all. Tells (λ start. (error : MergeError) → merging.IsDefinite error → merging.IsRefused all start c.args.config.now c.args.parts.now error → ReportsMerge (of_merge error) r ⊎ FailsMerge r) (g.T.Store.files c.args.store.now)) (g.H.Shelf.files c.args.shelf.now)) (ap merged_as c.in-Ok.is)
    (merging_comes c.merge.result (g.H.Shelf.files c.args.shelf.now) (g.T.Store.files c.args.store.now) c.args.config.now c.args.parts.now c.merge.ensures.comes)

pub returns-in-Err-clause-comes : goal.returns-in-Err-clause-comes
returns-in-Err-clause-comes g c =
    subst (λ (r : Result (Unit {0}) MergeRefusal). Tells (λ all. Tells (λ start. (error : MergeError) → merging.IsDefinite error → merging.IsRefused all start c.args.config.now c.args.parts.now error → ReportsMerge (of_merge error) r ⊎ FailsMerge r) (g.T.Store.files c.args.store.now)) (g.H.Shelf.files c.args.shelf.now)) (ap merged_as c.in-Err.is ∙ ap (λ (r : MergeRefusal). Err r) (sym c.merge_refusal_of.ensures))
    (merging_comes c.merge.result (g.H.Shelf.files c.args.shelf.now) (g.T.Store.files c.args.store.now) c.args.config.now c.args.parts.now c.merge.ensures.comes)
