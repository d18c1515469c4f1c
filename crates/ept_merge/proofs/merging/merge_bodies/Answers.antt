use Rattle.std.proofs.Common.{List, sym, subst}
use Rattle.std.proofs.lemmas.Result.{err_from_is_err_and}
use Rattle.ept_merge.specs.declared.joining.PartNode.{PartNode}
use Rattle.ept_merge.specs.Putting.{FitTogether}
use Rattle.ept_merge.proofs.Reading.{reads-none}
use Rattle.ept_merge.proofs.Sounding.{same-sound}
use Rattle.ept_merge.proofs.Outcome.{misfit-fault}
use Rattle.ept_merge.proofs.NoSource.{misfit-no_source, passed-no_source}
use Rattle.ept_merge.proofs.Staying.{none-stays}
use Rattle.ept_merge.proofs.merging.merge_bodies.Goals as goal

pub place-requires-clause-fit : goal.place-requires-clause-fit
place-requires-clause-fit g c = subst (λ (w : List PartNode). FitTogether c.args.parts.now w c.args.plan.now.points) (sym c.as_slice.ensures.value) c.in_ok-nodes.ensures.fit

pub returns-in_err-nodes-clause-refused : goal.returns-in_err-nodes-clause-refused
returns-in_err-nodes-clause-refused g c =
    let p = err_from_is_err_and c.from_residual.result c.from_residual.ensures.1 in
    rw (p.1, p.2) (misfit-fault c.args.rules.now c.args.config.now.max_nodes c.args.plan.now.points c.args.parts.now c.in_err-nodes.field-0.0 (g.T.Store.files c.args.store.now) c.in_err-nodes.ensures.refused)

pub returns-in_err-nodes-clause-no_source : goal.returns-in_err-nodes-clause-no_source
returns-in_err-nodes-clause-no_source g c =
    let p = err_from_is_err_and c.from_residual.result c.from_residual.ensures.1 in
    passed-no_source c.from_residual.result p.0 c.in_err-nodes.field-0.0 p.1 p.2 (misfit-no_source c.args.parts.now c.args.plan.now.points c.in_err-nodes.field-0.0 c.in_err-nodes.ensures.refused)

pub returns-in_err-nodes-clause-early : goal.returns-in_err-nodes-clause-early
returns-in_err-nodes-clause-early g c =
    let s = g.T.Store in
    let p = err_from_is_err_and c.from_residual.result c.from_residual.ensures.1 in
    rw (p.1, p.2) (λ none. reads-none s.files s.may_leave s.moment s.image_since c.args.store.now)

pub returns-in_err-nodes-clause-sound : goal.returns-in_err-nodes-clause-sound
returns-in_err-nodes-clause-sound g c = λ all start points told settled sound of.
    let s = g.T.Store in
    same-sound s.files s.may_leave s.moment s.image_since c.sound_steps_law.ensures.same all c.args.store.now c.args.store.now start told settled sound (reads-none s.files s.may_leave s.moment s.image_since c.args.store.now)

pub returns-in_err-nodes-clause-parts_stay : goal.returns-in_err-nodes-clause-parts_stay
returns-in_err-nodes-clause-parts_stay g c =
    let s = g.T.Store in
    none-stays s.files s.may_leave s.moment s.image_since c.args.store.now
