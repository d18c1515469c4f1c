use Rattle.std.proofs.Common.{◌∙◌, List, sym, ap, subst, arith, Option, None}
use Rattle.std.specs.Prelude.{Err}
use Rattle.std.proofs.lemmas.Result.{err_from_is_err_and}
use Rattle.ept_base.specs.Files.{Files, Tells}
use Rattle.ept_point.specs.declared.point.Point.{Point}
use Rattle.ept_save.specs.Current.{HasCurrent}
use Rattle.ept_save.proofs.Standing.{told_some}
use Rattle.ept_plan.specs.Plans.{HasPoints}
use Rattle.ept_merge.specs.declared.error.MergeError.{MergeError}
use Rattle.ept_merge.specs.Steps.{IsOpenFault, IsPlanFault}
use Rattle.ept_merge.proofs.Reading.{reads-files}
use Rattle.ept_merge.proofs.Sounding.{same-sound, settled-reads, stays-both}
use Rattle.ept_merge.proofs.Outcome.{merged-told, accepted-told, refused-told, own-told, open-not, plan-not, open-told, plan-told, err-verdict, either-verdict, complete-told, open-ready, plan-ready, ready-told, comes-told}
use Rattle.ept_merge.proofs.NoSource.{passed-no_source}
use Rattle.ept_merge.proofs.Early.{early-both}
use Rattle.ept_merge.proofs.Staying.{read-stays, both-stay}
use Rattle.ept_merge.proofs.merging.merge.Goals as goal

pub merge_plan-requires-clause-none : goal.merge_plan-requires-clause-none
merge_plan-requires-clause-none g c =
    let s = g.T.Store in
    subst (λ (o : Option Files). Tells (HasCurrent None) o) (sym (reads-files s.files s.may_leave s.moment s.image_since c.args.store.now c.open_fresh.new.store c.open_fresh.ensures.any_moment)) c.in_ok-saved.ensures.none

-- ---- the folder is not opened

pub returns-in_err-saved-clause-refused : goal.returns-in_err-saved-clause-refused
returns-in_err-saved-clause-refused g c =
    let p = err_from_is_err_and c.from_residual.result c.from_residual.ensures.1 in
    rw (p.1, p.2) (open-told c.args.config.now c.args.parts.now (g.H.Shelf.files c.args.shelf.now) (g.T.Store.files c.args.store.now) c.in_err-saved.field-0.0 c.in_err-saved.ensures.refused)

pub returns-in_err-saved-clause-complete : goal.returns-in_err-saved-clause-complete
returns-in_err-saved-clause-complete g c =
    let shelf = g.H.Shelf.files c.args.shelf.now in
    let before = g.T.Store.files c.args.store.now in
    let config = c.args.config.now in
    let parts = c.args.parts.now in
    let r = c.from_residual.result in
    let e = c.in_err-saved.field-0.0 in
    let p = err_from_is_err_and r c.from_residual.ensures.1 in
    let once = c.body_once_law.ensures.once in
    let one = c.sound_law.ensures.one in
    let not_bad = c.sound_law.ensures.not_bad in
    complete-told config parts shelf before once one not_bad r
    (err-verdict config parts shelf before once one not_bad r e (p.1 ∙ ap (λ (x : MergeError). Err x) p.2) (open-told config parts shelf before e c.in_err-saved.ensures.refused))

pub returns-in_err-saved-clause-ready : goal.returns-in_err-saved-clause-ready
returns-in_err-saved-clause-ready g c =
    let e = c.in_err-saved.field-0.0 in
    let p = err_from_is_err_and c.from_residual.result c.from_residual.ensures.1 in
    open-ready c.args.config.now c.args.parts.now (g.H.Shelf.files c.args.shelf.now) (g.T.Store.files c.args.store.now) c.sound_law.ensures.not_bad c.from_residual.result e (p.1 ∙ ap (λ (x : MergeError). Err x) p.2) c.in_err-saved.ensures.refused

pub returns-in_err-saved-clause-comes : goal.returns-in_err-saved-clause-comes
returns-in_err-saved-clause-comes g c =
    let shelf = g.H.Shelf.files c.args.shelf.now in
    let before = g.T.Store.files c.args.store.now in
    let config = c.args.config.now in
    let parts = c.args.parts.now in
    let r = c.from_residual.result in
    let e = c.in_err-saved.field-0.0 in
    let p = err_from_is_err_and r c.from_residual.ensures.1 in
    let once = c.body_once_law.ensures.once in
    let one = c.sound_law.ensures.one in
    let not_bad = c.sound_law.ensures.not_bad in
    comes-told config parts shelf before once one not_bad r
    (err-verdict config parts shelf before once one not_bad r e (p.1 ∙ ap (λ (x : MergeError). Err x) p.2) (open-told config parts shelf before e c.in_err-saved.ensures.refused))

pub returns-in_err-saved-clause-own : goal.returns-in_err-saved-clause-own
returns-in_err-saved-clause-own g c = λ all start told_shelf told own.
    let p = err_from_is_err_and c.from_residual.result c.from_residual.ensures.1 in
    let e = c.in_err-saved.field-0.0 in
    rw (p.1, p.2) (open-not start e (told_some (λ f. IsOpenFault f e) (g.T.Store.files c.args.store.now) start told c.in_err-saved.ensures.refused))

pub returns-in_err-saved-clause-sources : goal.returns-in_err-saved-clause-sources
returns-in_err-saved-clause-sources g c = record {
  later = omega arith;
  failed = λ is. absurd (
      let p = err_from_is_err_and c.from_residual.result c.from_residual.ensures.1 in
      passed-no_source c.from_residual.result p.0 c.in_err-saved.field-0.0 p.1 p.2 (λ same. c.in_err-saved.ensures.no_source (ap (λ (e : MergeError). Err e) same)) is
      );
}

pub returns-in_err-saved-clause-early : goal.returns-in_err-saved-clause-early
returns-in_err-saved-clause-early g c =
    let p = err_from_is_err_and c.from_residual.result c.from_residual.ensures.1 in
    rw (p.1, p.2) (λ none. c.open_fresh.ensures.any_moment)

pub returns-in_err-saved-clause-sound : goal.returns-in_err-saved-clause-sound
returns-in_err-saved-clause-sound g c = λ all start told_shelf told settled sound parts.
    let s = g.T.Store in
    same-sound s.files s.may_leave s.moment s.image_since c.sound_steps_law.ensures.same all c.args.store.now c.open_fresh.new.store start told settled sound c.open_fresh.ensures.any_moment

-- ---- there is no plan

pub returns-in_err-plan-clause-refused : goal.returns-in_err-plan-clause-refused
returns-in_err-plan-clause-refused g c =
    let p = err_from_is_err_and c.from_residual-in_err-plan.result c.from_residual-in_err-plan.ensures.1 in
    rw (p.1, p.2)
    (plan-told c.args.config.now c.args.parts.now (g.H.Shelf.files c.args.shelf.now) (g.T.Store.files c.args.store.now) c.in_err-plan.field-0.0 c.in_ok-saved.ensures.none c.in_err-plan.ensures.refused)

pub returns-in_err-plan-clause-complete : goal.returns-in_err-plan-clause-complete
returns-in_err-plan-clause-complete g c =
    let shelf = g.H.Shelf.files c.args.shelf.now in
    let before = g.T.Store.files c.args.store.now in
    let config = c.args.config.now in
    let parts = c.args.parts.now in
    let r = c.from_residual-in_err-plan.result in
    let e = c.in_err-plan.field-0.0 in
    let p = err_from_is_err_and r c.from_residual-in_err-plan.ensures.1 in
    let once = c.body_once_law.ensures.once in
    let one = c.sound_law.ensures.one in
    let not_bad = c.sound_law.ensures.not_bad in
    complete-told config parts shelf before once one not_bad r
    (err-verdict config parts shelf before once one not_bad r e (p.1 ∙ ap (λ (x : MergeError). Err x) p.2) (plan-told config parts shelf before e c.in_ok-saved.ensures.none c.in_err-plan.ensures.refused))

pub returns-in_err-plan-clause-ready : goal.returns-in_err-plan-clause-ready
returns-in_err-plan-clause-ready g c =
    let e = c.in_err-plan.field-0.0 in
    let p = err_from_is_err_and c.from_residual-in_err-plan.result c.from_residual-in_err-plan.ensures.1 in
    plan-ready c.args.config.now c.args.parts.now (g.H.Shelf.files c.args.shelf.now) (g.T.Store.files c.args.store.now) c.from_residual-in_err-plan.result e (p.1 ∙ ap (λ (x : MergeError). Err x) p.2) c.in_err-plan.ensures.refused

pub returns-in_err-plan-clause-comes : goal.returns-in_err-plan-clause-comes
returns-in_err-plan-clause-comes g c =
    let shelf = g.H.Shelf.files c.args.shelf.now in
    let before = g.T.Store.files c.args.store.now in
    let config = c.args.config.now in
    let parts = c.args.parts.now in
    let r = c.from_residual-in_err-plan.result in
    let e = c.in_err-plan.field-0.0 in
    let p = err_from_is_err_and r c.from_residual-in_err-plan.ensures.1 in
    let once = c.body_once_law.ensures.once in
    let one = c.sound_law.ensures.one in
    let not_bad = c.sound_law.ensures.not_bad in
    comes-told config parts shelf before once one not_bad r
    (err-verdict config parts shelf before once one not_bad r e (p.1 ∙ ap (λ (x : MergeError). Err x) p.2) (plan-told config parts shelf before e c.in_ok-saved.ensures.none c.in_err-plan.ensures.refused))

pub returns-in_err-plan-clause-own : goal.returns-in_err-plan-clause-own
returns-in_err-plan-clause-own g c = λ all start told_shelf told own.
    let p = err_from_is_err_and c.from_residual-in_err-plan.result c.from_residual-in_err-plan.ensures.1 in
    let e = c.in_err-plan.field-0.0 in
    rw (p.1, p.2) (plan-not all c.args.config.now e (told_some (λ f. IsPlanFault f c.args.config.now e) (g.H.Shelf.files c.args.shelf.now) all told_shelf c.in_err-plan.ensures.refused))

pub returns-in_err-plan-clause-early : goal.returns-in_err-plan-clause-early
returns-in_err-plan-clause-early g c =
    let p = err_from_is_err_and c.from_residual-in_err-plan.result c.from_residual-in_err-plan.ensures.1 in
    rw (p.1, p.2) (λ none. c.open_fresh.ensures.any_moment)

pub returns-in_err-plan-clause-sound : goal.returns-in_err-plan-clause-sound
returns-in_err-plan-clause-sound g c = λ all start told_shelf told settled sound parts.
    let s = g.T.Store in
    same-sound s.files s.may_leave s.moment s.image_since c.sound_steps_law.ensures.same all c.args.store.now c.open_fresh.new.store start told settled sound c.open_fresh.ensures.any_moment

-- ---- by the plan

pub returns-clause-merged : goal.returns-clause-merged
returns-clause-merged g c =
    merged-told (g.H.Shelf.files c.args.shelf.now) c.args.config.now c.in_ok-plan.plan c.in_ok-plan.ensures.plan c.in_ok-plan.ensures.deep c.in_ok-plan.ensures.scan c.merge_plan.result (g.T.Store.files c.merge_plan.new.store) c.merge_plan.ensures.merged

pub returns-clause-accepted : goal.returns-clause-accepted
returns-clause-accepted g c =
    let s = g.T.Store in
    accepted-told (g.H.Shelf.files c.args.shelf.now) c.args.config.now c.in_ok-plan.plan c.in_ok-plan.ensures.plan c.in_ok-plan.ensures.deep c.in_ok-plan.ensures.scan c.args.parts.now (s.files c.args.store.now) (s.files c.open_fresh.new.store) c.in_ok-saved.ensures.none
    (reads-files s.files s.may_leave s.moment s.image_since c.args.store.now c.open_fresh.new.store c.open_fresh.ensures.any_moment) c.merge_plan.result c.merge_plan.ensures.accepted

pub returns-clause-refused : goal.returns-clause-refused
returns-clause-refused g c =
    let s = g.T.Store in
    refused-told (g.H.Shelf.files c.args.shelf.now) c.args.config.now c.in_ok-plan.plan c.in_ok-plan.ensures.plan c.in_ok-plan.ensures.deep c.in_ok-plan.ensures.scan c.args.parts.now (s.files c.args.store.now) (s.files c.open_fresh.new.store) c.in_ok-saved.ensures.none
    (reads-files s.files s.may_leave s.moment s.image_since c.args.store.now c.open_fresh.new.store c.open_fresh.ensures.any_moment) c.merge_plan.result c.merge_plan.ensures.refused

pub returns-clause-complete : goal.returns-clause-complete
returns-clause-complete g c =
    let shelf = g.H.Shelf.files c.args.shelf.now in
    let before = g.T.Store.files c.args.store.now in
    let config = c.args.config.now in
    let parts = c.args.parts.now in
    let r = c.merge_plan.result in
    let once = c.body_once_law.ensures.once in
    let one = c.sound_law.ensures.one in
    let not_bad = c.sound_law.ensures.not_bad in
    complete-told config parts shelf before once one not_bad r
    (either-verdict config parts shelf before once one not_bad r (returns-clause-accepted g c) (returns-clause-refused g c))

pub returns-clause-ready : goal.returns-clause-ready
returns-clause-ready g c =
    let s = g.T.Store in
    ready-told (g.H.Shelf.files c.args.shelf.now) c.args.config.now c.in_ok-plan.plan c.in_ok-plan.ensures.plan c.in_ok-plan.ensures.deep c.in_ok-plan.ensures.scan c.args.parts.now (s.files c.args.store.now) (s.files c.open_fresh.new.store) c.in_ok-saved.ensures.none
    (reads-files s.files s.may_leave s.moment s.image_since c.args.store.now c.open_fresh.new.store c.open_fresh.ensures.any_moment) c.body_once_law.ensures.once c.tile_once_law.ensures.once c.output_once_law.ensures.sampled c.requires c.merge_plan.result c.merge_plan.ensures.refused

pub returns-clause-comes : goal.returns-clause-comes
returns-clause-comes g c =
    let shelf = g.H.Shelf.files c.args.shelf.now in
    let before = g.T.Store.files c.args.store.now in
    let config = c.args.config.now in
    let parts = c.args.parts.now in
    let r = c.merge_plan.result in
    let once = c.body_once_law.ensures.once in
    let one = c.sound_law.ensures.one in
    let not_bad = c.sound_law.ensures.not_bad in
    comes-told config parts shelf before once one not_bad r
    (either-verdict config parts shelf before once one not_bad r (returns-clause-accepted g c) (returns-clause-refused g c))

pub returns-clause-sources : goal.returns-clause-sources
returns-clause-sources g c = record {
  later = c.plan_of.ensures.cause.later;
  failed = λ is. absurd (c.merge_plan.ensures.no_source is);
}

pub returns-clause-own : goal.returns-clause-own
returns-clause-own g c =
    let s = g.T.Store in
    own-told (g.H.Shelf.files c.args.shelf.now) c.args.config.now c.in_ok-plan.plan c.in_ok-plan.ensures.plan c.in_ok-plan.ensures.deep c.in_ok-plan.ensures.scan c.args.parts.now (s.files c.args.store.now) (s.files c.open_fresh.new.store) c.in_ok-saved.ensures.none
    (reads-files s.files s.may_leave s.moment s.image_since c.args.store.now c.open_fresh.new.store c.open_fresh.ensures.any_moment) c.body_once_law.ensures.once c.tile_once_law.ensures.once c.output_once_law.ensures.sampled c.requires c.merge_plan.result c.merge_plan.ensures.refused

pub returns-clause-early : goal.returns-clause-early
returns-clause-early g c =
    let s = g.T.Store in
    early-both s.files s.may_leave s.moment s.image_since c.merge_plan.result c.args.store.now c.open_fresh.new.store c.merge_plan.new.store c.open_fresh.ensures.any_moment c.merge_plan.ensures.early

pub returns-clause-sound : goal.returns-clause-sound
returns-clause-sound g c = λ all start told_shelf told settled sound parts.
    let s = g.T.Store in
    let reads = reads-files s.files s.may_leave s.moment s.image_since c.args.store.now c.open_fresh.new.store c.open_fresh.ensures.any_moment in
    let h = told_some (λ f. (points : List Point) × HasPoints f c.args.config.now None c.in_ok-plan.plan points) (g.H.Shelf.files c.args.shelf.now) all told_shelf c.in_ok-plan.ensures.scan in
    stays-both s.files s.may_leave s.moment s.image_since all c.args.store.now c.open_fresh.new.store c.merge_plan.new.store
    (same-sound s.files s.may_leave s.moment s.image_since c.sound_steps_law.ensures.same all c.args.store.now c.open_fresh.new.store start told settled sound c.open_fresh.ensures.any_moment)
    (c.merge_plan.ensures.sound all start h.0 (reads ∙ told) (settled-reads s.files s.may_leave s.moment s.image_since c.args.store.now c.open_fresh.new.store start told settled c.open_fresh.ensures.any_moment) sound h.1 parts)

-- ---- the parts stay

pub returns-in_err-saved-clause-parts_stay : goal.returns-in_err-saved-clause-parts_stay
returns-in_err-saved-clause-parts_stay g c =
    let s = g.T.Store in
    read-stays s.files s.may_leave s.moment s.image_since c.args.store.now c.open_fresh.new.store c.open_fresh.ensures.any_moment

pub returns-in_err-plan-clause-parts_stay : goal.returns-in_err-plan-clause-parts_stay
returns-in_err-plan-clause-parts_stay g c =
    let s = g.T.Store in
    read-stays s.files s.may_leave s.moment s.image_since c.args.store.now c.open_fresh.new.store c.open_fresh.ensures.any_moment

pub returns-clause-parts_stay : goal.returns-clause-parts_stay
returns-clause-parts_stay g c =
    let s = g.T.Store in
    both-stay s.files s.may_leave s.moment s.image_since c.args.store.now c.open_fresh.new.store c.merge_plan.new.store (read-stays s.files s.may_leave s.moment s.image_since c.args.store.now c.open_fresh.new.store c.open_fresh.ensures.any_moment) c.merge_plan.ensures.parts_stay
